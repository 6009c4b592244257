use Rattle.std.proofs.Common.{◌≡◌, ◌≢◌, ◌≤◌, ◌-◌, ◌^◌, false, length}
use Rattle.typed_csv.specs.declared.loader.Stage.TheVariants as stage
use Rattle.row_inserts.specs.InsertsValue.{IsGiven, inserts_value}
use Rattle.row_inserts.proofs.inserts.gather.Given as goal

-- All rows that were read wait in the piece.
abbrev pub invariant-loop-alloc : goal.invariant-loop-alloc
invariant-loop-alloc g l = record {
  resource : l.piece.resource ≡ l.fn.piece.resource;
  fields : l.loader.fields ≡ l.fn.loader.fields;
  reads : l.loader.stage ≢ stage.Spent;
  within : l.loader.given ≤ 2 ^ 40;
  remaining : (inserts_value l.fn.loader l.fn.piece false).remaining ≡ (inserts_value l.loader l.piece false).remaining;
  received : IsGiven g.S.Source.to_come (inserts_value l.fn.loader l.fn.piece false)
      (inserts_value l.loader l.piece false);
  counts : g.S.Source.faults l.fn.loader.source ≤ g.S.Source.faults l.loader.source;
  loan : g.S.Source.loan l.loader.source ≡ g.S.Source.loan l.fn.loader.source;
}

abbrev pub decreases-loop-alloc : goal.decreases-loop-alloc
decreases-loop-alloc g l = 500 - length l.piece.records

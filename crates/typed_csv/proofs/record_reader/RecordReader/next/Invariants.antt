use Rattle.std.proofs.Common.{◌≡◌, ◌-◌, ◌≤◌, ◌^◌}
use Rattle.typed_csv.specs.ReaderValue.{remaining_records, Receives}
use Rattle.typed_csv.specs.Positions.{IsIncomplete}
use Rattle.typed_csv.proofs.record_reader.RecordReader.next.Given as goal

-- pieces came, whose records are all still to come
abbrev pub invariant-loop-next : goal.invariant-loop-next
invariant-loop-next g l = record {
  remaining : remaining_records g.S.Source.to_come l.self ≡ remaining_records g.S.Source.to_come l.fn.self;
  received : Receives g.S.Source.to_come l.fn.self l.self;
  counts : g.S.Source.faults l.fn.self.source ≤ g.S.Source.faults l.self.source;
  loan : g.S.Source.loan l.self.source ≡ g.S.Source.loan l.fn.self.source;
  within : l.self.given ≤ 2 ^ 40;
  held : IsIncomplete l.fn.self.is_fresh l.fn.self.held → IsIncomplete l.self.is_fresh l.self.held;
}

abbrev pub decreases-loop-next : goal.decreases-loop-next
decreases-loop-next g l = 2 ^ 40 - l.self.given

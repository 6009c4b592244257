use Rattle.std.proofs.Common.{◌≡◌, ◌∙◌, ap, subst, arith, false, Ok, refl}
use Rattle.std.proofs.lemmas.Grind.{common_steps}
use Rattle.typed_csv.specs.LoaderValue as loading
use Rattle.typed_csv.specs.declared.loader.Stage.TheVariants as stage
use Rattle.row_inserts.specs.InsertsValue.{inserts_value}
use Rattle.row_inserts.specs.Piece.{Puts}
use Rattle.row_inserts.proofs.InsertsLemmas.{remaining_put, answers_full, answers_next, counted_on, record_is}
use Rattle.row_inserts.proofs.InsertsLemmas.{within_still}
use Rattle.row_inserts.proofs.inserts.gather.Goals as goal

-- ---- the bytes received

pub returns-in_err-cells-clause-received : goal.returns-in_err-cells-clause-received
returns-in_err-cells-clause-received g c =
    counted_on (g.S.Source.to_come c.args.loader.now.source) (g.S.Source.to_come c.loop-alloc.loader.source)
    (g.S.Source.to_come c.next.new.self.source) c.args.loader.now.given c.loop-alloc.loader.given
    c.next.new.self.given c.loop-alloc.invariant.received c.in_err-cells.ensures.received

pub returns-in_err-take_rest-clause-received : goal.returns-in_err-take_rest-clause-received
returns-in_err-take_rest-clause-received g c =
    counted_on (g.S.Source.to_come c.args.loader.now.source) (g.S.Source.to_come c.loop-alloc.loader.source)
    (g.S.Source.to_come c.next.new.self.source) c.args.loader.now.given c.loop-alloc.loader.given
    c.next.new.self.given c.loop-alloc.invariant.received c.in_ok-cells.ensures.received

pub returns-in_default-clause-received : goal.returns-in_default-clause-received
returns-in_default-clause-received g c =
    counted_on (g.S.Source.to_come c.args.loader.now.source) (g.S.Source.to_come c.loop-alloc.loader.source)
    (g.S.Source.to_come c.next.new.self.source) c.args.loader.now.given c.loop-alloc.loader.given
    c.next.new.self.given c.loop-alloc.invariant.received c.in_ok-cells.ensures.received

pub returns-in_err-record-clause-received : goal.returns-in_err-record-clause-received
returns-in_err-record-clause-received g c =
    counted_on (g.S.Source.to_come c.args.loader.now.source) (g.S.Source.to_come c.loop-alloc.loader.source)
    (g.S.Source.to_come c.next.new.self.source) c.args.loader.now.given c.loop-alloc.loader.given
    c.next.new.self.given c.loop-alloc.invariant.received c.in_ok-cells.ensures.received

pub returns-in_err-insert-clause-received : goal.returns-in_err-insert-clause-received
returns-in_err-insert-clause-received g c =
    counted_on (g.S.Source.to_come c.args.loader.now.source) (g.S.Source.to_come c.loop-alloc.loader.source)
    (g.S.Source.to_come c.next.new.self.source) c.args.loader.now.given c.loop-alloc.loader.given
    c.next.new.self.given c.loop-alloc.invariant.received c.in_ok-cells.ensures.received

pub returns-in-Some-2-clause-received : goal.returns-in-Some-2-clause-received
returns-in-Some-2-clause-received g c =
    counted_on (g.S.Source.to_come c.args.loader.now.source) (g.S.Source.to_come c.loop-alloc.loader.source)
    (g.S.Source.to_come c.next.new.self.source) c.args.loader.now.given c.loop-alloc.loader.given
    c.next.new.self.given c.loop-alloc.invariant.received c.in_ok-cells.ensures.received

-- ---- the remaining pieces

pub returns-in-Some-2-clause-answers : goal.returns-in-Some-2-clause-answers
returns-in-Some-2-clause-answers g c =
    let inv = c.loop-alloc.invariant in
    let cells_are : c.as_slice.result.now ≡ c.in-Some.cells = cc in
    answers_next c.args.piece.now.resource (inserts_value c.args.loader.now c.args.piece.now false).remaining
    c.loop-alloc.loader
    c.loop-alloc.piece inv.resource inv.remaining c.next.new.self c.put.new.self c.in-Some.cells c.in_ok-record.record
    c.in-Some-2.insert
    (subst (λ o. loading.Answers c.loop-alloc.loader.remaining (Ok o) c.next.new.self.remaining) c.in-Some.is
    c.in_ok-cells.ensures.answers)
    c.in_ok-cells.ensures.kept.0
    (record_is c.in_ok-record.record c.as_slice.result.now c.in-Some.cells c.args.columns.now
    c.args.loader.now.fields c.loop-alloc.loader.fields c.in_ok-record.ensures cells_are c.requires.columns
    inv.fields)
    (subst (λ o. Puts c.loop-alloc.piece c.in_ok-record.record o c.put.new.self) c.in-Some-2.is
    c.in_ok-insert.ensures.put)

pub loop-alloc-preserved : goal.loop-alloc-preserved
loop-alloc-preserved g c =
    let inv = c.loop-alloc.invariant in
    let cells_are : c.as_slice.result.now ≡ c.in-Some.cells = cc in
    record {
      resource = c.in_ok-insert.ensures.resource ∙ inv.resource;
      fields = c.in_ok-cells.ensures.kept.0 ∙ inv.fields;
      reads = λ spent.
          let reading : c.next.new.self.stage ≡ stage.Reading =
          c.in_ok-cells.ensures.stage ∙ ap (λ o. loading.stage_after (Ok o)) c.in-Some.is in
          cc;
      within = within_still c.in_ok-cells.field-0 (Ok c.in_ok-cells.field-0) c.next.new.self.given refl
          c.in_ok-cells.ensures.limit;
      remaining = inv.remaining
          ∙ remaining_put c.loop-alloc.loader c.next.new.self c.loop-alloc.piece c.put.new.self c.in-Some.cells
          c.in_ok-record.record
          (subst (λ o. loading.Answers c.loop-alloc.loader.remaining (Ok o) c.next.new.self.remaining) c.in-Some.is
          c.in_ok-cells.ensures.answers)
          c.in_ok-cells.ensures.kept.0
          (record_is c.in_ok-record.record c.as_slice.result.now c.in-Some.cells c.args.columns.now
          c.args.loader.now.fields c.loop-alloc.loader.fields c.in_ok-record.ensures cells_are
          c.requires.columns inv.fields)
          (subst (λ o. Puts c.loop-alloc.piece c.in_ok-record.record o c.put.new.self) c.in_default-2.is
          c.in_ok-insert.ensures.put);
      received =
          counted_on (g.S.Source.to_come c.args.loader.now.source) (g.S.Source.to_come c.loop-alloc.loader.source)
          (g.S.Source.to_come c.next.new.self.source) c.args.loader.now.given c.loop-alloc.loader.given
          c.next.new.self.given inv.received c.in_ok-cells.ensures.received;
      counts = grind (arith, c.in_ok-cells.ensures.counts, inv.counts);
      loan = c.in_ok-cells.ensures.loan ∙ inv.loan;
    }

pub returns-clause-answers : goal.returns-clause-answers
returns-clause-answers g c =
    let inv = c.loop-alloc.invariant in
    answers_full c.args.piece.now.resource (inserts_value c.args.loader.now c.args.piece.now false).remaining
    c.loop-alloc.loader
    c.loop-alloc.piece inv.resource inv.remaining c.take.new.self c.in_ok-take.field-0
    (grind (arith, common_steps)) c.in_ok-take.ensures.insert c.in_ok-take.ensures.empty

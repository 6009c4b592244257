use Rattle.std.proofs.Common.{◌≡◌, ◌∙◌, ◌+◌, ◌<◌, ℕ, List, length, take, ap, sym, subst, get_or}
use Rattle.typed_csv.proofs.PositionLemmas.{last_here, last_unchanged, position_after_more}
use Rattle.typed_csv.specs.Positions.{IsLastStart, next_position, position_after}
use Rattle.typed_csv.specs.declared.scan.Position.{Position}
use Rattle.typed_csv.proofs.scan.scan.Goals as goal
use Rattle.typed_csv.proofs.scan.scan.Goals.{then-is_start, else-is_start}

at_more : (start : Position) (bytes : List ℕ) (i : ℕ) (here next : Position) → i < length bytes
    → here ≡ position_after start (take i bytes)
    → next ≡ next_position here (get_or bytes i 0) → next ≡ position_after start (take (i + 1) bytes)
at_more start bytes i here next h e f = f ∙ ap (λ p. next_position p (get_or bytes i 0)) e
    ∙ sym (position_after_more start bytes i h)

pub loop-index-preserved : goal.loop-index-preserved
loop-index-preserved c =
    let at : c.after-position.result ≡ position_after c.args.position (take (c.loop-index.index + 1) c.args.bytes.now) =
    at_more c.args.position c.args.bytes.now c.loop-index.index c.loop-index.position c.after-position.result
    c.loop-index-test.true c.loop-index.invariant.position c.after-position.ensures in
    record {
      position = at;
      records_end = elim c.if-is_start.branch [
        | then-is_start w ↦
            subst (λ o. IsLastStart c.args.position (take (c.loop-index.index + 1) c.args.bytes.now) o)
            (sym w.records_end-is)
            (last_here c.args.position c.args.bytes.now c.loop-index.index c.after-position.result
            c.loop-index-test.true
            at (sym c.is_start.ensures ∙ w.if-is_start.true))
        | else-is_start w ↦
            subst (λ o. IsLastStart c.args.position (take (c.loop-index.index + 1) c.args.bytes.now) o)
            (sym w.records_end-is)
            (last_unchanged c.args.position c.args.bytes.now c.loop-index.index c.after-position.result
            c.loop-index.records_end
            c.loop-index-test.true at
            (sym c.is_start.ensures ∙ w.if-is_start.false) c.loop-index.invariant.records_end)
      ];
    }

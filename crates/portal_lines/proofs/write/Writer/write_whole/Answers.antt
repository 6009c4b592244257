use Rattle.std.proofs.Common.{arith, ◌∙◌, subst, sym, ◌++◌, take}
use Rattle.std.proofs.lemmas.Result.{err_from_is_err_and}
use Rattle.portal_base.proofs.OutsideLemmas.{Takes-append}
use Rattle.portal_lines.proofs.PieceLemmas.{TakesPrefix-front, take_on}
use Rattle.portal_base.specs.Outside.{Takes}
use Rattle.portal_lines.proofs.write.Writer.write_whole.Goals as goal

pub returns-in_err-count-clause-failed : goal.returns-in_err-count-clause-failed
returns-in_err-count-clause-failed g c =
    let inv = c.loop-rest.invariant in
    let p = err_from_is_err_and c.from_residual.result c.from_residual.ensures.1 in
    let kept : Takes (g.Self.Writer.taken c.args.output.now) inv.front (g.Self.Writer.taken c.write.new.output) =
    subst (λ observed. Takes (g.Self.Writer.taken c.args.output.now) inv.front observed) (sym c.in_err-count.ensures.kept)
    inv.takes in
    rw p.1 (TakesPrefix-front _ _ c.args.piece.now inv.front c.loop-rest.rest.now inv.splits kept)

pub loop-rest-preserved : goal.loop-rest-preserved
loop-rest-preserved g c =
    let inv = c.loop-rest.invariant in
    record {
      front = inv.front ++ take c.in_ok-count.count c.loop-rest.rest.now;
      splits = take_on c.args.piece.now inv.front c.loop-rest.rest.now c.in_ok-count.count inv.splits;
      takes = Takes-append (g.Self.Writer.taken c.args.output.now) (g.Self.Writer.taken c.loop-rest.output)
          (g.Self.Writer.taken c.write.new.output) inv.front (take c.in_ok-count.count c.loop-rest.rest.now) inv.takes
          c.in_ok-count.ensures.bytes;
      to_come = c.in_ok-count.ensures.to_come ∙ inv.to_come;
      counts = omega (arith, inv.counts, c.in_ok-count.ensures.counts);
    }

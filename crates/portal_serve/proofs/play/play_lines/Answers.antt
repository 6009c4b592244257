-- Each turn carries the run on, and the last one ends it.
use Rattle.std.proofs.Common.{Some, ap, ◌∙◌, arith}
use Rattle.portal_serve.proofs.Fetching.{same_fetchers, same_fetchers_on}
use Rattle.portal_serve.proofs.Looping.{keeps_start, keeps_turn, keeps_all, keeps_part, keeps_read, plays_nothing}
use Rattle.portal_serve.proofs.Looping.{too_long_at_end}
use Rattle.portal_serve.proofs.Staging.{same_loans, same_loans_on}
use Rattle.portal_serve.proofs.play.play_lines.Goals as goal

pub returns-in-Err-clause-cut : goal.returns-in-Err-clause-cut
returns-in-Err-clause-cut g c = λ other. plays_nothing _ _ _ _

pub lines-init : goal.lines-init
lines-init g c = record {
  kept = keeps_start _ _ _ _ c.in-Ok.ensures;
  fetchers = same_fetchers _ _ _;
  reads = omega arith;
  writes = omega arith;
  loans = same_loans _;
  keeps = omega arith;
}

pub lines-preserved : goal.lines-preserved
lines-preserved g c = record {
  kept = keeps_turn _ _ _ _ _ _ _ _ _ _ _ c.lines.invariant.kept (c.play_next.ensures.more c.in_default.is)
      c.play_next.ensures.longest c.play_next.ensures.limit (c.play_next.ensures.goes_on c.in_default.is);
  fetchers = same_fetchers_on _ _ _ _ _ c.lines.invariant.fetchers c.play_next.ensures.fetchers;
  reads = omega (arith, c.lines.invariant.reads, c.play_next.ensures.reads);
  writes = omega (arith, c.lines.invariant.writes, c.play_next.ensures.writes);
  loans = same_loans_on _ _ _ c.lines.invariant.loans c.play_next.ensures.loans;
  keeps = omega (arith, c.lines.invariant.keeps, c.play_next.ensures.keeper_counts);
}

pub returns-in-Some-clause-done : goal.returns-in-Some-clause-done
returns-in-Some-clause-done g c =
    λ done.
    keeps_all _ _ _ _ _ _ _ _ _ _ _ c.lines.invariant.kept (c.play_next.ensures.end (c.in-Some.is ∙ ap Some done))
    c.play_next.ensures.limit (c.play_next.ensures.within (c.in-Some.is ∙ ap Some done))

pub returns-in-Some-clause-cut : goal.returns-in-Some-clause-cut
returns-in-Some-clause-cut g c =
    λ other. keeps_part _ _ _ _ _ _ _ _ _ _ _ _ c.lines.invariant.kept (c.in-Some.ensures.cut other)

pub returns-in-Some-clause-unended : goal.returns-in-Some-clause-unended
returns-in-Some-clause-unended g c =
    λ is. keeps_read _ _ _ _ _ _ _ _ _ _ _ c.lines.invariant.kept (c.in-Some.ensures.unended (ap Some is))

pub returns-in-Some-clause-too_long : goal.returns-in-Some-clause-too_long
returns-in-Some-clause-too_long g c =
    too_long_at_end _ _ _ _ _ _ _ _ _ _ _ _ c.lines.invariant.kept c.play_next.ensures.limit
    (λ done. c.in-Some.ensures.end (ap Some done)) (λ done. c.in-Some.ensures.within (ap Some done))
    c.in-Some.ensures.cut c.in-Some.ensures.too_long

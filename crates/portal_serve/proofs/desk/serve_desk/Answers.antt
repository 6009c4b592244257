-- Each turn serves one link more, until there is none or the listener fails.
use Rattle.std.proofs.Common.{◌≡◌, ◌≤◌, suc, Ok, ap, refl, ◌∙◌, arith}
use Rattle.std.proofs.lemmas.Bool.Decides.{nat_tests}
use Rattle.portal_serve.proofs.Desking.{desk_ends, desk_fails, desk_goes_on, desk_is_full, goes_on_quiet, serves_none}
use Rattle.portal_serve.proofs.desk.serve_desk.Goals as goal

pub loop-init : goal.loop-init
loop-init g c =
    record { home = c.requires.home; served = serves_none _ _ _ 0 _ _ refl refl refl refl refl; keeps = omega arith; quiet = refl }

pub returns-in-Ok-false-clause-served : goal.returns-in-Ok-false-clause-served
returns-in-Ok-false-clause-served g c =
    let more : suc c.loop.counter ≤ c.args.limit = grind (arith, nat_tests, c.loop-test.true) in
    desk_ends _ _ _ _ _ _ _ _ _ _ c.serve_next.result
    (c.in-Ok-false.is ∙ ap (λ b. Ok b) c.in-Ok-false.field-0-test) more c.loop.invariant.quiet
    c.loop.invariant.served c.serve_next.ensures.next

pub returns-in-Err-clause-served : goal.returns-in-Err-clause-served
returns-in-Err-clause-served g c =
    let more : suc c.loop.counter ≤ c.args.limit = grind (arith, nat_tests, c.loop-test.true) in
    desk_fails _ _ _ _ _ _ _ _ _ _ _ more c.loop.invariant.quiet c.loop.invariant.served c.in-Err.ensures.next

pub loop-preserved : goal.loop-preserved
loop-preserved g c = record {
  home = c.serve_next.ensures.home;
  served = desk_goes_on _ _ _ _ _ _ _ _ _ c.serve_next.result
      (c.in-Ok-true.is ∙ ap (λ b. Ok b) c.in-Ok-true.field-0-test) c.loop.invariant.served c.serve_next.ensures.next;
  keeps = omega (arith, c.loop.invariant.keeps, c.serve_next.ensures.keeper_counts);
  quiet = goes_on_quiet _ _ _ _ _ _ _ c.serve_next.result
      (c.in-Ok-true.is ∙ ap (λ b. Ok b) c.in-Ok-true.field-0-test) c.loop.invariant.quiet c.serve_next.ensures.next;
}

pub returns-clause-served : goal.returns-clause-served
returns-clause-served g c =
    let full : c.loop.counter ≡ c.args.limit = grind (arith, nat_tests, c.loop-test.false, c.loop.auto.counter-end) in
    desk_is_full _ _ _ _ _ _ _ _ full c.loop.invariant.quiet c.loop.invariant.served

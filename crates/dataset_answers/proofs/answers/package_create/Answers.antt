use Rattle.std.proofs.Common.{◌≡◌, Bool, true, false, Ok, refl, sym, ◌∙◌}
use Rattle.portal_calls.specs.Answer.{authorized}
use Rattle.portal_calls.specs.declared.answer.Right.{Right}
use Rattle.portal_calls.proofs.Answering.{has_right, no_rule_broken}
use Rattle.dataset_answers.proofs.BodyLemmas.{no_errors}
use Rattle.dataset_answers.proofs.answers.package_create.Goals as goal

-- a caller who isn't refused has the right
allowed : {X : Type 0} (has : Bool) (right : Right) (u v : X) → Ok u ≡ authorized has right v → has ≡ true
allowed true right u v is = refl
allowed false right u v is = absurd (cc)

pub returns : goal.returns
returns c =
    let described =
    c.in_ok-read.ensures.built (no_errors c.args.context.now.quota c.in_ok-read.read.errors c.in_ok-described.ensures.valid) in
    has_right _ _ _ _ (sym c.may_create.ensures ∙ allowed c.may_create.result _ _ _ c.in_ok-authorize.ensures)
    (no_rule_broken _ _ _ _ _ _ c.in_ok-read.ensures.errors c.in_ok-described.ensures.valid refl
    (rw (c.in_ok-accept_creation.ensures, c.in_ok-described.ensures.value, described) refl))

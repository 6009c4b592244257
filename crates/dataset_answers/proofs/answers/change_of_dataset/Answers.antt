use Rattle.std.proofs.Common.{refl}
use Rattle.portal_calls.proofs.Answering.{no_rule_broken}
use Rattle.dataset_answers.proofs.BodyLemmas.{no_errors}
use Rattle.dataset_answers.proofs.answers.change_of_dataset.Goals as goal

pub returns : goal.returns
returns g c =
    let described =
    c.in_ok-read.ensures.built (no_errors c.args.context.now.quota c.in_ok-read.read.errors c.in_ok-changed.ensures.valid) in
    no_rule_broken _ _ _ _ _ _ c.in_ok-read.ensures.errors c.in_ok-changed.ensures.valid refl
    (rw (c.in_ok-accept_replacement.ensures, c.in_ok-changed.ensures.value, described) refl)

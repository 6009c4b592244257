use Rattle.std.proofs.Common.{refl}
use Rattle.portal_calls.proofs.Answering.{no_rule_broken}
use Rattle.dataset_answers.proofs.answers.delete_if_valid.Goals as goal

pub returns : goal.returns
returns g c =
    no_rule_broken _ _ _ _ _ _ c.in_ok-faults.ensures c.in_ok-valid.ensures.valid refl (rw c.in_ok-valid.ensures.value refl)

use Rattle.std.proofs.Common.{refl}
use Rattle.dataset_answers.proofs.answers.accept_creation.Goals as goal

pub returns : goal.returns
returns c = rw (c.in_ok-shown.ensures, c.in_ok-dataset.ensures) refl

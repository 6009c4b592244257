use Rattle.std.proofs.Common.{refl}
use Rattle.dataset_answers.proofs.answers.accept_new_resource.Goals as goal

pub returns : goal.returns
returns g c = rw (c.in_ok-shown.ensures, c.in_ok-changed.ensures, c.len-position.ensures) refl

use Rattle.packages.proofs.Built.{new_name, new_name_at}
use Rattle.packages.proofs.laws.a_new_dataset_has_a_name.Goals as goal

pub returns-clause-given : goal.returns-clause-given
returns-clause-given c = λ body whole no_errors. new_name_at body whole no_errors

pub returns-clause-form : goal.returns-clause-form
returns-clause-form c = λ body whole no_errors. new_name body whole no_errors

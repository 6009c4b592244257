use Rattle.packages.proofs.Built.{new_organization_at}
use Rattle.packages.proofs.laws.a_new_dataset_has_an_organization.Goals as goal

pub returns : goal.returns
returns c = λ body whole no_errors. new_organization_at body whole no_errors

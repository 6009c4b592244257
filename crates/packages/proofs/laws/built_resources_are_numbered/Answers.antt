use Rattle.packages.proofs.Built.{built_numbered}
use Rattle.packages.proofs.laws.built_resources_are_numbered.Goals as goal

pub returns : goal.returns
returns c = λ body old whole no_errors stood. built_numbered body old whole no_errors stood

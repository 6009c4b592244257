use Rattle.packages.proofs.Built.{built_tags}
use Rattle.packages.proofs.laws.built_tags_ascend.Goals as goal

pub returns : goal.returns
returns c = λ body old whole up. built_tags body old whole up

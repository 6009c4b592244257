use Rattle.dcat_map.specs.Distributions.{AreDescribed}
use Rattle.dcat_map.proofs.shared.describe_all.Given as goal

abbrev pub invariant-loop-node : goal.invariant-loop-node
invariant-loop-node l = AreDescribed l.graph l.shared.items

use Rattle.std.proofs.Common.{◌≡◌, take}
use Rattle.dcat_map.specs.Distributions.{distributions_in}
use Rattle.dcat_map.proofs.distributions.distributions_of.Given as goal

abbrev pub invariant-loop-triple : goal.invariant-loop-triple
invariant-loop-triple l = l.distributions.items ≡ distributions_in l.graph (take l.triple-index l.triples)

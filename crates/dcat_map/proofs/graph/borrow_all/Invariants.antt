use Rattle.std.proofs.Common.{◌≡◌, take}
use Rattle.dcat_map.proofs.graph.borrow_all.Given as goal

abbrev pub invariant-loop-triple : goal.invariant-loop-triple
invariant-loop-triple l = l.borrowed.items ≡ take l.triple-index l.triples

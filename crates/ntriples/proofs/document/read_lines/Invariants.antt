use Rattle.std.proofs.Common.{length}
use Rattle.ntriples.proofs.DocumentLemmas.{UnderWay}
use Rattle.ntriples.proofs.document.read_lines.Given as goal

abbrev pub invariant-loop-triples : goal.invariant-loop-triples
invariant-loop-triples l = UnderWay l.bytes l.rest l.triples l.ended

abbrev pub decreases-loop-triples : goal.decreases-loop-triples
decreases-loop-triples l = length l.rest

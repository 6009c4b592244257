use Rattle.std.proofs.Common.{◌≡◌, take}
use Rattle.ntriples.specs.Written.{document_text}
use Rattle.ntriples.proofs.writing.text_of.Given as goal

abbrev pub invariant-loop-triple : goal.invariant-loop-triple
invariant-loop-triple l = l.out.items ≡ document_text (take l.triple-index l.triple-items)

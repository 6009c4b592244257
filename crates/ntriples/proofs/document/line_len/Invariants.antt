use Rattle.std.proofs.Common.{◌≡◌, ℕ, ◌<◌, get_or, false}
use Rattle.ntriples.specs.Document.{is_line_end}
use Rattle.ntriples.proofs.document.line_len.Given as goal

abbrev pub invariant-loop-position : goal.invariant-loop-position
invariant-loop-position l = (k : ℕ) → k < l.position → is_line_end (get_or l.bytes k 0) ≡ false

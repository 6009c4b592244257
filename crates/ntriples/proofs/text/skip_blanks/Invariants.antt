use Rattle.std.proofs.Common.{◌≡◌, length}
use denote.Text.{Utf8}
use denote.Shadow.{shadow}
use Rattle.std.specs.Str.{chars}
use Rattle.ntriples.specs.Reading.{skip_blanks}
use Rattle.ntriples.proofs.text.skip_blanks.Given as goal

abbrev pub invariant-loop-following : goal.invariant-loop-following
invariant-loop-following l = shadow (Utf8 l.rest) × (skip_blanks (chars l.rest) ≡ skip_blanks (chars l.text))

abbrev pub decreases-loop-following : goal.decreases-loop-following
decreases-loop-following l = length (chars l.rest)

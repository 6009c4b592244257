use Rattle.std.proofs.Common.{◌≡◌, length}
use denote.Text.{Utf8}
use denote.Shadow.{shadow}
use Rattle.std.specs.Str.{chars}
use Rattle.ntriples.specs.Parsing.{run}
use Rattle.ntriples.proofs.names.Class.skip.Given as goal

abbrev pub invariant-loop-following : goal.invariant-loop-following
invariant-loop-following l = shadow (Utf8 l.rest) × ((run l.self (chars l.rest)).1 ≡ (run l.self (chars l.text)).1)

abbrev pub decreases-loop-following : goal.decreases-loop-following
decreases-loop-following l = length (chars l.rest)

use Rattle.std.proofs.Common.{◌≡◌, length}
use denote.Text.{Utf8}
use denote.Shadow.{shadow}
use Rattle.std.specs.Prelude.{string_bytes}
use Rattle.std.specs.Str.{chars}
use Rattle.ntriples.specs.Reading.{onto}
use Rattle.ntriples.specs.Parsing.{run}
use Rattle.ntriples.proofs.names.Class.push.Given as goal

abbrev pub invariant-loop-character : goal.invariant-loop-character
invariant-loop-character l =
    shadow (Utf8 l.rest)
    × (onto (string_bytes l.value) (run l.self (chars l.rest))
    ≡ onto (string_bytes l.fn.value) (run l.self (chars l.text)))

abbrev pub decreases-loop-character : goal.decreases-loop-character
decreases-loop-character l = length (chars l.rest)

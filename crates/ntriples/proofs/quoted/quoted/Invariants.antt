use Rattle.std.proofs.Common.{◌≡◌, length}
use denote.Text.{Utf8}
use denote.Shadow.{shadow}
use Rattle.std.specs.Prelude.{string_bytes}
use Rattle.std.specs.Str.{chars}
use Rattle.ntriples.specs.Reading.{prepended}
use Rattle.ntriples.specs.Parsing.{quoted}
use Rattle.ntriples.proofs.quoted.quoted.Given as goal

abbrev pub invariant-loop-value : goal.invariant-loop-value
invariant-loop-value l =
    shadow (Utf8 l.rest)
    × (prepended (string_bytes l.value) (quoted l.kind (chars l.rest)) ≡ quoted l.kind (chars l.text))

abbrev pub decreases-loop-value : goal.decreases-loop-value
decreases-loop-value l = length (chars l.rest)

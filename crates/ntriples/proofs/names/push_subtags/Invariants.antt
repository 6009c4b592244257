use Rattle.std.proofs.Common.{◌≡◌, length}
use denote.Text.{Utf8}
use denote.Shadow.{shadow}
use Rattle.std.specs.Prelude.{string_bytes}
use Rattle.std.specs.Str.{chars}
use Rattle.ntriples.specs.Reading.{prepended}
use Rattle.ntriples.specs.Parsing.{subtags_from}
use Rattle.ntriples.proofs.names.push_subtags.Given as goal

abbrev pub invariant-loop-following : goal.invariant-loop-following
invariant-loop-following l =
    shadow (Utf8 l.rest)
    × (prepended (string_bytes l.value) (subtags_from 0 (chars l.rest))
    ≡ prepended (string_bytes l.fn.value) (subtags_from 0 (chars l.text)))

abbrev pub decreases-loop-following : goal.decreases-loop-following
decreases-loop-following l = length (chars l.rest)

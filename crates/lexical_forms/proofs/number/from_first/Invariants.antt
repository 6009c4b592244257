use Rattle.std.proofs.Common.{◌≡◌, length}
use denote.Text.{Utf8}
use denote.Shadow.{shadow}
use Rattle.std.specs.Str.{chars}
use Rattle.lexical_forms.specs.Digits.{from_first}
use Rattle.lexical_forms.specs.Number.{begins_number}
use Rattle.lexical_forms.proofs.number.from_first.Given as goal

abbrev pub invariant-loop-character : goal.invariant-loop-character
invariant-loop-character l =
    shadow (Utf8 l.rest)
    × (from_first (begins_number l.decimal) (chars l.rest) ≡ from_first (begins_number l.decimal) (chars l.text))

abbrev pub decreases-loop-character : goal.decreases-loop-character
decreases-loop-character l = length (chars l.rest)

use Rattle.std.proofs.Common.{length}
use denote.Text.{Utf8}
use denote.Shadow.{shadow}
use Rattle.std.specs.Str.{chars}
use Rattle.lexical_forms.proofs.PartLemmas.{WholeSoFar}
use Rattle.lexical_forms.proofs.number.take_whole.Given as goal

abbrev pub invariant-loop-character : goal.invariant-loop-character
invariant-loop-character l =
    shadow (Utf8 l.rest) × WholeSoFar l.form l.after_digit l.digits (chars l.text) (chars l.rest)

abbrev pub decreases-loop-character : goal.decreases-loop-character
decreases-loop-character l = length (chars l.rest)

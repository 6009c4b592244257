-- Computed examples of lines.
use Rattle.std.proofs.Common.{◌≡◌, [], ◌∷◌, refl}
use Rattle.std.specs.Str.Lines.{lines}

-- ab CR LF, an empty line, and a last line that keeps its CR
lines-of-three : lines (97 ∷ 98 ∷ 13 ∷ 10 ∷ 10 ∷ 99 ∷ 13 ∷ []) ≡ (97 ∷ 98 ∷ []) ∷ [] ∷ (99 ∷ 13 ∷ []) ∷ []
lines-of-three = refl

lines-of-none : lines [] ≡ []
lines-of-none = refl

-- The end of a name.
use Rattle.std.proofs.Common.{◌≡◌, ℕ, List, [], ◌∷◌, ◌++◌, refl}
use Rattle.std.specs.Char.{is_whitespace}
use Rattle.lexical_forms.specs.FieldName.{ends_with_space}

-- only the last character counts
pub ends_with_space-last : (cs : List ℕ) (c : ℕ) → ends_with_space (cs ++ c ∷ []) ≡ is_whitespace c
ends_with_space-last [] c = refl
ends_with_space-last (b ∷ []) c = refl
ends_with_space-last (a ∷ b ∷ cs) c = ends_with_space-last (b ∷ cs) c

-- The texts of truth values (Table Schema v1, "boolean").
use Rattle.std.specs.Prelude.{ℕ, Bool, true, false, if◌then◌else◌, List, [], ◌∷◌, codes, Option, Some, None}
use Rattle.std.specs.List.{list_any}
use Rattle.std.specs.Str.{bytes_eq}

-- the text is in the list
abbrev pub is_among : List (List ℕ) → List ℕ → Bool
is_among texts text = list_any (λ t. bytes_eq t text) texts

-- A text in both lists is true.
abbrev pub truth_reading : List (List ℕ) → List (List ℕ) → List ℕ → Option Bool
truth_reading trues falses text =
    if is_among trues text then Some true else if is_among falses text then Some false else None

abbrev pub default_trues : List (List ℕ)
default_trues = codes "true" ∷ codes "True" ∷ codes "TRUE" ∷ codes "1" ∷ []

abbrev pub default_falses : List (List ℕ)
default_falses = codes "false" ∷ codes "False" ∷ codes "FALSE" ∷ codes "0" ∷ []

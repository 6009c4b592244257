-- Lists of items, each with a text as its key.
use Rattle.std.specs.Prelude.{ℕ, Bool, true, not, ◌&&◌, List, [], ◌∷◌}
use Rattle.std.specs.List.{list_any}
use Rattle.std.specs.Str.{bytes_eq}

-- one of the items has this key
abbrev pub is_key_among : {T : Type 0} → (T → List ℕ) → List T → List ℕ → Bool
is_key_among key items text = list_any (λ item. bytes_eq (key item) text) items

-- no item's key is that of a later one
abbrev pub are_distinct : {T : Type 0} → (T → List ℕ) → List T → Bool
are_distinct key [] = true
are_distinct key (item ∷ items) = not (is_key_among key items (key item)) && are_distinct key items

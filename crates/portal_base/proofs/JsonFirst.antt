-- The first entry of a key, in std's words.
use Rattle.std.proofs.Common.{◌≡◌, ℕ, List, [], ◌∷◌, Bool, true, false, cond, Option, Some, None, refl}
use Rattle.std.specs.Prelude.{find, bytes_eq, if◌then◌else◌}
use Rattle.portal_base.specs.Json.{first_of}
use Rattle.portal_base.specs.declared.json_value.Json.{Json}

abbrev Entry : Type 0
Entry = List ℕ × Json

-- the value of the entry that was found
abbrev pub value_of_found : Option Entry → Option Json
value_of_found None = None
value_of_found (Some e) = Some e.1

one_more : (b : Bool) (e : Entry) (rest : Option Json) (found : Option Entry) → rest ≡ value_of_found found
    → (if b then Some e.1 else rest) ≡ value_of_found (cond b (Some e) found)
one_more true e rest found h = refl
one_more false e rest found h = h

pub first_of-find : (key : List ℕ) (es : List Entry)
    → first_of key es ≡ value_of_found (find (λ x. bytes_eq key x.0) es)
first_of-find key [] = refl
first_of-find key (e ∷ es) = one_more (bytes_eq key e.0) e _ _ (first_of-find key es)

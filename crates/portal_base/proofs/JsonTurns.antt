-- The conversions from data, one step at a time.
use Rattle.std.proofs.Common.{◌≡◌, ℕ, List, [], ◌∷◌, ◌++◌, Option, Some, None, option_map, refl, sym, ap, append_assoc}
use Rattle.serde_json.specs.Data.{Data, Members, member}
use Rattle.portal_base.specs.Json.{json_of, entries_of}
use Rattle.portal_base.specs.declared.json_value.Json.{Json}

one_more : {A : Type 0} (xs : List A) (x : A) (o : Option (List A))
    → option_map (λ r. xs ++ r) (option_map (λ r. x ∷ r) o) ≡ option_map (λ r. (xs ++ x ∷ []) ++ r) o
one_more xs x None = refl
one_more xs x (Some r) = ap Some (sym (append_assoc xs (x ∷ []) r))

pub one_more_entry : (es : List (List ℕ × Json)) (k : List ℕ) (d : Data) (j : Json) (ms : Members) → json_of d ≡ Some j
    → option_map (λ r. es ++ r) (entries_of (member k d ms)) ≡ option_map (λ r. (es ++ (k, j) ∷ []) ++ r)
    (entries_of ms)
one_more_entry es k d j ms e = rw e (one_more es (k, j) (entries_of ms))

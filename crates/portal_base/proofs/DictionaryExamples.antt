-- Examples of keys that ascend and of keys that do not.
use Rattle.std.proofs.Common.{◌≡◌, ℕ, List, ◌∷◌, [], true, false, refl}
use Rattle.std.specs.Prelude.{codes}
use Rattle.portal_base.specs.declared.json_value.Json.{Json}
use Rattle.portal_base.specs.declared.json_value.Json as json
use Rattle.portal_base.specs.Dictionary.{keys_ascend}

abbrev under : List ℕ → List ℕ × Json
under key = (key, json.Null)

none : keys_ascend [] ≡ true
none = refl

ascending : keys_ascend (under (codes "id") ∷ under (codes "name") ∷ under (codes "title") ∷ []) ≡ true
ascending = refl

-- A key comes before those of which it is a prefix.
beginning : keys_ascend (under (codes "name") ∷ under (codes "names") ∷ []) ≡ true
beginning = refl

-- By bytes a capital comes before each small letter, and `_` between them.
by_bytes : keys_ascend (under (codes "Title") ∷ under (codes "__type") ∷ under (codes "id") ∷ []) ≡ true
by_bytes = refl

twice : keys_ascend (under (codes "id") ∷ under (codes "id") ∷ []) ≡ false
twice = refl

descending : keys_ascend (under (codes "name") ∷ under (codes "id") ∷ []) ≡ false
descending = refl

last_out_of_order : keys_ascend (under (codes "b") ∷ under (codes "c") ∷ under (codes "a") ∷ []) ≡ false
last_out_of_order = refl

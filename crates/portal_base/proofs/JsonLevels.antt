-- A value, level by level.
use Rattle.std.proofs.Common.{◌≡◌, ℕ, suc, List, [], ◌∷◌, length, refl, ap, rules}
use Rattle.serde_json.specs.Data.{array, object}
use Rattle.serde_json.specs.Events.{items_len, members_len}
use Rattle.portal_base.specs.Json.{data_of, items_data, members_data}
use Rattle.portal_base.specs.declared.json_value.Json as json
use Rattle.portal_base.specs.declared.json_value.Json.{Json, the_lemmas}

pub data_of-List : (js : List Json) → data_of (json.List js) ≡ array (items_data js)
data_of-List js = search (rules, the_lemmas)

pub data_of-Map : (es : List (List ℕ × Json)) → data_of (json.Map es) ≡ object (members_data es)
data_of-Map es = search (rules, the_lemmas)

pub items_len-items_data : (js : List Json) → items_len (items_data js) ≡ length js
items_len-items_data [] = refl
items_len-items_data (j ∷ js) = ap suc (items_len-items_data js)

pub members_len-members_data : (es : List (List ℕ × Json)) → members_len (members_data es) ≡ length es
members_len-members_data [] = refl
members_len-members_data (e ∷ es) = ap suc (members_len-members_data es)

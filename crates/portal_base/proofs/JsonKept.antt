-- A value's data has no float and is read as the value.
use Rattle.std.proofs.Common.{◌≡◌, ℕ, ℤ, pos, negsuc, List, [], ◌∷◌, map, false, Some, refl, sym, ap, ◌∙◌, subst}
use Rattle.serde_json.specs.Data.{Data}
use Rattle.serde_json.specs.Find.{as_integer, of_integer, is_float}
use Rattle.serde_json.specs.Written.{has_float, items_have_float, members_have_float}
use Rattle.portal_base.specs.Json.{data_of, data_step, items_data, members_data, json_of, list_of, entries_of}
use Rattle.portal_base.specs.declared.json_value.Json.{Json}
use Rattle.portal_base.specs.declared.json_value.Json.TheOpen.{Json-F}
use Rattle.portal_base.specs.declared.json_value.Json.TheFolds.{map-Json, fold-roll-Json, ind-Json}
use Rattle.portal_base.specs.declared.json_value.Json.TheVariants.{rolls-Null, rolls-Truth, rolls-Whole, rolls-Text}
use Rattle.portal_base.specs.declared.json_value.Json.TheVariants.{rolls-List, rolls-Map}
use Rattle.portal_base.specs.declared.json_value.Json.TheViews.{roll-Json}

pub as_integer-of_integer : (z : ℤ) → as_integer (of_integer z) ≡ Some z
as_integer-of_integer (pos n) = refl
as_integer-of_integer (negsuc n) = refl

is_float-of_integer : (z : ℤ) → is_float (of_integer z) ≡ false
is_float-of_integer (pos n) = refl
is_float-of_integer (negsuc n) = refl

abbrev IsKept : Json → Type 0
IsKept j = (has_float (data_of j) ≡ false) × (json_of (data_of j) ≡ Some j)

abbrev Kept : Type 0
Kept = (j : Json) × IsKept j

items_kept : (es : List Kept)
    → (items_have_float (items_data (map (λ e. e.0) es)) ≡ false)
    × (list_of (items_data (map (λ e. e.0) es)) ≡ Some (map (λ e. e.0) es))
items_kept [] = (refl, refl)
items_kept (e ∷ es) = let rest = items_kept es in (rw e.1.0 rest.0, rw e.1.1 (rw rest.1))

entries_kept : (es : List (List ℕ × Kept))
    → (members_have_float (members_data (map (λ e. (e.0, e.1.0)) es)) ≡ false)
    × (entries_of (members_data (map (λ e. (e.0, e.1.0)) es)) ≡ Some (map (λ e. (e.0, e.1.0)) es))
entries_kept [] = (refl, refl)
entries_kept (e ∷ es) = let rest = entries_kept es in (rw e.1.1.0 rest.0, rw e.1.1.1 (rw rest.1))

abbrev IsLayerKept : Json-F Json → Type 0
IsLayerKept x = (has_float (data_step (map-Json Json Data data_of x)) ≡ false)
    × (json_of (data_step (map-Json Json Data data_of x)) ≡ Some (roll-Json x))

layer_kept : (y : Json-F Kept) → IsLayerKept (map-Json Kept Json (λ e. e.0) y)
layer_kept Json-F.Null = (refl, ap Some (sym rolls-Null))
layer_kept (Json-F.Truth b) = (refl, ap Some (sym (rolls-Truth b)))
layer_kept (Json-F.Whole z) = (is_float-of_integer z, rw (as_integer-of_integer z) (ap Some (sym (rolls-Whole z))))
layer_kept (Json-F.Text s) = (refl, ap Some (sym (rolls-Text s)))
layer_kept (Json-F.List es) = let all = items_kept es in (all.0, rw all.1 (ap Some (sym (rolls-List _))))
layer_kept (Json-F.Map es) = let all = entries_kept es in (all.0, rw all.1 (ap Some (sym (rolls-Map _))))

kept : (j : Json) → IsKept j
kept = ind-Json IsKept (λ x y is.
    let layer = subst IsLayerKept is (layer_kept y) in
    let opened = fold-roll-Json Data data_step x in
    (ap has_float opened ∙ layer.0, ap json_of opened ∙ layer.1))

pub has_float-data_of : (j : Json) → has_float (data_of j) ≡ false
has_float-data_of j = (kept j).0

pub json_of-data_of : (j : Json) → json_of (data_of j) ≡ Some j
json_of-data_of j = (kept j).1

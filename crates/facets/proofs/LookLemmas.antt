-- How often a search looks at datasets for its facets.
use Rattle.std.proofs.Common.{◌≡◌, ◌∙◌, ◌<◌, ◌≤◌, ℕ, ◌+◌, ◌*◌, cond, List, [], ◌∷◌, Option, Some, None}
use Rattle.std.proofs.Common.{ap, arith, drop, get_or, length, subst, sym}
use Rattle.std.specs.Prelude.{filter, is_some}
use Rattle.std.proofs.lemmas.List.{at_drop_all, at_drop_more}
use Rattle.facets.specs.Request.{field_named}
use Rattle.facets.specs.SearchFacets.{counted_names, looks_for}
use Rattle.facets.specs.declared.field.FacetField.{FacetField}
use native.Mathlib.Nat.{suc-mul}

-- for the fields with these names, one after the other
abbrev pub looks_for_all : ℕ → List (List ℕ) → ℕ
looks_for_all count [] = 0
looks_for_all count (name ∷ names) = looks_for count (field_named name) + looks_for_all count names

pub looks-counted : (count : ℕ) (names : List (List ℕ)) → looks_for_all count names ≡ counted_names names * count
looks-counted count [] = omega arith
looks-counted count (name ∷ names) = by (field_named name) (looks-counted count names)
  where
    rest : List (List ℕ)
    rest = filter (λ t. is_some (field_named t)) names

    by : (field : Option FacetField) → looks_for_all count names ≡ counted_names names * count
        → looks_for count field + looks_for_all count names ≡ length (cond (is_some field) (name ∷ rest) rest) * count
    by None more = omega (arith, more)
    by (Some field) more = omega (arith, more, suc-mul (length rest) count)

-- Where the steps so far and those for the other names are the steps for all names, no step is beyond these.
pub looks-so_far : (count : ℕ) (names fields : List (List ℕ)) (i start steps : ℕ) → names ≡ fields
    → steps + looks_for_all count (drop i names) ≡ start + looks_for_all count names
    → steps ≤ start + counted_names fields * count
looks-so_far count names fields i start steps same so_far =
    subst (λ (list : List (List ℕ)). steps ≤ start + counted_names list * count) same
    (omega (arith, so_far, looks-counted count names))

-- Nor are the steps for the next name.
pub looks-next : (count : ℕ) (names fields : List (List ℕ)) (i start steps new : ℕ) (name : List ℕ) → names ≡ fields
    → i < length names → name ≡ get_or names i name
    → steps + looks_for_all count (drop i names) ≡ start + looks_for_all count names
    → new ≤ steps + looks_for count (field_named name) → new ≤ start + counted_names fields * count
looks-next count names fields i start steps new name same within is so_far next =
    subst (λ (list : List (List ℕ)). new ≤ start + counted_names list * count) same
    (omega (arith, so_far, next, looks-counted count names, left))
  where
    left : looks_for_all count (drop i names)
        ≡ looks_for count (field_named name) + looks_for_all count (drop (i + 1) names)
    left =
        at_drop_more (looks_for_all count) names i name within
        ∙ ap (λ (t : List ℕ). looks_for count (field_named t) + looks_for_all count (drop (i + 1) names)) (sym is)

-- Behind the last name they are the steps for all names.
pub looks-all : (count : ℕ) (names fields : List (List ℕ)) (i start steps : ℕ) → names ≡ fields → length names ≤ i
    → steps + looks_for_all count (drop i names) ≡ start + looks_for_all count names
    → steps ≡ start + counted_names fields * count
looks-all count names fields i start steps same past so_far =
    subst (λ (list : List (List ℕ)). steps ≡ start + counted_names list * count) same
    (omega (arith, so_far, looks-counted count names, at_drop_all (looks_for_all count) names i past))

-- Counts of texts among items, each of which has some texts.
use Rattle.std.specs.Prelude.{ℕ, Bool, true, false, ◌&&◌, List, [], ◌∷◌, filter, flat_map, length, map}
use Rattle.std.specs.declared.cmp.Ordering.{Ordering}
use Rattle.std.specs.Ordering.{nat_cmp, ordering_then}
use Rattle.std.specs.Cmp.{IsTotalOrder, nat_cmp_total}
use Rattle.std.specs.Cmp.Lexicographic.{slice_cmp}
use Rattle.std.proofs.lemmas.Cmp.{back_total, on_total, then_total, nat_list_cmp_total}
use Rattle.portal_base.specs.Kinds.{is_among}
use Rattle.portal_base.specs.Ordered.{ascending}
use Rattle.packages.specs.Tags.{text_set}

-- An empty text is no value.
abbrev pub is_value : List ℕ → Bool
is_value [] = false
is_value (byte ∷ bytes) = true

-- The item has this value. It has a value once, even if the text is repeated.
abbrev pub has_text : {X : Type 0} → (X → List (List ℕ)) → List ℕ → X → Bool
has_text texts value item = is_value value && is_among (texts item) value

-- how many of the items have the value
abbrev pub count_with : {X : Type 0} → (X → List (List ℕ)) → List ℕ → List X → ℕ
count_with texts value items = length (filter (has_text texts value) items)

-- the set of the items' values
abbrev pub values_among : {X : Type 0} → (X → List (List ℕ)) → List X → List (List ℕ)
values_among texts items = text_set (filter is_value (flat_map texts items))

-- a value with its count
abbrev pub Facet : Type 0
Facet = List ℕ × ℕ

-- by count, descending, and then by value, ascending
abbrev pub facet_cmp : Facet → Facet → Ordering
facet_cmp x y = ordering_then (nat_cmp y.1 x.1) (slice_cmp nat_cmp x.0 y.0)

-- The order is total.
pub facet_cmp_total : IsTotalOrder facet_cmp
facet_cmp_total = then_total (back_total (on_total (λ x. x.1) nat_cmp_total)) (on_total (λ x. x.0) nat_list_cmp_total)

-- each value of the items with its count, in that order
abbrev pub counts_by : {X : Type 0} → (X → List (List ℕ)) → List X → List Facet
counts_by texts items =
    ascending facet_cmp (map (λ value. (value, count_with texts value items)) (values_among texts items))

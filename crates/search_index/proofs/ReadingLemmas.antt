-- The tests and the items of a query.
use Rattle.std.proofs.Common.{◌≡◌, ◌∙◌, ◌++◌, ℕ, List, [], ◌∷◌, map, refl, sym, ap, append_assoc, append-nil}
use Rattle.std.proofs.Common.{option_to_list}
use Rattle.std.specs.Prelude.{Option, Some, None, filter_map}
use Rattle.std.specs.List.{cons_option}
use Rattle.search_index.specs.Reading.{item_of_text, prefix_tests}
use Rattle.search_index.specs.declared.item.Item.{Item}
use Rattle.search_index.specs.declared.item.Test.{Test}
use Rattle.search_index.specs.declared.item.Test.TheVariants.{Term, Prefix}

last_is_prefix : (front : List (List ℕ)) (last : List ℕ)
    → prefix_tests (front ++ last ∷ []) ≡ map Term front ++ Prefix last ∷ []
last_is_prefix [] last = refl
last_is_prefix (t ∷ []) last = refl
last_is_prefix (t ∷ u ∷ us) last = ap (λ (tests : List Test). Term t ∷ tests) (last_is_prefix (u ∷ us) last)

pub prefix_tests_of_last : (terms front : List (List ℕ)) (last : List ℕ) → terms ≡ front ++ last ∷ []
    → prefix_tests terms ≡ map Term front ++ Prefix last ∷ []
prefix_tests_of_last terms front last same = ap prefix_tests same ∙ last_is_prefix front last

-- The item of the first text comes after the items so far.
pub one_more_item : (items : List Item) (item : List ℕ) (texts : List (List ℕ))
    → items ++ filter_map item_of_text (item ∷ texts)
    ≡ (items ++ option_to_list (item_of_text item)) ++ filter_map item_of_text texts
one_more_item items item texts = by (item_of_text item)
  where
    by : (o : Option Item) → items ++ cons_option o (filter_map item_of_text texts)
        ≡ (items ++ option_to_list o) ++ filter_map item_of_text texts
    by None = ap (λ (xs : List Item). xs ++ filter_map item_of_text texts) (sym (append-nil items))
    by (Some one) = sym (append_assoc items (one ∷ []) (filter_map item_of_text texts))

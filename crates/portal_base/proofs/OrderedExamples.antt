-- Examples of ordered numbers: insertions, look-ups and removals.
use Rattle.std.proofs.Common.{◌≡◌, ℕ, true, false, List, [], ◌∷◌, Some, None, refl}
use Rattle.std.specs.declared.cmp.Ordering.{Ordering}
use Rattle.std.specs.Ordering.{nat_cmp}
use Rattle.portal_base.specs.Ordered.{inserted, ascending, are_apart, found, removed, dropped, upserted}

abbrev some_numbers : List ℕ
some_numbers = 2 ∷ 5 ∷ 7 ∷ []

in_front : inserted nat_cmp 1 some_numbers ≡ 1 ∷ 2 ∷ 5 ∷ 7 ∷ []
in_front = refl

between : inserted nat_cmp 6 some_numbers ≡ 2 ∷ 5 ∷ 6 ∷ 7 ∷ []
between = refl

inserted_last : inserted nat_cmp 9 some_numbers ≡ 2 ∷ 5 ∷ 7 ∷ 9 ∷ []
inserted_last = refl

into_nothing : inserted nat_cmp 3 [] ≡ 3 ∷ []
into_nothing = refl

in_order : ascending nat_cmp (7 ∷ 2 ∷ 5 ∷ []) ≡ some_numbers
in_order = refl

apart : are_apart nat_cmp (7 ∷ 2 ∷ 5 ∷ []) ≡ true
apart = refl

-- Equal items are noticed also if others are between them.
not_apart : are_apart nat_cmp (7 ∷ 2 ∷ 7 ∷ []) ≡ false
not_apart = refl

found_there : found (λ x. nat_cmp x 5) some_numbers ≡ Some 5
found_there = refl

not_found : found (λ x. nat_cmp x 6) some_numbers ≡ None
not_found = refl

one_gone : removed (λ x. nat_cmp x 5) some_numbers ≡ 2 ∷ 7 ∷ []
one_gone = refl

none_gone : removed (λ x. nat_cmp x 6) some_numbers ≡ some_numbers
none_gone = refl

dropped_there : dropped (λ x. nat_cmp x 5) some_numbers ≡ 2 ∷ 7 ∷ []
dropped_there = refl

none_dropped : dropped (λ x. nat_cmp x 6) some_numbers ≡ some_numbers
none_dropped = refl

-- All items with the key are dropped.
both_dropped : dropped (λ x. nat_cmp x 5) (5 ∷ 2 ∷ 5 ∷ []) ≡ 2 ∷ []
both_dropped = refl

upserted_between : upserted nat_cmp 6 some_numbers ≡ 2 ∷ 5 ∷ 6 ∷ 7 ∷ []
upserted_between = refl

-- the order of pairs by their first number
abbrev by_first : ℕ × ℕ → ℕ × ℕ → Ordering
by_first x y = nat_cmp x.0 y.0

upserted_over_equal : upserted by_first (5, 1) ((2, 0) ∷ (5, 0) ∷ (7, 0) ∷ []) ≡ (2, 0) ∷ (5, 1) ∷ (7, 0) ∷ []
upserted_over_equal = refl

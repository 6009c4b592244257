-- Upserts into ordered lists, and removals of all items with a key.
use Rattle.std.proofs.Common.{◌≡◌, ℕ, suc, ◌+◌, ◌<◌, Bool, true, false, not, cond, ◌&&◌, List, [], ◌∷◌}
use Rattle.std.proofs.Common.{length, get_or, set}
use Rattle.std.proofs.Common.{Some, None, refl, sym, ap, subst, ◌∙◌, ◌⊎◌, inl, inr, arith}
use Rattle.std.specs.Prelude.{filter, insert, slice_get}
use Rattle.std.specs.List.{All, Contains, prefix_len}
use Rattle.std.specs.Cmp.{IsTotalOrder}
use Rattle.std.proofs.lemmas.List.Elements.{All-contains, All-filter, Contains-get_or}
use Rattle.std.proofs.lemmas.Option.{slice_get-get_or}
use Rattle.std.specs.Ordering.{is_eq, is_lt, ordering_reverse}
use Rattle.std.specs.declared.cmp.Ordering.{Ordering}
use Rattle.std.specs.declared.cmp.Ordering.TheVariants.{Less, Equal, Greater}
use Rattle.portal_base.specs.Ordered.{IsBelowAll, IsAscending, inserted, ascending, are_apart, found}
use Rattle.portal_base.specs.Ordered.{removed, dropped, upserted, IsKey}
use Rattle.portal_base.proofs.Inserted.{IsAscending-inserted, list_any-same, find-inserted_found, find-inserted_other}
use Rattle.portal_base.proofs.Inserted.{insert-prefix_len, list_any-find}
use Rattle.portal_base.proofs.Removed.{is_eq_true, none_above, inserted_front, add_one_left}
use Rattle.portal_base.proofs.Unique.{IsIn, IsIn-Contains, Contains-IsIn, IsIn-inserted, inserted-IsIn}
use Rattle.portal_base.proofs.Filtered.{IsIn-filter, filter-IsIn, filter-filter, list_any-left_out, find-list_any}
use Rattle.portal_base.proofs.Filtered.{find-filter, IsAscending-filter, filter-inserted}

-- ---- dropped items

-- If no item has the key, the list is the same.
pub dropped-none : {X : Type 0} (at : X → Ordering) (xs : List X) → found at xs ≡ None → dropped at xs ≡ xs
dropped-none at [] none = refl
dropped-none {X} at (x ∷ xs) none =
    let P : Bool → Type 0 = λ b. cond b (Some x) (found at xs) ≡ None
    → cond (not b) (x ∷ dropped at xs) (dropped at xs) ≡ x ∷ xs in
    (elim (is_eq (at x)) as P [
      | true ↦ λ e. absurd (cc)
      | false ↦ λ e. ap (λ l. x ∷ l) (dropped-none at xs e)
    ]) none

-- In an ascending list at most one item has the key, so to drop all is to remove the first.
pub dropped-removed : {X : Type 0} (cmp : X → X → Ordering) (o : IsTotalOrder cmp) (at : X → Ordering)
    (key : IsKey cmp at) (xs : List X) → IsAscending cmp xs → dropped at xs ≡ removed at xs
dropped-removed cmp o at key [] up = refl
dropped-removed {X} cmp o at key (x ∷ xs) up = by (is_eq (at x)) refl (dropped-removed cmp o at key xs up.1)
  where
    by : (b : Bool) → is_eq (at x) ≡ b → dropped at xs ≡ removed at xs
        → cond (not b) (x ∷ dropped at xs) (dropped at xs) ≡ cond b xs (x ∷ removed at xs)
    by true here rest = dropped-none at xs (none_above cmp o at key x xs (is_eq_true (at x) here) up.0)
    by false other rest = ap (λ l. x ∷ l) rest

-- The remaining items ascend.
pub IsAscending-dropped : {X : Type 0} (cmp : X → X → Ordering) (at : X → Ordering) (xs : List X)
    → IsAscending cmp xs → IsAscending cmp (dropped at xs)
IsAscending-dropped cmp at xs up = IsAscending-filter cmp (λ x. not (is_eq (at x))) xs up

-- The dropped key is not found.
pub found-dropped : {X : Type 0} (at : X → Ordering) (xs : List X) → found at (dropped at xs) ≡ None
found-dropped at xs = find-list_any (λ x. is_eq (at x)) (dropped at xs) (list_any-left_out (λ x. is_eq (at x)) xs)

-- not false
true_from_not : (b : Bool) → not b ≡ false → b ≡ true
true_from_not true h = refl
true_from_not false h = absurd (cc)

false_from_not : (b : Bool) → not b ≡ true → b ≡ false
false_from_not true h = absurd (cc)
false_from_not false h = refl

-- Look-ups of a key that no item shares with the dropped key do not change.
pub found-dropped_other : {X : Type 0} (at other : X → Ordering) (xs : List X)
    → ((x : X) → at x ≡ Equal → is_eq (other x) ≡ false) → found other (dropped at xs) ≡ found other xs
found-dropped_other at other xs apart =
    find-filter (λ x. is_eq (other x)) (λ x. not (is_eq (at x))) xs
    (λ x gone. apart x (is_eq_true (at x) (true_from_not (is_eq (at x)) gone)))

-- A remaining item was in the list, and does not have the key.
pub IsIn-dropped : {X : Type 0} (at : X → Ordering) (z : X) (xs : List X) → IsIn z (dropped at xs)
    → IsIn z xs × (is_eq (at z) ≡ false)
IsIn-dropped at z xs m =
    let was : IsIn z xs × (not (is_eq (at z)) ≡ true) = IsIn-filter (λ x. not (is_eq (at x))) z xs m in
    (was.0, false_from_not (is_eq (at z)) was.1)

-- An item of the list that does not have the key remains.
pub dropped-IsIn : {X : Type 0} (at : X → Ordering) (z : X) (xs : List X) → IsIn z xs → is_eq (at z) ≡ false
    → IsIn z (dropped at xs)
dropped-IsIn at z xs m other = filter-IsIn (λ x. not (is_eq (at x))) z xs m (ap not other)

pub Contains-dropped : {X : Type 0} (at : X → Ordering) (z : X) (xs : List X) → Contains (dropped at xs) z
    → Contains xs z × (is_eq (at z) ≡ false)
Contains-dropped at z xs m =
    let was : IsIn z xs × (is_eq (at z) ≡ false) = IsIn-dropped at z xs (IsIn-Contains z (dropped at xs) m) in
    (Contains-IsIn z xs was.0, was.1)

pub dropped-Contains : {X : Type 0} (at : X → Ordering) (z : X) (xs : List X) → Contains xs z
    → is_eq (at z) ≡ false → Contains (dropped at xs) z
dropped-Contains at z xs m other =
    Contains-IsIn z (dropped at xs) (dropped-IsIn at z xs (IsIn-Contains z xs m) other)

-- Filtering and dropping commute.
pub filter-dropped : {X : Type 0} (p : X → Bool) (at : X → Ordering) (xs : List X)
    → filter p (dropped at xs) ≡ dropped at (filter p xs)
filter-dropped p at xs = filter-filter p (λ x. not (is_eq (at x))) xs

-- If no item with the key passes the filter, the filtered list is the same.
pub filter-dropped_hidden : {X : Type 0} (p : X → Bool) (at : X → Ordering) (xs : List X)
    → ((x : X) → IsIn x xs → at x ≡ Equal → p x ≡ false) → filter p (dropped at xs) ≡ filter p xs
filter-dropped_hidden p at [] hides = refl
filter-dropped_hidden {X} p at (x ∷ xs) hides =
    by (is_eq (at x)) refl (filter-dropped_hidden p at xs (λ z m. hides z (inr m)))
  where
    by : (b : Bool) → is_eq (at x) ≡ b → filter p (dropped at xs) ≡ filter p xs
        → filter p (cond (not b) (x ∷ dropped at xs) (dropped at xs)) ≡ filter p (x ∷ xs)
    by true here rest =
        rest
        ∙ sym (ap (λ b. cond b (x ∷ filter p xs) (filter p xs)) (hides x (inl refl) (is_eq_true (at x) here)))
    by false other rest = ap (λ l. cond (p x) (x ∷ l) l) rest

-- ---- upserted items

-- If no item is equal to it, an upsert is an insertion.
pub upserted-none : {X : Type 0} (cmp : X → X → Ordering) (x : X) (xs : List X) → found (λ y. cmp y x) xs ≡ None
    → upserted cmp x xs ≡ inserted cmp x xs
upserted-none cmp x xs none = ap (inserted cmp x) (dropped-none (λ y. cmp y x) xs none)

-- The list still ascends.
pub IsAscending-upserted : {X : Type 0} (cmp : X → X → Ordering) (o : IsTotalOrder cmp) (x : X) (xs : List X)
    → IsAscending cmp xs → IsAscending cmp (upserted cmp x xs)
IsAscending-upserted cmp o x xs up =
    IsAscending-inserted cmp o x (dropped (λ y. cmp y x) xs) (IsAscending-dropped cmp (λ y. cmp y x) xs up)
    (list_any-left_out (λ y. is_eq (cmp y x)) xs)

-- The item is found at its key.
pub found-upserted : {X : Type 0} (cmp : X → X → Ordering) (at : X → Ordering) (key : IsKey cmp at) (x : X)
    (xs : List X) → at x ≡ Equal → found at (upserted cmp x xs) ≡ Some x
found-upserted {X} cmp at key x xs here =
    let alike : (y : X) → is_eq (at y) ≡ is_eq (cmp y x) = λ y. ap is_eq (key x y here) in
    find-inserted_found cmp (λ y. is_eq (at y)) x (dropped (λ y. cmp y x) xs) (ap is_eq here)
    (list_any-same (λ y. is_eq (at y)) (λ y. is_eq (cmp y x)) alike (dropped (λ y. cmp y x) xs)
    ∙ list_any-left_out (λ y. is_eq (cmp y x)) xs)

-- An item equal to one without the key does not have the key.
apart_from_like : {X : Type 0} (cmp : X → X → Ordering) (o : IsTotalOrder cmp) (at : X → Ordering)
    (key : IsKey cmp at) (x y : X) → is_eq (at x) ≡ false → cmp y x ≡ Equal → is_eq (at y) ≡ false
apart_from_like {X} cmp o at key x y other like = by (is_eq (at y)) refl
  where
    by : (b : Bool) → is_eq (at y) ≡ b → b ≡ false
    by false is = refl
    by true is =
        let back : cmp x y ≡ Equal = o.antisymm x y ∙ ap ordering_reverse like in
        let here : at x ≡ Equal = key y x (is_eq_true (at y) is) ∙ back in
        let yes : is_eq (at x) ≡ true = ap is_eq here in
        absurd (cc)

-- Look-ups of other keys do not change.
pub found-upserted_other : {X : Type 0} (cmp : X → X → Ordering) (o : IsTotalOrder cmp) (at : X → Ordering)
    (key : IsKey cmp at) (x : X) (xs : List X) → is_eq (at x) ≡ false → found at (upserted cmp x xs) ≡ found at xs
found-upserted_other cmp o at key x xs other =
    find-inserted_other cmp (λ y. is_eq (at y)) x (dropped (λ y. cmp y x) xs) other
    ∙ found-dropped_other (λ y. cmp y x) at xs (λ y like. apart_from_like cmp o at key x y other like)

-- An item of the new list is the upserted one, or an old one that is not equal to it.
pub IsIn-upserted : {X : Type 0} (cmp : X → X → Ordering) (x z : X) (xs : List X) → IsIn z (upserted cmp x xs)
    → (z ≡ x) ⊎ (IsIn z xs × (is_eq (cmp z x) ≡ false))
IsIn-upserted {X} cmp x z xs m = by (inserted-IsIn cmp z x (dropped (λ y. cmp y x) xs) m)
  where
    by : IsIn z (x ∷ dropped (λ y. cmp y x) xs) → (z ≡ x) ⊎ (IsIn z xs × (is_eq (cmp z x) ≡ false))
    by (inl e) = inl e
    by (inr n) = inr (IsIn-dropped (λ y. cmp y x) z xs n)

-- The upserted item is in the new list.
pub upserted-IsIn : {X : Type 0} (cmp : X → X → Ordering) (x : X) (xs : List X) → IsIn x (upserted cmp x xs)
upserted-IsIn cmp x xs = IsIn-inserted cmp x x (dropped (λ y. cmp y x) xs) (inl refl)

-- So is an old item that is not equal to it.
pub upserted-IsIn_other : {X : Type 0} (cmp : X → X → Ordering) (x z : X) (xs : List X) → IsIn z xs
    → is_eq (cmp z x) ≡ false → IsIn z (upserted cmp x xs)
upserted-IsIn_other cmp x z xs m other =
    IsIn-inserted cmp z x (dropped (λ y. cmp y x) xs) (inr (dropped-IsIn (λ y. cmp y x) z xs m other))

pub Contains-upserted : {X : Type 0} (cmp : X → X → Ordering) (x z : X) (xs : List X) → Contains (upserted cmp x xs) z
    → (z ≡ x) ⊎ (Contains xs z × (is_eq (cmp z x) ≡ false))
Contains-upserted {X} cmp x z xs m = by (IsIn-upserted cmp x z xs (IsIn-Contains z (upserted cmp x xs) m))
  where
    by : (z ≡ x) ⊎ (IsIn z xs × (is_eq (cmp z x) ≡ false)) → (z ≡ x) ⊎ (Contains xs z × (is_eq (cmp z x) ≡ false))
    by (inl e) = inl e
    by (inr n) = inr (Contains-IsIn z xs n.0, n.1)

pub upserted-Contains : {X : Type 0} (cmp : X → X → Ordering) (x : X) (xs : List X) → Contains (upserted cmp x xs) x
upserted-Contains cmp x xs = Contains-IsIn x (upserted cmp x xs) (upserted-IsIn cmp x xs)

pub upserted-Contains_other : {X : Type 0} (cmp : X → X → Ordering) (x z : X) (xs : List X) → Contains xs z
    → is_eq (cmp z x) ≡ false → Contains (upserted cmp x xs) z
upserted-Contains_other cmp x z xs m other =
    Contains-IsIn z (upserted cmp x xs) (upserted-IsIn_other cmp x z xs (IsIn-Contains z xs m) other)

-- A filtered upsert: if the filter passes the item, it is upserted into the filtered list; else its key is dropped.
pub filter-upserted : {X : Type 0} (cmp : X → X → Ordering) (o : IsTotalOrder cmp) (p : X → Bool) (x : X)
    (xs : List X) → IsAscending cmp xs
    → filter p (upserted cmp x xs) ≡ cond (p x) (upserted cmp x (filter p xs)) (dropped (λ y. cmp y x) (filter p xs))
filter-upserted cmp o p x xs up =
    filter-inserted cmp o p x (dropped (λ y. cmp y x) xs) (IsAscending-dropped cmp (λ y. cmp y x) xs up)
    ∙ ap (λ l. cond (p x) (inserted cmp x l) l) (filter-dropped p (λ y. cmp y x) xs)

-- If the filter passes neither the item nor those equal to it, the filtered list is the same.
pub filter-upserted_hidden : {X : Type 0} (cmp : X → X → Ordering) (o : IsTotalOrder cmp) (p : X → Bool) (x : X)
    (xs : List X) → IsAscending cmp xs → p x ≡ false → ((y : X) → IsIn y xs → cmp y x ≡ Equal → p y ≡ false)
    → filter p (upserted cmp x xs) ≡ filter p xs
filter-upserted_hidden cmp o p x xs up fails hides =
    filter-upserted cmp o p x xs up
    ∙ ap (λ b. cond b (upserted cmp x (filter p xs)) (dropped (λ y. cmp y x) (filter p xs))) fails
    ∙ sym (filter-dropped p (λ y. cmp y x) xs)
    ∙ filter-dropped_hidden p (λ y. cmp y x) xs hides

-- ---- by indexes

-- the number of leading items below x
abbrev pub below_count : {X : Type 0} → (X → X → Ordering) → X → List X → ℕ
below_count cmp x xs = prefix_len (λ y. is_lt (cmp y x)) xs

-- Equal items are below the same items.
IsBelowAll-like : {X : Type 0} (cmp : X → X → Ordering) (o : IsTotalOrder cmp) (y x : X) (xs : List X)
    → cmp y x ≡ Equal → IsBelowAll cmp y xs → IsBelowAll cmp x xs
IsBelowAll-like cmp o y x [] like below = tt
IsBelowAll-like cmp o y x (z ∷ zs) like below =
    (sym (o.congr y x z like) ∙ below.0, IsBelowAll-like cmp o y x zs like below.1)

-- An item below x is below everything that x is below.
IsBelowAll-below : {X : Type 0} (cmp : X → X → Ordering) (o : IsTotalOrder cmp) (x y : X) (xs : List X)
    → cmp x y ≡ Less → IsBelowAll cmp y xs → IsBelowAll cmp x xs
IsBelowAll-below cmp o x y [] less below = tt
IsBelowAll-below cmp o x y (z ∷ zs) less below =
    (o.trans x y z less below.0, IsBelowAll-below cmp o x y zs less below.1)

-- No item that x is below is equal to x.
found-above : {X : Type 0} (cmp : X → X → Ordering) (o : IsTotalOrder cmp) (x : X) (xs : List X)
    → IsBelowAll cmp x xs → found (λ y. cmp y x) xs ≡ None
found-above cmp o x [] below = refl
found-above {X} cmp o x (y ∷ ys) below =
    let above : cmp y x ≡ Greater = o.antisymm y x ∙ ap ordering_reverse below.0 in
    ap (λ r. cond (is_eq r) (Some y) (found (λ z. cmp z x) ys)) above ∙ found-above cmp o x ys below.1

-- In an ascending list no two items are equal, and sorting does not change it.
pub are_apart-IsAscending : {X : Type 0} (cmp : X → X → Ordering) (o : IsTotalOrder cmp) (xs : List X)
    → IsAscending cmp xs → are_apart cmp xs ≡ true
are_apart-IsAscending cmp o [] up = refl
are_apart-IsAscending cmp o (x ∷ xs) up =
    ap (λ b. not b && are_apart cmp xs) (list_any-find (λ y. is_eq (cmp y x)) xs (found-above cmp o x xs up.0))
    ∙ are_apart-IsAscending cmp o xs up.1

pub ascending-same : {X : Type 0} (cmp : X → X → Ordering) (o : IsTotalOrder cmp) (xs : List X) → IsAscending cmp xs
    → ascending cmp xs ≡ xs
ascending-same cmp o [] up = refl
ascending-same cmp o (x ∷ xs) up =
    ap (inserted cmp x) (ascending-same cmp o xs up.1) ∙ inserted_front cmp o x xs up.0

-- If the first item that is not below x is equal to x, it is found, and the upsert replaces it.
pub upserted-like : {X : Type 0} (cmp : X → X → Ordering) (o : IsTotalOrder cmp) (x d : X) (xs : List X)
    → IsAscending cmp xs → below_count cmp x xs < length xs → cmp (get_or xs (below_count cmp x xs) d) x ≡ Equal
    → (upserted cmp x xs ≡ set xs (below_count cmp x xs) x)
    × (found (λ y. cmp y x) xs ≡ Some (get_or xs (below_count cmp x xs) d))
upserted-like cmp o x d [] up within here = absurd (omega arith)
upserted-like {X} cmp o x d (y ∷ ys) up within here =
    by (λ lt h. upserted-like cmp o x d ys up.1 lt h) (cmp y x) refl within here
  where
    by : (below_count cmp x ys < length ys → cmp (get_or ys (below_count cmp x ys) d) x ≡ Equal
        → (upserted cmp x ys ≡ set ys (below_count cmp x ys) x)
        × (found (λ z. cmp z x) ys ≡ Some (get_or ys (below_count cmp x ys) d)))
        → (r : Ordering) → cmp y x ≡ r → cond (is_lt r) (1 + below_count cmp x ys) 0 < length (y ∷ ys)
        → cmp (get_or (y ∷ ys) (cond (is_lt r) (1 + below_count cmp x ys) 0) d) x ≡ Equal
        → (inserted cmp x (cond (not (is_eq r)) (y ∷ dropped (λ z. cmp z x) ys) (dropped (λ z. cmp z x) ys))
        ≡ set (y ∷ ys) (cond (is_lt r) (1 + below_count cmp x ys) 0) x)
        × (cond (is_eq r) (Some y) (found (λ z. cmp z x) ys)
        ≡ Some (get_or (y ∷ ys) (cond (is_lt r) (1 + below_count cmp x ys) 0) d))
    by further Less e lt h =
        let there : cmp (get_or ys (below_count cmp x ys) d) x ≡ Equal =
        rw (add_one_left (below_count cmp x ys)) at h in
        let go = further (omega arith) there in
        rw (add_one_left (below_count cmp x ys)) (
          ap (λ r. cond (is_lt r) (y ∷ upserted cmp x ys) (x ∷ y ∷ dropped (λ z. cmp z x) ys)) e
              ∙ ap (λ l. y ∷ l) go.0,
          go.1,
        )
    by further Equal e lt h =
        let below : IsBelowAll cmp x ys = IsBelowAll-like cmp o y x ys e up.0 in (
          ap (inserted cmp x) (dropped-none (λ z. cmp z x) ys (found-above cmp o x ys below))
              ∙ inserted_front cmp o x ys below,
          refl,
        )
    by further Greater e lt h = absurd (cc)

-- If it is not equal to x, nothing is found.
pub found-unlike : {X : Type 0} (cmp : X → X → Ordering) (o : IsTotalOrder cmp) (x d : X) (xs : List X)
    → IsAscending cmp xs
    → (below_count cmp x xs < length xs → is_eq (cmp (get_or xs (below_count cmp x xs) d) x) ≡ false)
    → found (λ y. cmp y x) xs ≡ None
found-unlike cmp o x d [] up unlike = refl
found-unlike {X} cmp o x d (y ∷ ys) up unlike =
    by (λ h. found-unlike cmp o x d ys up.1 h) (cmp y x) refl unlike
  where
    by : ((below_count cmp x ys < length ys → is_eq (cmp (get_or ys (below_count cmp x ys) d) x) ≡ false)
        → found (λ z. cmp z x) ys ≡ None)
        → (r : Ordering) → cmp y x ≡ r
        → (cond (is_lt r) (1 + below_count cmp x ys) 0 < length (y ∷ ys)
        → is_eq (cmp (get_or (y ∷ ys) (cond (is_lt r) (1 + below_count cmp x ys) 0) d) x) ≡ false)
        → cond (is_eq r) (Some y) (found (λ z. cmp z x) ys) ≡ None
    by further Less e h =
        further (λ lt. let there : 1 + below_count cmp x ys < suc (length ys) = omega arith in
        rw (add_one_left (below_count cmp x ys)) at (h there))
    by further Equal e h = let no : is_eq (cmp y x) ≡ false = h (omega arith) in absurd (cc)
    by further Greater e h =
        let less : cmp x y ≡ Less = o.antisymm x y ∙ ap ordering_reverse e in
        found-above cmp o x ys (IsBelowAll-below cmp o x y ys less up.0)

-- The same for the item that was read at the index.
pub upserted_at : {X : Type 0} (cmp : X → X → Ordering) (o : IsTotalOrder cmp) (x : X) (xs : List X)
    → IsAscending cmp xs → (index : ℕ) → index ≡ below_count cmp x xs → index < length xs
    → (there : X) → there ≡ get_or xs index there → is_eq (cmp there x) ≡ true
    → (found (λ y. cmp y x) xs ≡ slice_get xs index) × (upserted cmp x xs ≡ set xs index x)
upserted_at {X} cmp o x xs up index is within there read like =
    let here : below_count cmp x xs < length xs = subst (λ n. n < length xs) is within in
    let current : there ≡ get_or xs (below_count cmp x xs) there = read ∙ ap (λ n. get_or xs n there) is in
    let both = upserted-like cmp o x there xs up here
    (ap (λ y. cmp y x) (sym current) ∙ is_eq_true (cmp there x) like) in
    let got : slice_get xs index ≡ Some (get_or xs (below_count cmp x xs) there) =
    ap (slice_get xs) is ∙ slice_get-get_or xs (below_count cmp x xs) there here in
    (both.1 ∙ sym got, both.0 ∙ ap (λ n. set xs n x) (sym is))

pub inserted_at : {X : Type 0} (cmp : X → X → Ordering) (o : IsTotalOrder cmp) (x : X) (xs : List X)
    → IsAscending cmp xs → (index : ℕ) → index ≡ below_count cmp x xs
    → (index < length xs → is_eq (cmp (get_or xs index x) x) ≡ false)
    → (found (λ y. cmp y x) xs ≡ None) × (upserted cmp x xs ≡ insert xs index x)
inserted_at {X} cmp o x xs up index is unlike =
    let none : found (λ y. cmp y x) xs ≡ None =
    found-unlike cmp o x x xs up (subst (λ n. n < length xs → is_eq (cmp (get_or xs n x) x) ≡ false) is unlike) in
    (none, upserted-none cmp x xs none ∙ sym (insert-prefix_len cmp x xs) ∙ ap (λ n. insert xs n x) (sym is))

-- ---- properties of all items

-- A property of every member is a property of every index.
pub All-each : {X : Type 0} (P : X → Type 0) (xs : List X) → ((x : X) → IsIn x xs → P x) → All P xs
All-each P xs each = λ k d lt. each (get_or xs k d) (IsIn-Contains (get_or xs k d) xs (Contains-get_or xs k d lt))

pub All-IsIn : {X : Type 0} (P : X → Type 0) (xs : List X) → All P xs → (x : X) → IsIn x xs → P x
All-IsIn P xs all x m = All-contains P xs x all (Contains-IsIn x xs m)

pub All-dropped : {X : Type 0} (P : X → Type 0) (at : X → Ordering) (xs : List X) → All P xs → All P (dropped at xs)
All-dropped P at xs all = All-filter (λ x. not (is_eq (at x))) P xs all

-- A property of the upserted item and of all old items holds of all new items.
pub All-upserted : {X : Type 0} (P : X → Type 0) (cmp : X → X → Ordering) (x : X) (xs : List X) → P x → All P xs
    → All P (upserted cmp x xs)
All-upserted {X} P cmp x xs here all = All-each P (upserted cmp x xs) (λ z m. by z (IsIn-upserted cmp x z xs m))
  where
    by : (z : X) → (z ≡ x) ⊎ (IsIn z xs × (is_eq (cmp z x) ≡ false)) → P z
    by z (inl e) = subst P (sym e) here
    by z (inr n) = All-IsIn P xs all z n.0

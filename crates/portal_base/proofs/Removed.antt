-- Insertion and removal by a key, and how they undo each other.
use Rattle.std.proofs.Common.{◌≡◌, ℕ, suc, ◌+◌, ◌<◌, ◌≤◌, Bool, true, false, not, ◌&&◌, cond, ltb, ltb-true, ltb-false}
use Rattle.std.proofs.Common.{List, [], ◌∷◌, length, get_or, Option, Some, None, refl, sym, ap, ◌∙◌, subst, arith}
use Rattle.std.specs.Prelude.{remove, position}
use Rattle.std.specs.declared.cmp.Ordering.{Ordering}
use Rattle.std.specs.declared.cmp.Ordering.TheVariants.{Less, Equal, Greater}
use Rattle.std.specs.Ordering.{is_lt, is_eq, ordering_reverse}
use Rattle.std.specs.Cmp.{IsTotalOrder}
use Rattle.std.specs.List.{list_any, prefix_len}
use Rattle.portal_base.specs.Ordered.{IsBelowAll, IsAscending, inserted, are_apart, found, removed, IsKey}
use Rattle.portal_base.proofs.Inserted.{AreApart, IsAscending-inserted, list_any-same, list_any-find}
use Rattle.portal_base.proofs.Inserted.{find-inserted_found, find-inserted_other}

-- ---- insertion

-- An item inserted under a new key is found at it.
pub found-inserted : {X : Type 0} (cmp : X → X → Ordering) (at : X → Ordering) (x : X) (xs : List X)
    → at x ≡ Equal → found at xs ≡ None → found at (inserted cmp x xs) ≡ Some x
found-inserted cmp at x xs here none =
    find-inserted_found cmp (λ y. is_eq (at y)) x xs (ap is_eq here) (list_any-find (λ y. is_eq (at y)) xs none)

-- Look-ups of other keys do not change.
pub found-inserted_other : {X : Type 0} (cmp : X → X → Ordering) (at : X → Ordering) (x : X) (xs : List X)
    → is_eq (at x) ≡ false → found at (inserted cmp x xs) ≡ found at xs
found-inserted_other cmp at x xs other = find-inserted_other cmp (λ y. is_eq (at y)) x xs other

-- The list still ascends if the key was new.
pub IsAscending-inserted_key : {X : Type 0} (cmp : X → X → Ordering) (o : IsTotalOrder cmp) (at : X → Ordering)
    (key : IsKey cmp at) (x : X) (xs : List X) → at x ≡ Equal → found at xs ≡ None → IsAscending cmp xs
    → IsAscending cmp (inserted cmp x xs)
IsAscending-inserted_key {X} cmp o at key x xs here none up =
    let same : (y : X) → is_eq (cmp y x) ≡ is_eq (at y) = λ y. sym (ap is_eq (key x y here)) in
    IsAscending-inserted cmp o x xs up (list_any-same _ _ same xs ∙ list_any-find (λ y. is_eq (at y)) xs none)

-- The removal of an inserted item gives the old list.
pub removed-inserted : {X : Type 0} (cmp : X → X → Ordering) (at : X → Ordering) (x : X) (xs : List X)
    → at x ≡ Equal → found at xs ≡ None → removed at (inserted cmp x xs) ≡ xs
removed-inserted cmp at x [] here none = ap (λ r. cond (is_eq r) [] (x ∷ [])) here
removed-inserted {X} cmp at x (y ∷ ys) here none =
    let P : Bool → Type 0 = λ b. removed at (cond b (y ∷ inserted cmp x ys) (x ∷ y ∷ ys)) ≡ y ∷ ys in
    elim (is_lt (cmp y x)) as P [
      | true ↦ later (λ n. removed-inserted cmp at x ys here n) (is_eq (at y)) refl none
      | false ↦ ap (λ r. cond (is_eq r) (y ∷ ys) (x ∷ removed at (y ∷ ys))) here
    ]
  where
    later : (found at ys ≡ None → removed at (inserted cmp x ys) ≡ ys)
        → (b : Bool) → is_eq (at y) ≡ b → cond b (Some y) (found at ys) ≡ None
        → cond (is_eq (at y)) (inserted cmp x ys) (y ∷ removed at (inserted cmp x ys)) ≡ y ∷ ys
    later go true e n = absurd (cc)
    later go false e n =
        ap (λ b. cond b (inserted cmp x ys) (y ∷ removed at (inserted cmp x ys))) e ∙ ap (λ l. y ∷ l) (go n)

-- ---- removal

-- An item below all is below the remaining items.
pub IsBelowAll-removed : {X : Type 0} (cmp : X → X → Ordering) (at : X → Ordering) (a : X) (xs : List X)
    → IsBelowAll cmp a xs → IsBelowAll cmp a (removed at xs)
IsBelowAll-removed cmp at a [] below = tt
IsBelowAll-removed cmp at a (x ∷ xs) below =
    let P : Bool → Type 0 = λ b. IsBelowAll cmp a (cond b xs (x ∷ removed at xs)) in
    elim (is_eq (at x)) as P [ true ↦ below.1 | false ↦ (below.0, IsBelowAll-removed cmp at a xs below.1) ]

-- The remaining items ascend.
pub IsAscending-removed : {X : Type 0} (cmp : X → X → Ordering) (at : X → Ordering) (xs : List X)
    → IsAscending cmp xs → IsAscending cmp (removed at xs)
IsAscending-removed cmp at [] up = tt
IsAscending-removed cmp at (x ∷ xs) up =
    let P : Bool → Type 0 = λ b. IsAscending cmp (cond b xs (x ∷ removed at xs)) in
    elim (is_eq (at x)) as P [
      | true ↦ up.1
      | false ↦ (IsBelowAll-removed cmp at x xs up.0, IsAscending-removed cmp at xs up.1)
    ]

pub is_eq_true : (r : Ordering) → is_eq r ≡ true → r ≡ Equal
is_eq_true Less h = absurd (cc)
is_eq_true Equal h = refl
is_eq_true Greater h = absurd (cc)

-- If the first item has the key, no later one has it.
pub none_above : {X : Type 0} (cmp : X → X → Ordering) (o : IsTotalOrder cmp) (at : X → Ordering) (key : IsKey cmp at)
    (x : X) (xs : List X) → at x ≡ Equal → IsBelowAll cmp x xs → found at xs ≡ None
none_above cmp o at key x [] here below = refl
none_above {X} cmp o at key x (y ∷ ys) here below =
    let above : at y ≡ Greater = key x y here ∙ o.antisymm y x ∙ ap ordering_reverse below.0 in
    ap (λ r. cond (is_eq r) (Some y) (found at ys)) above ∙ none_above cmp o at key x ys here below.1

-- The removed key is not found.
pub found-removed : {X : Type 0} (cmp : X → X → Ordering) (o : IsTotalOrder cmp) (at : X → Ordering)
    (key : IsKey cmp at) (xs : List X) → IsAscending cmp xs → found at (removed at xs) ≡ None
found-removed cmp o at key [] up = refl
found-removed {X} cmp o at key (x ∷ xs) up = by_head (found-removed cmp o at key xs up.1) (is_eq (at x)) refl
  where
    by_head : found at (removed at xs) ≡ None
        → (b : Bool) → is_eq (at x) ≡ b → found at (cond (is_eq (at x)) xs (x ∷ removed at xs)) ≡ None
    by_head go true e =
        ap (λ b. found at (cond b xs (x ∷ removed at xs))) e ∙ none_above cmp o at key x xs (is_eq_true (at x) e) up.0
    by_head go false e =
        ap (λ b. found at (cond b xs (x ∷ removed at xs))) e
        ∙ ap (λ b. cond b (Some x) (found at (removed at xs))) e
        ∙ go

-- Look-ups of a key that no item shares with the removed key do not change.
pub found-removed_other : {X : Type 0} (at other : X → Ordering) (xs : List X)
    → ((x : X) → at x ≡ Equal → is_eq (other x) ≡ false) → found other (removed at xs) ≡ found other xs
found-removed_other at other [] apart = refl
found-removed_other {X} at other (x ∷ xs) apart =
    by_head (found-removed_other at other xs apart) (is_eq (at x)) refl
  where
    by_head : found other (removed at xs) ≡ found other xs → (b : Bool) → is_eq (at x) ≡ b
        → found other (cond (is_eq (at x)) xs (x ∷ removed at xs)) ≡ found other (x ∷ xs)
    by_head go true e =
        ap (λ b. found other (cond b xs (x ∷ removed at xs))) e
        ∙ sym (ap (λ b. cond b (Some x) (found other xs)) (apart x (is_eq_true (at x) e)))
    by_head go false e =
        ap (λ b. found other (cond b xs (x ∷ removed at xs))) e
        ∙ ap (λ o. cond (is_eq (other x)) (Some x) o) go

-- An item below all others is inserted first.
pub inserted_front : {X : Type 0} (cmp : X → X → Ordering) (o : IsTotalOrder cmp) (x : X) (xs : List X)
    → IsBelowAll cmp x xs → inserted cmp x xs ≡ x ∷ xs
inserted_front cmp o x [] below = refl
inserted_front cmp o x (y ∷ ys) below =
    let above : cmp y x ≡ Greater = o.antisymm y x ∙ ap ordering_reverse below.0 in
    ap (λ r. cond (is_lt r) (y ∷ inserted cmp x ys) (x ∷ y ∷ ys)) above

-- An item that is found is above everything that is below all items.
below_found : {X : Type 0} (cmp : X → X → Ordering) (at : X → Ordering) (a x : X) (xs : List X)
    → IsBelowAll cmp a xs → found at xs ≡ Some x → cmp a x ≡ Less
below_found cmp at a x [] below here = absurd (cc)
below_found {X} cmp at a x (y ∷ ys) below here =
    by_head (λ e. below_found cmp at a x ys below.1 e) (is_eq (at y)) here
  where
    by_head : (found at ys ≡ Some x → cmp a x ≡ Less)
        → (b : Bool) → cond b (Some y) (found at ys) ≡ Some x → cmp a x ≡ Less
    by_head go true e = let same : y ≡ x = cc in subst (λ z. cmp a z ≡ Less) same below.0
    by_head go false e = go e

-- The insertion of an item that was found and removed gives the old list.
pub inserted-removed : {X : Type 0} (cmp : X → X → Ordering) (o : IsTotalOrder cmp) (at : X → Ordering) (x : X)
    (xs : List X) → IsAscending cmp xs → found at xs ≡ Some x → inserted cmp x (removed at xs) ≡ xs
inserted-removed cmp o at x [] up here = absurd (cc)
inserted-removed {X} cmp o at x (y ∷ ys) up here =
    by_head (λ h. inserted-removed cmp o at x ys up.1 h) (is_eq (at y)) refl here
  where
    by_head : (found at ys ≡ Some x → inserted cmp x (removed at ys) ≡ ys)
        → (b : Bool) → is_eq (at y) ≡ b → cond b (Some y) (found at ys) ≡ Some x
        → inserted cmp x (cond (is_eq (at y)) ys (y ∷ removed at ys)) ≡ y ∷ ys
    by_head go true e h =
        let same : y ≡ x = cc in
        ap (λ b. inserted cmp x (cond b ys (y ∷ removed at ys))) e
        ∙ ap (λ z. inserted cmp z ys) (sym same) ∙ inserted_front cmp o y ys up.0
    by_head go false e h =
        ap (λ b. inserted cmp x (cond b ys (y ∷ removed at ys))) e
        ∙ ap (λ r. cond (is_lt r) (y ∷ inserted cmp x (removed at ys)) (x ∷ y ∷ removed at ys))
        (below_found cmp at y x ys up.0 h)
        ∙ ap (λ l. y ∷ l) (go h)

-- ---- distinct items

-- The test and the proposition that no two items are equal agree.
pub AreApart-are_apart : {X : Type 0} (cmp : X → X → Ordering) (xs : List X)
    → are_apart cmp xs ≡ true → AreApart cmp xs
AreApart-are_apart cmp [] e = tt
AreApart-are_apart {X} cmp (x ∷ xs) e =
    let parts : (list_any (λ y. is_eq (cmp y x)) xs ≡ false) × (are_apart cmp xs ≡ true) = both _ _ e in
    (parts.0, AreApart-are_apart cmp xs parts.1)
  where
    both : (a b : Bool) → (not a && b) ≡ true → (a ≡ false) × (b ≡ true)
    both true b h = absurd (cc)
    both false b h = (refl, h)

-- ---- by indexes

pub add_one_left : (n : ℕ) → 1 + n ≡ suc n
add_one_left n = omega arith

-- the number of leading items without the key
abbrev pub before_key : {X : Type 0} → (X → Ordering) → List X → ℕ
before_key at xs = prefix_len (λ x. not (is_eq (at x))) xs

-- The item after these is found, and the remaining list is the list without it.
at_index : {X : Type 0} (at : X → Ordering) (d : X) (xs : List X) → before_key at xs < length xs
    → (found at xs ≡ Some (get_or xs (before_key at xs) d)) × (removed at xs ≡ remove xs (before_key at xs))
at_index at d [] within = absurd (omega arith)
at_index {X} at d (x ∷ xs) within =
    let m : ℕ = before_key at xs in
    let P : Bool → Type 0 = λ b. cond (not b) (1 + m) 0 < length (x ∷ xs)
    → (cond b (Some x) (found at xs) ≡ Some (get_or (x ∷ xs) (cond (not b) (1 + m) 0) d))
    × (cond b xs (x ∷ removed at xs) ≡ remove (x ∷ xs) (cond (not b) (1 + m) 0)) in
    (elim (is_eq (at x)) as P [
      | true ↦ λ lt. (refl, refl)
      | false ↦ λ lt. let go = at_index at d xs (omega arith) in rw (add_one_left m) (go.0, ap (λ l. x ∷ l) go.1)
    ]) within

-- If no item has the key, nothing is found and the list is the same.
at_no_index : {X : Type 0} (at : X → Ordering) (xs : List X) → length xs ≤ before_key at xs
    → (found at xs ≡ None) × (removed at xs ≡ xs)
at_no_index at [] past = (refl, refl)
at_no_index {X} at (x ∷ xs) past =
    let m : ℕ = before_key at xs in
    let P : Bool → Type 0 = λ b. length (x ∷ xs) ≤ cond (not b) (1 + m) 0
    → (cond b (Some x) (found at xs) ≡ None) × (cond b xs (x ∷ removed at xs) ≡ x ∷ xs) in
    (elim (is_eq (at x)) as P [
      | true ↦ λ le. absurd (omega arith)
      | false ↦ λ le. let go = at_no_index at xs (omega arith) in (go.0, ap (λ l. x ∷ l) go.1)
    ]) past

-- The same by the first index with the key.
pub removed-some : {X : Type 0} (at : X → Ordering) (xs : List X) (i : ℕ) → position (λ x. is_eq (at x)) xs ≡ Some i
    → (d : X) → (found at xs ≡ Some (get_or xs i d)) × (removed at xs ≡ remove xs i)
removed-some {X} at xs i e d =
    let m : ℕ = before_key at xs in
    let P : Bool → Type 0 = λ b. ltb m (length xs) ≡ b → cond b (Some m) None ≡ Some i
    → (found at xs ≡ Some (get_or xs i d)) × (removed at xs ≡ remove xs i) in
    (elim (ltb m (length xs)) as P [
      | true ↦ λ t h.
          let here = at_index at d xs (ltb-true m (length xs) t) in
          let same : m ≡ i = cc in
          (here.0 ∙ ap (λ n. Some (get_or xs n d)) same, here.1 ∙ ap (remove xs) same)
      | false ↦ λ t h. absurd (cc)
    ]) refl e

pub removed-none : {X : Type 0} (at : X → Ordering) (xs : List X) → position (λ x. is_eq (at x)) xs ≡ None
    → (found at xs ≡ None) × (removed at xs ≡ xs)
removed-none {X} at xs e =
    let m : ℕ = before_key at xs in
    let P : Bool → Type 0 = λ b. ltb m (length xs) ≡ b → cond {A = Option ℕ} b (Some m) None ≡ None
    → (found at xs ≡ None) × (removed at xs ≡ xs) in
    (elim (ltb m (length xs)) as P [
      | true ↦ λ t h. absurd (cc)
      | false ↦ λ t h. at_no_index at xs (ltb-false m (length xs) t)
    ]) refl e

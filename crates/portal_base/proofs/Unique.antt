-- Two ascending lists with the same items are the same list.
use Rattle.std.proofs.Common.{◌≡◌, ℕ, zero, suc, get_or, ◌<◌, length, Bool, true, false, cond, List, [], ◌∷◌, refl}
use Rattle.std.proofs.Common.{sym, ap, arith, inl, inr, ◌⊎◌, subst}
use Rattle.std.specs.declared.cmp.Ordering.{Ordering}
use Rattle.std.specs.declared.cmp.Ordering.TheVariants.{Less, Equal, Greater}
use Rattle.std.specs.Ordering.{is_lt, ordering_reverse}
use Rattle.std.specs.Cmp.{IsTotalOrder}
use Rattle.std.specs.List.{Contains}
use Rattle.std.proofs.lemmas.Cmp.{tied_itself}
use Rattle.portal_base.specs.Ordered.{IsBelowAll, IsAscending, inserted, ascending}

-- z is one of the items
abbrev pub IsIn : {X : Type 0} → X → List X → Type 0
IsIn z [] = ⊥
IsIn z (x ∷ xs) = (z ≡ x) ⊎ IsIn z xs

-- A member of a list is above everything that is below the list.
pub below_in : {X : Type 0} (cmp : X → X → Ordering) (a z : X) (xs : List X) → IsBelowAll cmp a xs → IsIn z xs
    → cmp a z ≡ Less
below_in cmp a z [] below m = absurd m
below_in cmp a z (x ∷ xs) below (inl e) = rw e below.0
below_in cmp a z (x ∷ xs) below (inr m) = below_in cmp a z xs below.1 m

-- The item at an index is a member.
pub IsIn-get_or : {X : Type 0} (z : X) (xs : List X) (k : ℕ) → k < length xs → get_or xs k z ≡ z → IsIn z xs
IsIn-get_or z [] k lt e = absurd (omega arith)
IsIn-get_or z (x ∷ xs) zero lt e = inl (sym e)
IsIn-get_or z (x ∷ xs) (suc k) lt e = inr (IsIn-get_or z xs k (omega arith) e)

pub IsIn-Contains : {X : Type 0} (z : X) (xs : List X) → Contains xs z → IsIn z xs
IsIn-Contains z xs c = IsIn-get_or z xs c.0 c.1 c.2

pub Contains-IsIn : {X : Type 0} (z : X) (xs : List X) → IsIn z xs → Contains xs z
Contains-IsIn z [] m = absurd m
Contains-IsIn z (x ∷ xs) (inl e) = (0, omega arith, sym e)
Contains-IsIn z (x ∷ xs) (inr m) = let c = Contains-IsIn z xs m in (suc c.0, omega arith, c.2)

-- No item is below itself.
pub not_below_itself : {X : Type 0} (cmp : X → X → Ordering) (o : IsTotalOrder cmp) (x : X) → cmp x x ≡ Less → ⊥
not_below_itself cmp o x h = let e : cmp x x ≡ Equal = tied_itself o x in cc

-- Two ascending lists with the same items have the same first item.
same_heads : {X : Type 0} (cmp : X → X → Ordering) (o : IsTotalOrder cmp) (x y : X) (xs ys : List X)
    → IsBelowAll cmp x xs → IsBelowAll cmp y ys → IsIn x (y ∷ ys) → IsIn y (x ∷ xs) → x ≡ y
same_heads cmp o x y xs ys bx by (inl e) n = e
same_heads cmp o x y xs ys bx by (inr m) (inl e) = sym e
same_heads cmp o x y xs ys bx by (inr m) (inr n) =
    let up : cmp y x ≡ Less = below_in cmp y x ys by m in
    let down : cmp x y ≡ Less = below_in cmp x y xs bx n in
    let back : cmp x y ≡ ordering_reverse (cmp y x) = o.antisymm x y in
    let turned : ordering_reverse (cmp y x) ≡ Greater = ap ordering_reverse up in
    cc

-- A member of one tail is a member of the other.
in_tail : {X : Type 0} (cmp : X → X → Ordering) (o : IsTotalOrder cmp) (x z : X) (xs ys : List X)
    → IsBelowAll cmp x xs → IsIn z xs → IsIn z (x ∷ ys) → IsIn z ys
in_tail cmp o x z xs ys below m (inl e) =
    absurd (not_below_itself cmp o x (subst (λ w. cmp x w ≡ Less) e (below_in cmp x z xs below m)))
in_tail cmp o x z xs ys below m (inr n) = n

pub unique : {X : Type 0} (cmp : X → X → Ordering) (o : IsTotalOrder cmp) (xs ys : List X) → IsAscending cmp xs
    → IsAscending cmp ys → ((z : X) → IsIn z xs → IsIn z ys) → ((z : X) → IsIn z ys → IsIn z xs) → xs ≡ ys
unique cmp o [] [] ux uy to from = refl
unique cmp o [] (y ∷ ys) ux uy to from = absurd (from y (inl refl))
unique cmp o (x ∷ xs) [] ux uy to from = absurd (to x (inl refl))
unique {X} cmp o (x ∷ xs) (y ∷ ys) ux uy to from =
    let e : x ≡ y = same_heads cmp o x y xs ys ux.0 uy.0 (to x (inl refl)) (from y (inl refl)) in
    let tails : xs ≡ ys = unique cmp o xs ys ux.1 uy.1
    (λ z m. in_tail cmp o x z xs ys ux.0 m (subst (λ w. IsIn z (w ∷ ys)) (sym e) (to z (inr m))))
    (λ z m. in_tail cmp o y z ys xs uy.0 m (subst (λ w. IsIn z (w ∷ xs)) e (from z (inr m)))) in
    cc

-- The list after an insertion has x and the old items.
pub IsIn-inserted : {X : Type 0} (cmp : X → X → Ordering) (z x : X) (xs : List X) → IsIn z (x ∷ xs)
    → IsIn z (inserted cmp x xs)
IsIn-inserted cmp z x [] m = m
IsIn-inserted {X} cmp z x (y ∷ ys) m =
    let P : Bool → Type 0 = λ b. IsIn z (cond b (y ∷ inserted cmp x ys) (x ∷ y ∷ ys)) in
    elim (is_lt (cmp y x)) as P [ true ↦ into (IsIn-inserted cmp z x ys) m | false ↦ m ]
  where
    into : (IsIn z (x ∷ ys) → IsIn z (inserted cmp x ys)) → IsIn z (x ∷ y ∷ ys) → IsIn z (y ∷ inserted cmp x ys)
    into go (inl e) = inr (go (inl e))
    into go (inr (inl e)) = inl e
    into go (inr (inr n)) = inr (go (inr n))

-- It has nothing else.
pub inserted-IsIn : {X : Type 0} (cmp : X → X → Ordering) (z x : X) (xs : List X) → IsIn z (inserted cmp x xs)
    → IsIn z (x ∷ xs)
inserted-IsIn cmp z x [] m = m
inserted-IsIn {X} cmp z x (y ∷ ys) m =
    let P : Bool → Type 0 = λ b. IsIn z (cond b (y ∷ inserted cmp x ys) (x ∷ y ∷ ys)) → IsIn z (x ∷ y ∷ ys) in
    (elim (is_lt (cmp y x)) as P [ true ↦ λ n. out_of (inserted-IsIn cmp z x ys) n | false ↦ λ n. n ]) m
  where
    further : IsIn z (x ∷ ys) → IsIn z (x ∷ y ∷ ys)
    further (inl e) = inl e
    further (inr n) = inr (inr n)

    out_of : (IsIn z (inserted cmp x ys) → IsIn z (x ∷ ys)) → IsIn z (y ∷ inserted cmp x ys) → IsIn z (x ∷ y ∷ ys)
    out_of go (inl e) = inr (inl e)
    out_of go (inr n) = further (go n)

-- The sorted list has the items.
pub IsIn-ascending : {X : Type 0} (cmp : X → X → Ordering) (z : X) (xs : List X) → IsIn z xs
    → IsIn z (ascending cmp xs)
IsIn-ascending cmp z [] m = m
IsIn-ascending cmp z (x ∷ xs) (inl e) = IsIn-inserted cmp z x (ascending cmp xs) (inl e)
IsIn-ascending cmp z (x ∷ xs) (inr m) = IsIn-inserted cmp z x (ascending cmp xs) (inr (IsIn-ascending cmp z xs m))

-- It has nothing else.
pub ascending-IsIn : {X : Type 0} (cmp : X → X → Ordering) (z : X) (xs : List X) → IsIn z (ascending cmp xs)
    → IsIn z xs
ascending-IsIn cmp z [] m = m
ascending-IsIn {X} cmp z (x ∷ xs) m = back (ascending-IsIn cmp z xs) (inserted-IsIn cmp z x (ascending cmp xs) m)
  where
    back : (IsIn z (ascending cmp xs) → IsIn z xs) → IsIn z (x ∷ ascending cmp xs) → IsIn z (x ∷ xs)
    back go (inl e) = inl e
    back go (inr n) = inr (go n)

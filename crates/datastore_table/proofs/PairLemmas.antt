-- Any two places of a list: its first item with each later one, and the places of the others.
use Rattle.std.proofs.Common.{◌≡◌, ℕ, zero, suc, ◌<◌, Bool, true, false, List, [], ◌∷◌, arith, get_or, inl, inr, length}
use Rattle.std.proofs.Common.{cond, filter, not, refl, subst}
use Rattle.std.specs.declared.cmp.Ordering.{Ordering}
use Rattle.std.specs.declared.cmp.Ordering.TheVariants.{Less}
use Rattle.std.specs.List.{list_any}
use Rattle.std.specs.Prelude.{AllPairs}
use Rattle.portal_base.specs.Ordered.{IsAscending, IsBelowAll}
use Rattle.portal_base.proofs.Filtered.{IsIn-filter}
use Rattle.portal_base.proofs.Unique.{Contains-IsIn, IsIn, below_in}
use Rattle.datastore_table.specs.declared.row.Row.{Row}
use Rattle.datastore_table.specs.Meets.{are_apart}
use Rattle.datastore_table.proofs.KeyLemmas.{any-in, in-any, not_true}
use Rattle.datastore_table.proofs.RowLemmas.{both_hold}

in_at : {X : Type 0} (xs : List X) (k : ℕ) (d : X) → k < length xs → IsIn (get_or xs k d) xs
in_at [] k d lt = absurd (omega arith)
in_at (x ∷ xs) zero d lt = inl refl
in_at (x ∷ xs) (suc k) d lt = inr (in_at xs k d (omega arith))

pub AllPairs-nil : {X : Type 0} (R : X → X → Type 0) → AllPairs R []
AllPairs-nil R i j d lt long = absurd (omega arith)

pub AllPairs-cons : {X : Type 0} (R : X → X → Type 0) (x : X) (xs : List X) → ((y : X) → IsIn y xs → R x y)
    → AllPairs R xs → AllPairs R (x ∷ xs)
AllPairs-cons R x xs first rest i zero d lt long = absurd (omega arith)
AllPairs-cons R x xs first rest zero (suc j) d lt long = first (get_or xs j d) (in_at xs j d (omega arith))
AllPairs-cons R x xs first rest (suc i) (suc j) d lt long = rest i j d (omega arith) (omega arith)

pub AllPairs-head : {X : Type 0} (R : X → X → Type 0) (x : X) (xs : List X) → AllPairs R (x ∷ xs) → (y : X)
    → IsIn y xs → R x y
AllPairs-head R x xs all y m =
    let at = Contains-IsIn y xs m in
    subst (λ z. R x z) at.2 (all 0 (suc at.0) y (omega arith) (omega (arith, at.1)))

pub AllPairs-tail : {X : Type 0} (R : X → X → Type 0) (x : X) (xs : List X) → AllPairs R (x ∷ xs) → AllPairs R xs
AllPairs-tail R x xs all i j d lt long = all (suc i) (suc j) d (omega arith) (omega arith)

pub AllPairs-weaker : {X : Type 0} (R S : X → X → Type 0) → ((a b : X) → R a b → S a b) → (xs : List X)
    → AllPairs R xs → AllPairs S xs
AllPairs-weaker R S weaker xs all i j d lt long = weaker (get_or xs i d) (get_or xs j d) (all i j d lt long)

-- The same where the places' items are known to be in the list.
pub AllPairs-within : {X : Type 0} (R S : X → X → Type 0) (xs : List X)
    → ((a b : X) → IsIn a xs → IsIn b xs → R a b → S a b) → AllPairs R xs → AllPairs S xs
AllPairs-within R S xs weaker all i j d lt long =
    weaker (get_or xs i d) (get_or xs j d) (in_at xs i d (omega arith)) (in_at xs j d long) (all i j d lt long)

pub AllPairs-filter : {X : Type 0} (R : X → X → Type 0) (p : X → Bool) (xs : List X) → AllPairs R xs
    → AllPairs R (filter p xs)
AllPairs-filter R p [] all = AllPairs-nil R
AllPairs-filter {X} R p (x ∷ xs) all = by (p x) (AllPairs-filter R p xs (AllPairs-tail R x xs all))
  where
    by : (b : Bool) → AllPairs R (filter p xs) → AllPairs R (cond b (x ∷ filter p xs) (filter p xs))
    by true rest =
        AllPairs-cons R x (filter p xs) (λ y m. AllPairs-head R x xs all y (IsIn-filter p y xs m).0) rest
    by false rest = rest

-- ---- ascending lists

pub IsBelowAll-each : {X : Type 0} (cmp : X → X → Ordering) (x : X) (ys : List X) → ((y : X) → IsIn y ys → cmp x y ≡ Less)
    → IsBelowAll cmp x ys
IsBelowAll-each cmp x [] all = tt
IsBelowAll-each cmp x (y ∷ ys) all = (all y (inl refl), IsBelowAll-each cmp x ys (λ z m. all z (inr m)))

pub ascending_pairs : {X : Type 0} (cmp : X → X → Ordering) (xs : List X) → IsAscending cmp xs
    → AllPairs (λ (a b : X). cmp a b ≡ Less) xs
ascending_pairs {X} cmp [] up = AllPairs-nil (λ (a b : X). cmp a b ≡ Less)
ascending_pairs {X} cmp (x ∷ xs) up =
    AllPairs-cons (λ (a b : X). cmp a b ≡ Less) x xs (λ y m. below_in cmp x y xs up.0 m) (ascending_pairs cmp xs up.1)

pub pairs_ascending : {X : Type 0} (cmp : X → X → Ordering) (xs : List X)
    → AllPairs (λ (a b : X). cmp a b ≡ Less) xs → IsAscending cmp xs
pairs_ascending cmp [] all = tt
pairs_ascending {X} cmp (x ∷ xs) all = (
  IsBelowAll-each cmp x xs (AllPairs-head (λ (a b : X). cmp a b ≡ Less) x xs all),
  pairs_ascending cmp xs (AllPairs-tail (λ (a b : X). cmp a b ≡ Less) x xs all),
)

-- ---- rows of which no one is like a later one

abbrev Unlike : (Row → Row → Bool) → Row → Row → Type 0
Unlike like a b = like a b ≡ false

pub pairs_apart : (like : Row → Row → Bool) (rows : List Row) → are_apart like rows ≡ true
    → AllPairs (λ a b. like a b ≡ false) rows
pairs_apart like [] h = AllPairs-nil (Unlike like)
pairs_apart like (row ∷ rows) h =
    let parts = both_hold (not (list_any (like row) rows)) (are_apart like rows) h in
    AllPairs-cons (Unlike like) row rows (any-in (like row) rows (not_true (list_any (like row) rows) parts.0))
    (pairs_apart like rows parts.1)

pub apart_pairs : (like : Row → Row → Bool) (rows : List Row) → AllPairs (λ a b. like a b ≡ false) rows
    → are_apart like rows ≡ true
apart_pairs like [] all = refl
apart_pairs like (row ∷ rows) all =
    let none : list_any (like row) rows ≡ false =
    in-any (like row) rows (AllPairs-head (Unlike like) row rows all) in
    let rest : are_apart like rows ≡ true = apart_pairs like rows (AllPairs-tail (Unlike like) row rows all) in
    rw (none, rest) refl

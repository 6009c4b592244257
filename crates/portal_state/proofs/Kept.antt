-- What tests keep of lists that change.
use Rattle.std.proofs.Common.{◌≡◌, ℕ, zero, suc, Bool, true, false, cond, List, [], ◌∷◌, map, Some, slice_get}
use Rattle.std.proofs.Common.{refl, sym, ap, ◌∙◌, inl, inr, subst}
use Rattle.std.specs.List.{All}
use Rattle.std.specs.Ordering.{is_eq}
use Rattle.std.specs.declared.cmp.Ordering.TheVariants.{Less}
use Rattle.std.specs.Prelude.{filter}
use Rattle.std.specs.Cmp.{IsTotalOrder}
use Rattle.std.specs.declared.cmp.Ordering.{Ordering}
use Rattle.std.proofs.lemmas.Cmp.{tied_back}
use Rattle.portal_base.specs.Ordered.{IsAscending, upserted, dropped}
use Rattle.portal_base.proofs.Filtered.{IsAscending-filter}
use Rattle.portal_base.proofs.Upserted.{All-IsIn, All-each, filter-upserted, filter-dropped}
use Rattle.portal_base.proofs.Removed.{is_eq_true}
use Rattle.portal_base.proofs.Unique.{IsIn, below_in}

-- what a test keeps that keeps no more than another is kept of what that one keeps
pub filter-narrower : {X : Type 0} (p q : X → Bool) (xs : List X) → ((x : X) → IsIn x xs → p x ≡ true → q x ≡ true)
    → filter p (filter q xs) ≡ filter p xs
filter-narrower p q [] narrower = refl
filter-narrower {X} p q (x ∷ xs) narrower =
    by (p x) refl (q x) refl (filter-narrower p q xs (λ z m. narrower z (inr m)))
  where
    by : (a : Bool) → p x ≡ a → (b : Bool) → q x ≡ b → filter p (filter q xs) ≡ filter p xs
        → filter p (cond b (x ∷ filter q xs) (filter q xs)) ≡ cond a (x ∷ filter p xs) (filter p xs)
    by a is true keeps rest =
        ap (λ c. cond c (x ∷ filter p (filter q xs)) (filter p (filter q xs))) is ∙ ap (λ l. cond a (x ∷ l) l) rest
    by true is false keeps rest = let seen : q x ≡ true = narrower x (inl refl) is in absurd (cc)
    by false is false keeps rest = rest

-- what is kept of a list in which an item was inserted depends on what is kept of the list
pub placed-kept : {X : Type 0} (cmp : X → X → Ordering) (o : IsTotalOrder cmp) (p q : X → Bool) (x : X) (xs : List X)
    → IsAscending cmp xs → filter p (filter q xs) ≡ filter p xs
    → filter p (upserted cmp x (filter q xs)) ≡ filter p (upserted cmp x xs)
placed-kept cmp o p q x xs up same =
    filter-upserted cmp o p x (filter q xs) (IsAscending-filter cmp q xs up)
    ∙ ap (λ l. cond (p x) (upserted cmp x l) (dropped (λ y. cmp y x) l)) same
    ∙ sym (filter-upserted cmp o p x xs up)

pub dropped-kept : {X : Type 0} (p q : X → Bool) (at : X → Ordering) (xs : List X) → filter p (filter q xs)
    ≡ filter p xs
    → filter p (dropped at (filter q xs)) ≡ filter p (dropped at xs)
dropped-kept p q at xs same =
    filter-dropped p at (filter q xs) ∙ ap (dropped at) same ∙ sym (filter-dropped p at xs)

-- ---- items

-- Likeness goes both ways.
alike_turned : {X : Type 0} (cmp : X → X → Ordering) (o : IsTotalOrder cmp) (x y : X) → is_eq (cmp x y) ≡ true
    → is_eq (cmp y x) ≡ true
alike_turned cmp o x y like = ap is_eq (tied_back o x y (is_eq_true (cmp x y) like))

-- Two items of a list in order that are alike are one.
pub unique-at : {X : Type 0} (cmp : X → X → Ordering) (o : IsTotalOrder cmp) (xs : List X) → IsAscending cmp xs
    → (x y : X) → IsIn x xs → IsIn y xs → is_eq (cmp x y) ≡ true → x ≡ y
unique-at cmp o [] up x y in_x in_y like = absurd in_x
unique-at cmp o (z ∷ zs) up x y (inl is_x) (inl is_y) like = is_x ∙ sym is_y
unique-at cmp o (z ∷ zs) up x y (inl is_x) (inr in_y) like =
    let less : cmp x y ≡ Less = ap (λ w. cmp w y) is_x ∙ below_in cmp z y zs up.0 in_y in
    let other : is_eq (cmp x y) ≡ false = ap is_eq less in
    absurd (cc)
unique-at cmp o (z ∷ zs) up x y (inr in_x) (inl is_y) like =
    let less : cmp y x ≡ Less = ap (λ w. cmp w x) is_y ∙ below_in cmp z x zs up.0 in_x in
    let other : is_eq (cmp y x) ≡ false = ap is_eq less in
    let turned : is_eq (cmp y x) ≡ true = alike_turned cmp o x y like in
    absurd (cc)
unique-at cmp o (z ∷ zs) up x y (inr in_x) (inr in_y) like = unique-at cmp o zs up.1 x y in_x in_y like

-- what is at an index is in the list
pub IsIn-slice_get : {X : Type 0} (xs : List X) (place : ℕ) (x : X) → slice_get xs place ≡ Some x → IsIn x xs
IsIn-slice_get [] place x there = absurd (cc)
IsIn-slice_get (y ∷ ys) zero x there = inl (let same : y ≡ x = cc in sym same)
IsIn-slice_get (y ∷ ys) (suc place) x there = inr (IsIn-slice_get ys place x there)

-- What holds of each item holds of what is made of it, where the making keeps it.
pub All-mapped : {X : Type 0} (P : X → Type 0) (f : X → X) (xs : List X) → ((x : X) → P x → P (f x)) → All P xs
    → All P (map f xs)
All-mapped P f xs keeps all =
    All-each P (map f xs)
    (λ y m. let x = IsIn-map f y xs m in subst P (sym x.2) (keeps x.0 (All-IsIn P xs all x.0 x.1)))
  where
    IsIn-map : {X : Type 0} (f : X → X) (y : X) (xs : List X) → IsIn y (map f xs) → (x : X) × IsIn x xs × (y ≡ f x)
    IsIn-map f y [] m = absurd m
    IsIn-map f y (x ∷ xs) (inl is) = (x, inl refl, is)
    IsIn-map f y (x ∷ xs) (inr m) = let z = IsIn-map f y xs m in (z.0, inr z.1, z.2)

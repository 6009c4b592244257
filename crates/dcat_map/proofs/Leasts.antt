-- The least of a list, when an item comes to its end.
use Rattle.std.proofs.Common.{◌≡◌, ℕ, ◌+◌, ◌<◌, length, get_or, take, List, [], ◌∷◌, ◌++◌, Option, Some, None, refl}
use Rattle.std.proofs.Common.{sym, ap, ◌∙◌, inl, inr}
use Rattle.std.specs.declared.cmp.Ordering.{Ordering}
use Rattle.std.specs.declared.cmp.Ordering.TheVariants.{Less, Equal, Greater}
use Rattle.std.specs.Ordering.{match_ordering}
use Rattle.std.specs.Cmp.{IsTotalOrder}
use Rattle.std.specs.List.{filter_map, cons_option}
use Rattle.std.proofs.lemmas.List.{append-nil}
use Rattle.std.proofs.lemmas.List.Elements.{filter_map-append}
use Rattle.dcat_map.proofs.Steps.{joined_more}
use Rattle.dcat_map.specs.Sets.{set_insert, ascending_set, least, lesser_of}
use Rattle.dcat_map.proofs.SetLemmas.{TellsApart, IsIn, IsIn-set_insert, set_insert-IsIn, IsStrictlySortedBy-set_insert}
use Rattle.dcat_map.proofs.SetLemmas.{IsStrictlySortedBy-ascending_set, IsIn-ascending_set, ascending_set-IsIn}
use Rattle.dcat_map.proofs.SetLemmas.{ascending_set-from_sorted}

IsIn-push : {X : Type 0} (z x : X) (xs : List X) → IsIn z (xs ++ x ∷ []) → IsIn z (x ∷ xs)
IsIn-push z x [] m = m
IsIn-push {X} z x (y ∷ ys) m = by_case (IsIn-push z x ys) m
  where
    further : IsIn z (x ∷ ys) → IsIn z (x ∷ y ∷ ys)
    further (inl e) = inl e
    further (inr n) = inr (inr n)

    by_case : (IsIn z (ys ++ x ∷ []) → IsIn z (x ∷ ys)) → IsIn z (y ∷ (ys ++ x ∷ [])) → IsIn z (x ∷ y ∷ ys)
    by_case go (inl e) = inr (inl e)
    by_case go (inr n) = further (go n)

push-IsIn : {X : Type 0} (z x : X) (xs : List X) → IsIn z (x ∷ xs) → IsIn z (xs ++ x ∷ [])
push-IsIn z x [] m = m
push-IsIn {X} z x (y ∷ ys) m = by_case (push-IsIn z x ys) m
  where
    by_case : (IsIn z (x ∷ ys) → IsIn z (ys ++ x ∷ [])) → IsIn z (x ∷ y ∷ ys) → IsIn z (y ∷ (ys ++ x ∷ []))
    by_case go (inl e) = inr (go (inl e))
    by_case go (inr (inl e)) = inl e
    by_case go (inr (inr n)) = inr (go (inr n))

-- The set with an item at the end of the list.
ascending_set-push : {X : Type 0} (cmp : X → X → Ordering) (o : IsTotalOrder cmp) → TellsApart cmp
    → (xs : List X) (x : X) → ascending_set cmp (xs ++ x ∷ []) ≡ set_insert cmp x (ascending_set cmp xs)
ascending_set-push {X} cmp o apart xs x =
    sym (ascending_set-from_sorted cmp o apart (xs ++ x ∷ []) (set_insert cmp x (ascending_set cmp xs))
    (IsStrictlySortedBy-set_insert cmp o x (ascending_set cmp xs) (IsStrictlySortedBy-ascending_set cmp o xs))
    (λ z m. IsIn-set_insert cmp apart z x (ascending_set cmp xs) (into z (IsIn-push z x xs m)))
    (λ z m. push-IsIn z x xs (out z (set_insert-IsIn cmp z x (ascending_set cmp xs) m))))
  where
    into : (z : X) → IsIn z (x ∷ xs) → IsIn z (x ∷ ascending_set cmp xs)
    into z (inl e) = inl e
    into z (inr m) = inr (IsIn-ascending_set cmp apart z xs m)

    out : (z : X) → IsIn z (x ∷ ascending_set cmp xs) → IsIn z (x ∷ xs)
    out z (inl e) = inl e
    out z (inr m) = inr (ascending_set-IsIn cmp z xs m)

-- the first of the items, if there is one
abbrev pub first : {X : Type 0} → List X → Option X
first [] = None
first (x ∷ xs) = Some x

first-set_insert : {X : Type 0} (cmp : X → X → Ordering) → TellsApart cmp → (x : X) (xs : List X)
    → first (set_insert cmp x xs) ≡ lesser_of cmp (first xs) (Some x)
first-set_insert cmp apart x [] = refl
first-set_insert {X} cmp apart x (y ∷ ys) =
    let P : Ordering
    → Type 0 = λ r. first (match_ordering r (x ∷ y ∷ ys) (y ∷ ys) (y ∷ set_insert cmp x ys))
    ≡ Some (match_ordering r x y y) in
    elim (cmp x y) as P [ Less ↦ refl | Equal ↦ refl | Greater ↦ refl ]

-- The item that comes before all others is the first of them in ascending order.
pub least_first : {X : Type 0} (cmp : X → X → Ordering) → TellsApart cmp → (xs : List X)
    → least cmp xs ≡ first (ascending_set cmp xs)
unfolding least ascending_set
least_first cmp apart [] = refl
least_first cmp apart (x ∷ xs) =
    ap (λ best. lesser_of cmp best (Some x)) (least_first cmp apart xs)
    ∙ sym (first-set_insert cmp apart x (ascending_set cmp xs))

-- One item more.
pub least-push : {X : Type 0} (cmp : X → X → Ordering) (o : IsTotalOrder cmp) → TellsApart cmp → (xs : List X) (x : X)
    → least cmp (xs ++ x ∷ []) ≡ lesser_of cmp (least cmp xs) (Some x)
least-push cmp o apart xs x =
    least_first cmp apart (xs ++ x ∷ []) ∙ ap first (ascending_set-push cmp o apart xs x)
    ∙ first-set_insert cmp apart x (ascending_set cmp xs)
    ∙ ap (λ best. lesser_of cmp best (Some x)) (sym (least_first cmp apart xs))

lesser_of-None : {X : Type 0} (cmp : X → X → Ordering) (best : Option X) → lesser_of cmp best None ≡ best
lesser_of-None cmp None = refl
lesser_of-None cmp (Some x) = refl

-- A loop's step: the least of what the items give.
pub least_more : {X Y : Type 0} (cmp : Y → Y → Ordering) (o : IsTotalOrder cmp) → TellsApart cmp
    → (h : X → Option Y) (xs : List X) (i : ℕ) (x y : X) → i < length xs → y ≡ get_or xs i y → x ≡ y
    → least cmp (filter_map h (take (i + 1) xs)) ≡ lesser_of cmp (least cmp (filter_map h (take i xs))) (h x)
least_more {X} {Y} cmp o apart h xs i x y lt e same =
    ap (least cmp) (joined_more (filter_map h) (filter_map-append h) xs i y lt e) ∙ ends (h y)
    ∙ ap (λ (z : X). lesser_of cmp (least cmp (filter_map h (take i xs))) (h z)) (sym same)
  where
    ends : (r : Option Y)
        → least cmp (filter_map h (take i xs) ++ cons_option r [])
        ≡ lesser_of cmp (least cmp (filter_map h (take i xs))) r
    ends None = ap (least cmp) (append-nil (filter_map h (take i xs)))
        ∙ sym (lesser_of-None cmp (least cmp (filter_map h (take i xs))))
    ends (Some z) = least-push cmp o apart (filter_map h (take i xs)) z

-- The same, of a variable that keeps the least so far.
pub kept_more : {X Y : Type 0} (cmp : Y → Y → Ordering) (o : IsTotalOrder cmp) → TellsApart cmp
    → (h : X → Option Y) (xs : List X) (i : ℕ) (x y : X) (old new other : Option Y) → i < length xs
    → y ≡ get_or xs i y → x ≡ y → other ≡ h x → old ≡ least cmp (filter_map h (take i xs))
    → new ≡ lesser_of cmp old other → new ≡ least cmp (filter_map h (take (i + 1) xs))
kept_more cmp o apart h xs i x y old new other lt e same given was now =
    now ∙ ap (λ b. lesser_of cmp b other) was ∙ ap (lesser_of cmp (least cmp (filter_map h (take i xs)))) given
    ∙ sym (least_more cmp o apart h xs i x y lt e same)

pub least-nil : {Y : Type 0} (cmp : Y → Y → Ordering) → least cmp [] ≡ None
unfolding least
least-nil cmp = refl

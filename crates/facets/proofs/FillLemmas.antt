-- Counters that are filled from a shelf, number by number.
use Rattle.std.proofs.Common.{◌≡◌, ◌∙◌, ◌<◌, ℕ, zero, suc, ◌+◌, Bool, true, false, ◌||◌, List, [], ◌∷◌, ◌++◌, Some}
use Rattle.std.proofs.Common.{refl, sym, subst, ap, length, arith, take, get_or, inl, inr, ◌⊎◌}
use Rattle.std.specs.Prelude.{map}
use Rattle.std.specs.List.{list_any}
use Rattle.std.specs.declared.cmp.Ordering.{Ordering}
use Rattle.std.specs.declared.cmp.Ordering.TheVariants.{Less, Equal, Greater}
use Rattle.std.specs.Cmp.{IsTotalOrder}
use Rattle.std.specs.Ordering.{is_eq, nat_cmp, ordering_reverse}
use Rattle.std.proofs.lemmas.List.{length-map}
use Rattle.portal_base.specs.Ordered.{IsAscending, ascending, upserted}
use Rattle.portal_base.proofs.Inserted.{AreApart, IsAscending-ascending, both_false}
use Rattle.portal_base.proofs.Unique.{IsIn, IsIn-ascending, ascending-IsIn, below_in, unique}
use Rattle.portal_base.proofs.Upserted.{IsAscending-upserted, IsIn-upserted, upserted-IsIn, upserted-IsIn_other}
use Rattle.packages.specs.Named.{is_named}
use Rattle.packages.specs.Order.{dataset_cmp, dataset_cmp_total}
use Rattle.packages.specs.Shelf.{IsValidShelf, ShelfState, number_cmp, package_at}
use Rattle.packages.specs.declared.package.Package.{Package}
use Rattle.packages.proofs.DatasetLemmas.{unlike}
use Rattle.packages.proofs.EntryLemmas.{nat_cmp-same, package_at-IsIn}
use Rattle.packages.proofs.FindLemmas.{map-IsIn, none-list_any}
use Rattle.packages.proofs.ShelfInvariantLemmas.{id_named}
use Rattle.facets.specs.Counters.{Entry, entry_cmp, entry_of}
use Rattle.facets.proofs.EntryLemmas.{map-upserted}

-- ---- one more item at the end

not_any : {X : Type 0} (test : X → Bool) (x : X) (xs : List X) → list_any test xs ≡ false → IsIn x xs
    → test x ≡ false
not_any test x [] none m = absurd m
not_any test x (y ∷ ys) none (inl e) = ap test e ∙ (both_false (test y) (list_any test ys) none).0
not_any test x (y ∷ ys) none (inr m) = not_any test x ys (both_false (test y) (list_any test ys) none).1 m

in_front : {X : Type 0} (z x : X) (xs : List X) → IsIn z xs → IsIn z (xs ++ x ∷ [])
in_front z x [] m = absurd m
in_front z x (y ∷ ys) (inl e) = inl e
in_front z x (y ∷ ys) (inr m) = inr (in_front z x ys m)

at_end : {X : Type 0} (x : X) (xs : List X) → IsIn x (xs ++ x ∷ [])
at_end x [] = inl refl
at_end x (y ∷ ys) = inr (at_end x ys)

in_either : {X : Type 0} (z x : X) (xs : List X) → IsIn z (xs ++ x ∷ []) → IsIn z xs ⊎ (z ≡ x)
in_either z x [] (inl e) = inr e
in_either z x [] (inr m) = absurd m
in_either z x (y ∷ ys) (inl e) = inl (inl e)
in_either {X} z x (y ∷ ys) (inr m) = by (in_either z x ys m)
  where
    by : IsIn z ys ⊎ (z ≡ x) → IsIn z (y ∷ ys) ⊎ (z ≡ x)
    by (inl n) = inl (inr n)
    by (inr e) = inr e

none_before : {X : Type 0} (test : X → Bool) (x : X) (xs : List X) → list_any test (xs ++ x ∷ []) ≡ false
    → list_any test xs ≡ false
none_before test x [] none = refl
none_before {X} test x (y ∷ ys) none =
    let parts : (test y ≡ false) × (list_any test (ys ++ x ∷ []) ≡ false) =
    both_false (test y) (list_any test (ys ++ x ∷ [])) none in
    ap (λ b. b || list_any test ys) parts.0 ∙ none_before test x ys parts.1

apart_before : {X : Type 0} (cmp : X → X → Ordering) (x : X) (xs : List X) → AreApart cmp (xs ++ x ∷ [])
    → AreApart cmp xs
apart_before cmp x [] apart = tt
apart_before cmp x (y ∷ ys) apart =
    (none_before (λ z. is_eq (cmp z y)) x ys apart.0, apart_before cmp x ys apart.1)

turned : {X : Type 0} (cmp : X → X → Ordering) → IsTotalOrder cmp → (x y : X) → is_eq (cmp x y) ≡ false
    → is_eq (cmp y x) ≡ false
turned cmp o x y apart = ap is_eq (o.antisymm y x) ∙ reversed (cmp x y) ∙ apart
  where
    reversed : (r : Ordering) → is_eq (ordering_reverse r) ≡ is_eq r
    reversed Less = refl
    reversed Equal = refl
    reversed Greater = refl

-- No item before the last one is equal to it.
last_apart : {X : Type 0} (cmp : X → X → Ordering) → IsTotalOrder cmp → (x z : X) (xs : List X)
    → AreApart cmp (xs ++ x ∷ []) → IsIn z xs → is_eq (cmp z x) ≡ false
last_apart cmp o x z [] apart m = absurd m
last_apart {X} cmp o x z (y ∷ ys) apart (inl e) =
    subst (λ (w : X). is_eq (cmp w x) ≡ false) (sym e)
    (turned cmp o x y (not_any (λ w. is_eq (cmp w y)) x (ys ++ x ∷ []) apart.0 (at_end x ys)))
last_apart cmp o x z (y ∷ ys) apart (inr m) = last_apart cmp o x z ys apart.1 m

-- To upsert the last item is to sort it in.
pub ascending-last : {X : Type 0} (cmp : X → X → Ordering) → IsTotalOrder cmp → (x : X) (xs : List X)
    → AreApart cmp (xs ++ x ∷ []) → upserted cmp x (ascending cmp xs) ≡ ascending cmp (xs ++ x ∷ [])
ascending-last {X} cmp o x xs apart =
    unique cmp o (upserted cmp x (ascending cmp xs)) (ascending cmp (xs ++ x ∷ []))
    (IsAscending-upserted cmp o x (ascending cmp xs)
    (IsAscending-ascending cmp o xs (apart_before cmp x xs apart)))
    (IsAscending-ascending cmp o (xs ++ x ∷ []) apart) to from
  where
    to : (z : X) → IsIn z (upserted cmp x (ascending cmp xs)) → IsIn z (ascending cmp (xs ++ x ∷ []))
    to z m = by (IsIn-upserted cmp x z (ascending cmp xs) m)
      where
        by : (z ≡ x) ⊎ (IsIn z (ascending cmp xs) × (is_eq (cmp z x) ≡ false)) → IsIn z (ascending cmp (xs ++ x ∷ []))
        by (inl e) =
            IsIn-ascending cmp z (xs ++ x ∷ []) (subst (λ (w : X). IsIn w (xs ++ x ∷ [])) (sym e) (at_end x xs))
        by (inr n) = IsIn-ascending cmp z (xs ++ x ∷ []) (in_front z x xs (ascending-IsIn cmp z xs n.0))

    from : (z : X) → IsIn z (ascending cmp (xs ++ x ∷ [])) → IsIn z (upserted cmp x (ascending cmp xs))
    from z m = by (in_either z x xs (ascending-IsIn cmp z (xs ++ x ∷ []) m))
      where
        by : IsIn z xs ⊎ (z ≡ x) → IsIn z (upserted cmp x (ascending cmp xs))
        by (inl n) =
            upserted-IsIn_other cmp x z (ascending cmp xs) (IsIn-ascending cmp z xs n) (last_apart cmp o x z xs apart n)
        by (inr e) =
            subst (λ (w : X). IsIn w (upserted cmp x (ascending cmp xs))) (sym e)
            (upserted-IsIn cmp x (ascending cmp xs))

-- ---- the datasets of a shelf

none_taken : {X : Type 0} (test : X → Bool) (i : ℕ) (xs : List X) → list_any test xs ≡ false
    → list_any test (take i xs) ≡ false
none_taken test zero xs none = refl
none_taken test (suc i) [] none = refl
none_taken {X} test (suc i) (x ∷ xs) none =
    let parts : (test x ≡ false) × (list_any test xs ≡ false) = both_false (test x) (list_any test xs) none in
    ap (λ b. b || list_any test (take i xs)) parts.0 ∙ none_taken test i xs parts.1

apart_taken : {X : Type 0} (cmp : X → X → Ordering) (i : ℕ) (xs : List X) → AreApart cmp xs
    → AreApart cmp (take i xs)
apart_taken cmp zero xs apart = tt
apart_taken cmp (suc i) [] apart = tt
apart_taken cmp (suc i) (x ∷ xs) apart =
    (none_taken (λ y. is_eq (cmp y x)) i xs apart.0, apart_taken cmp i xs apart.1)

-- The ids of a valid shelf's datasets are distinct.
apart_datasets : (s : ShelfState) → IsValidShelf s → (es : List (ℕ × Package)) → IsAscending number_cmp es
    → ((e : ℕ × Package) → IsIn e es → IsIn e s.entries) → AreApart dataset_cmp (map (λ e. e.1) es)
apart_datasets s valid [] up shelved = tt
apart_datasets s valid (x ∷ xs) up shelved = (
  none-list_any (λ d. is_eq (dataset_cmp d x.1)) (map (λ e. e.1) xs) other,
  apart_datasets s valid xs up.1 (λ e m. shelved e (inr m)),
)
  where
    there : (e : ℕ × Package) → IsIn e (x ∷ xs) → package_at e.0 s ≡ Some e.1
    there e m = package_at-IsIn e.0 e.1 s.entries valid.numbers (shelved e m)

    later : (e : ℕ × Package) → IsIn e xs → e.1.id ≡ x.1.id → ⊥
    later e m same =
        let named : is_named x.1.id e.1 ≡ true = ap (λ key. is_named key e.1) (sym same) ∙ id_named e.1 in
        let number : e.0 ≡ x.0 =
        valid.apart x.1.id e.0 x.0 e.1 x.1 (there e (inr m)) (there x (inl refl)) named (id_named x.1) in
        let below : nat_cmp x.0 e.0 ≡ Less = below_in number_cmp x e xs up.0 m in
        let equal : nat_cmp x.0 e.0 ≡ Equal = ap (nat_cmp x.0) number ∙ nat_cmp-same x.0 in
        absurd (cc)

    other : (d : Package) → IsIn d (map (λ e. e.1) xs) → is_eq (dataset_cmp d x.1) ≡ false
    other d m =
        let found = map-IsIn (λ e. e.1) d xs m in
        unlike d x.1 (λ same. later found.0 found.1 (ap (λ f. f.id) (sym found.2) ∙ same))

-- the entry at the index: its number is the one there, and its dataset is the next one
abbrev pub IsNext : ℕ → List (ℕ × Package) → ℕ × Package → Type 0
IsNext i es e =
    (get_or (map (λ f. f.0) es) i 0 ≡ e.0) × IsIn e es
    × (take (suc i) (map (λ f. f.1) es) ≡ take i (map (λ f. f.1) es) ++ e.1 ∷ [])

next_entry : (i : ℕ) (es : List (ℕ × Package)) → i < length es → (e : ℕ × Package) × IsNext i es e
next_entry i [] within = absurd (omega (arith, within))
next_entry zero (x ∷ xs) within = (x, (refl, inl refl, refl))
next_entry (suc i) (x ∷ xs) within = by (next_entry i xs (omega (arith, within)))
  where
    by : ((e : ℕ × Package) × IsNext i xs e) → (e : ℕ × Package) × IsNext (suc i) (x ∷ xs) e
    by found = (found.0, (found.1.0, inr found.1.1, ap (λ z. x.1 ∷ z) found.1.2))

-- The facts of the dataset at the next number are entered among those of the datasets before it.
pub filled-more : (shelf : ShelfState) → IsValidShelf shelf → (numbers : List ℕ) (i : ℕ)
    → numbers ≡ map (λ e. e.0) shelf.entries → i < length numbers → (before after : List Entry)
    → before ≡ map entry_of (ascending dataset_cmp (take i (map (λ e. e.1) shelf.entries)))
    → ((d : Package) → package_at (get_or numbers i 0) shelf ≡ Some d → after ≡ upserted entry_cmp (entry_of d) before)
    → after ≡ map entry_of (ascending dataset_cmp (take (i + 1) (map (λ e. e.1) shelf.entries)))
filled-more shelf valid numbers i all within before after so_far entered =
    by (next_entry i shelf.entries (omega (arith, within, count)))
  where
    datasets : List Package
    datasets = map (λ e. e.1) shelf.entries

    more : suc i ≡ i + 1
    more = omega arith

    count : length numbers ≡ length shelf.entries
    count = ap length all ∙ length-map shelf.entries (λ e. e.0)

    by : ((e : ℕ × Package) × IsNext i shelf.entries e) → after ≡ map entry_of (ascending dataset_cmp (take (i + 1) datasets))
    by found =
        let number : get_or numbers i 0 ≡ found.0.0 = ap (λ (ns : List ℕ). get_or ns i 0) all ∙ found.1.0 in
        let there : package_at found.0.0 shelf ≡ Some found.0.1 =
        package_at-IsIn found.0.0 found.0.1 shelf.entries valid.numbers found.1.1 in
        let apart : AreApart dataset_cmp (take i datasets ++ found.0.1 ∷ []) =
        subst (AreApart dataset_cmp) found.1.2
        (apart_taken dataset_cmp (suc i) datasets
        (apart_datasets shelf valid shelf.entries valid.numbers (λ e m. m))) in
        entered found.0.1 (subst (λ (n : ℕ). package_at n shelf ≡ Some found.0.1) (sym number) there)
        ∙ ap (upserted entry_cmp (entry_of found.0.1)) so_far
        ∙ map-upserted found.0.1 (ascending dataset_cmp (take i datasets))
        ∙ ap (map entry_of) (ascending-last dataset_cmp dataset_cmp_total found.0.1 (take i datasets) apart
        ∙ sym (ap (ascending dataset_cmp) found.1.2))
        ∙ ap (λ k. map entry_of (ascending dataset_cmp (take k datasets))) more

-- Members of lists of rows: of two lists with the same members, and of lists that are made over, put together or changed by
-- one item.
use Rattle.std.proofs.Common.{◌≡◌, true, false, cond, List, [], ◌∷◌, ◌++◌, map, ◌⊎◌, inl, inr, refl, sym, ap, ◌∙◌}
use Rattle.std.proofs.Common.{Some, subst, true≢false}
use Rattle.std.specs.Cmp.{IsTotalOrder}
use Rattle.std.specs.List.{flat_map}
use Rattle.std.specs.Ordering.{is_eq}
use Rattle.std.specs.declared.cmp.Ordering.{Ordering}
use Rattle.std.proofs.lemmas.Cmp.{tied_itself}
use Rattle.portal_base.specs.Ordered.{IsAscending, IsKey, dropped, found, upserted}
use Rattle.portal_base.proofs.Removed.{is_eq_true}
use Rattle.portal_base.proofs.Unique.{IsIn, below_in}
use Rattle.portal_base.proofs.Upserted.{IsIn-dropped, IsIn-upserted, dropped-IsIn, upserted-IsIn_other}
use Rattle.packages.proofs.FindLemmas.{IsIn-map, map-IsIn}
use Rattle.datastore_query.proofs.SelectLemmas.{IsIn-back, IsIn-either, IsIn-front}

-- ---- an item of both lists or of neither

-- The item is in both lists, or in neither.
abbrev pub IsInBoth : {Y : Type 0} → Y → List Y → List Y → Type 0
IsInBoth r xs ys = (IsIn r xs → IsIn r ys) × (IsIn r ys → IsIn r xs)

pub in_both-itself : {Y : Type 0} (r : Y) (xs : List Y) → IsInBoth r xs xs
in_both-itself r xs = (λ m. m, λ m. m)

pub in_both-then : {Y : Type 0} (r : Y) (xs ys zs : List Y) → IsInBoth r xs ys → IsInBoth r ys zs → IsInBoth r xs zs
in_both-then r xs ys zs first second = (λ m. second.0 (first.0 m), λ m. first.1 (second.1 m))

into-append : {Y : Type 0} (r : Y) (xs ys us vs : List Y) → (IsIn r xs → IsIn r us) → (IsIn r ys → IsIn r vs)
    → IsIn r (xs ++ ys) → IsIn r (us ++ vs)
into-append {Y} r xs ys us vs front back m = by (IsIn-either r xs ys m)
  where
    by : IsIn r xs ⊎ IsIn r ys → IsIn r (us ++ vs)
    by (inl n) = IsIn-front r us vs (front n)
    by (inr n) = IsIn-back r us vs (back n)

pub in_both-append : {Y : Type 0} (r : Y) (xs ys us vs : List Y) → IsInBoth r xs us → IsInBoth r ys vs
    → IsInBoth r (xs ++ ys) (us ++ vs)
in_both-append r xs ys us vs front back =
    (into-append r xs ys us vs front.0 back.0, into-append r us vs xs ys front.1 back.1)

into-cons : {Y : Type 0} (r x : Y) (xs ys : List Y) → (IsIn r xs → IsIn r ys) → IsIn r (x ∷ xs) → IsIn r (x ∷ ys)
into-cons r x xs ys into (inl same) = inl same
into-cons r x xs ys into (inr m) = inr (into m)

pub in_both-cons : {Y : Type 0} (r x : Y) (xs ys : List Y) → IsInBoth r xs ys → IsInBoth r (x ∷ xs) (x ∷ ys)
in_both-cons r x xs ys same = (into-cons r x xs ys same.0, into-cons r x ys xs same.1)

-- ---- items of a list, each made into another

-- An item that is not made of those with a key is made of the same items after those are dropped.
pub in_both-dropped_in : {X Y : Type 0} (f : X → Y) (at : X → Ordering) (xs : List X) (r : Y)
    → ((z : X) → IsIn z xs → r ≡ f z → is_eq (at z) ≡ false) → IsInBoth r (map f xs) (map f (dropped at xs))
in_both-dropped_in {X} {Y} f at xs r other = (into, from)
  where
    into : IsIn r (map f xs) → IsIn r (map f (dropped at xs))
    into m =
        let w = map-IsIn f r xs m in
        subst (λ (q : Y). IsIn q (map f (dropped at xs))) (sym w.2)
        (IsIn-map f w.0 (dropped at xs) (dropped-IsIn at w.0 xs w.1 (other w.0 w.1 w.2)))

    from : IsIn r (map f (dropped at xs)) → IsIn r (map f xs)
    from m =
        let w = map-IsIn f r (dropped at xs) m in
        subst (λ (q : Y). IsIn q (map f xs)) (sym w.2) (IsIn-map f w.0 xs (IsIn-dropped at w.0 xs w.1).0)

pub in_both-dropped : {X Y : Type 0} (f : X → Y) (at : X → Ordering) (xs : List X) (r : Y)
    → ((z : X) → r ≡ f z → is_eq (at z) ≡ false) → IsInBoth r (map f xs) (map f (dropped at xs))
in_both-dropped f at xs r other = in_both-dropped_in f at xs r (λ z m made. other z made)

-- The same after an item is put, if it is made of no item that is equal to it.
pub in_both-upserted_in : {X Y : Type 0} (f : X → Y) (cmp : X → X → Ordering) (o : IsTotalOrder cmp) (x : X) (xs : List X)
    (r : Y) → ((z : X) → IsIn z (x ∷ xs) → r ≡ f z → is_eq (cmp z x) ≡ false)
    → IsInBoth r (map f xs) (map f (upserted cmp x xs))
in_both-upserted_in {X} {Y} f cmp o x xs r other = (into, from)
  where
    into : IsIn r (map f xs) → IsIn r (map f (upserted cmp x xs))
    into m =
        let w = map-IsIn f r xs m in
        subst (λ (q : Y). IsIn q (map f (upserted cmp x xs))) (sym w.2)
        (IsIn-map f w.0 (upserted cmp x xs) (upserted-IsIn_other cmp x w.0 xs w.1 (other w.0 (inr w.1) w.2)))

    was : (z : X) → r ≡ f z → (z ≡ x) ⊎ (IsIn z xs × (is_eq (cmp z x) ≡ false)) → IsIn r (map f xs)
    was z made (inl same) =
        absurd (true≢false (sym (ap is_eq (ap (λ (w : X). cmp w x) same ∙ tied_itself o x)) ∙ other z (inl same) made))
    was z made (inr old) = subst (λ (q : Y). IsIn q (map f xs)) (sym made) (IsIn-map f z xs old.0)

    from : IsIn r (map f (upserted cmp x xs)) → IsIn r (map f xs)
    from m =
        let w = map-IsIn f r (upserted cmp x xs) m in
        was w.0 w.2 (IsIn-upserted cmp x w.0 xs w.1)

pub in_both-upserted : {X Y : Type 0} (f : X → Y) (cmp : X → X → Ordering) (o : IsTotalOrder cmp) (x : X) (xs : List X)
    (r : Y) → ((z : X) → r ≡ f z → is_eq (cmp z x) ≡ false) → IsInBoth r (map f xs) (map f (upserted cmp x xs))
in_both-upserted f cmp o x xs r other = in_both-upserted_in f cmp o x xs r (λ z m made. other z made)

-- The same if two functions make the item of the same items.
pub in_both-made : {X Y : Type 0} (f g : X → Y) (xs : List X) (r : Y) → ((z : X) → r ≡ f z → f z ≡ g z)
    → ((z : X) → r ≡ g z → f z ≡ g z) → IsInBoth r (map f xs) (map g xs)
in_both-made {X} {Y} f g xs r first second = (into, from)
  where
    into : IsIn r (map f xs) → IsIn r (map g xs)
    into m =
        let w = map-IsIn f r xs m in
        subst (λ (q : Y). IsIn q (map g xs)) (sym (w.2 ∙ first w.0 w.2)) (IsIn-map g w.0 xs w.1)

    from : IsIn r (map g xs) → IsIn r (map f xs)
    from m =
        let w = map-IsIn g r xs m in
        subst (λ (q : Y). IsIn q (map f xs)) (sym (w.2 ∙ sym (second w.0 w.2))) (IsIn-map f w.0 xs w.1)

-- ---- the items of several lists

pub IsIn-flat_map : {X Y : Type 0} (f : X → List Y) (z : Y) (x : X) (xs : List X) → IsIn x xs → IsIn z (f x)
    → IsIn z (flat_map f xs)
IsIn-flat_map f z x [] m n = absurd m
IsIn-flat_map {X} f z x (y ∷ ys) (inl same) n =
    IsIn-front z (f y) (flat_map f ys) (subst (λ (w : X). IsIn z (f w)) same n)
IsIn-flat_map f z x (y ∷ ys) (inr m) n = IsIn-back z (f y) (flat_map f ys) (IsIn-flat_map f z x ys m n)

pub flat_map-IsIn : {X Y : Type 0} (f : X → List Y) (z : Y) (xs : List X) → IsIn z (flat_map f xs)
    → (x : X) × IsIn x xs × IsIn z (f x)
flat_map-IsIn f z [] m = absurd m
flat_map-IsIn {X} {Y} f z (x ∷ xs) m = by (flat_map-IsIn f z xs) (IsIn-either z (f x) (flat_map f xs) m)
  where
    by : (IsIn z (flat_map f xs) → (y : X) × IsIn y xs × IsIn z (f y)) → IsIn z (f x) ⊎ IsIn z (flat_map f xs)
        → (y : X) × IsIn y (x ∷ xs) × IsIn z (f y)
    by go (inl n) = (x, inl refl, n)
    by go (inr n) = let w = go n in (w.0, inr w.1, w.2)

-- An item is in the same lists if each of them is changed without it.
pub in_both-each_in : {X Y : Type 0} (f : X → List Y) (make : X → X) (xs : List X) (r : Y)
    → ((x : X) → IsIn x xs → IsInBoth r (f x) (f (make x))) → IsInBoth r (flat_map f xs) (flat_map f (map make xs))
in_both-each_in {X} {Y} f make xs r each = (into, from)
  where
    into : IsIn r (flat_map f xs) → IsIn r (flat_map f (map make xs))
    into m =
        let w = flat_map-IsIn f r xs m in
        IsIn-flat_map f r (make w.0) (map make xs) (IsIn-map make w.0 xs w.1) ((each w.0 w.1).0 w.2)

    from : IsIn r (flat_map f (map make xs)) → IsIn r (flat_map f xs)
    from m =
        let w = flat_map-IsIn f r (map make xs) m in
        let old = map-IsIn make w.0 xs w.1 in
        IsIn-flat_map f r old.0 xs old.1 ((each old.0 old.1).1 (subst (λ (x : X). IsIn r (f x)) old.2 w.2))

pub in_both-each : {X Y : Type 0} (f : X → List Y) (make : X → X) (xs : List X) (r : Y)
    → ((x : X) → IsInBoth r (f x) (f (make x))) → IsInBoth r (flat_map f xs) (flat_map f (map make xs))
in_both-each f make xs r each = in_both-each_in f make xs r (λ x m. each x)

-- ---- items by their keys

-- In ascending items, the one with a key is found at it.
pub found-member : {X : Type 0} (cmp : X → X → Ordering) (at : X → Ordering) → IsKey cmp at → (x : X) (xs : List X)
    → IsAscending cmp xs → IsIn x xs → is_eq (at x) ≡ true → found at xs ≡ Some x
found-member cmp at key x [] up m is = absurd m
found-member {X} cmp at key x (y ∷ ys) up (inl same) is =
    ap (λ b. cond b (Some y) (found at ys)) (ap (λ (z : X). is_eq (at z)) (sym same) ∙ is) ∙ ap Some (sym same)
found-member cmp at key x (y ∷ ys) up (inr m) is =
    ap (λ r. cond (is_eq r) (Some y) (found at ys)) (key x y (is_eq_true (at x) is) ∙ below_in cmp y x ys up.0 m)
    ∙ found-member cmp at key x ys up.1 m is

-- Items that are put one after another into a sorted list: what the list contains then, and what a search finds.
use Rattle.std.proofs.Common.{◌≡◌, Bool, true, false, not, cond, ◌&&◌, ◌||◌, List, [], ◌∷◌, Option, Some, None, refl}
use Rattle.std.proofs.Common.{sym}
use Rattle.std.proofs.Common.{ap, ◌∙◌, ◌⊎◌, inl, inr, subst, fold, find, is_some, ap₂, if◌then◌else◌}
use Rattle.std.specs.List.{list_any}
use Rattle.std.specs.Cmp.{IsTotalOrder}
use Rattle.std.specs.Ordering.{is_eq, is_lt, ordering_reverse}
use Rattle.std.specs.declared.cmp.Ordering.{Ordering}
use Rattle.std.specs.declared.cmp.Ordering.TheVariants.{Less, Equal, Greater}
use Rattle.std.proofs.lemmas.Cmp.{alike_right, tied_itself}
use Rattle.portal_base.specs.Ordered.{IsBelowAll, IsAscending, upserted}
use Rattle.portal_base.proofs.Inserted.{both_false}
use Rattle.portal_base.proofs.Upserted.{IsAscending-upserted, IsIn-upserted, upserted-IsIn, upserted-IsIn_other}
use Rattle.portal_base.proofs.Unique.{IsIn, below_in, unique}
use Rattle.portal_base.proofs.Removed.{is_eq_true}
use Rattle.datastore_table.specs.Rows.{earlier}

-- the list after the items were put into it, each in place of the item that is like it
abbrev pub merged : {X : Type 0} → (X → X → Ordering) → List X → List X → List X
merged cmp ws xs = fold (λ others w. upserted cmp w others) xs ws

-- z is like none of the items
abbrev pub IsApart : {X : Type 0} → (X → X → Ordering) → X → List X → Type 0
IsApart {X} cmp z ws = (w : X) → IsIn w ws → is_eq (cmp z w) ≡ false

pub IsAscending-merged : {X : Type 0} (cmp : X → X → Ordering) (o : IsTotalOrder cmp) (ws xs : List X)
    → IsAscending cmp xs → IsAscending cmp (merged cmp ws xs)
IsAscending-merged cmp o [] xs up = up
IsAscending-merged cmp o (w ∷ ws) xs up =
    IsAscending-merged cmp o ws (upserted cmp w xs) (IsAscending-upserted cmp o w xs up)

-- ---- what the list contains

pub IsIn-merged : {X : Type 0} (cmp : X → X → Ordering) (z : X) (ws xs : List X)
    → IsIn z (merged cmp ws xs) → IsIn z ws ⊎ (IsIn z xs × IsApart cmp z ws)
IsIn-merged cmp z [] xs m = inr (m, λ w n. absurd n)
IsIn-merged {X} cmp z (w ∷ ws) xs m = split (IsIn-merged cmp z ws (upserted cmp w xs) m)
  where
    apart : is_eq (cmp z w) ≡ false → IsApart cmp z ws → (v : X) → IsIn v (w ∷ ws) → is_eq (cmp z v) ≡ false
    apart other rest v (inl e) = ap (λ u. is_eq (cmp z u)) e ∙ other
    apart other rest v (inr n) = rest v n

    further : (z ≡ w) ⊎ (IsIn z xs × (is_eq (cmp z w) ≡ false)) → IsApart cmp z ws
        → IsIn z (w ∷ ws) ⊎ (IsIn z xs × IsApart cmp z (w ∷ ws))
    further (inl e) rest = inl (inl e)
    further (inr n) rest = inr (n.0, apart n.1 rest)

    split : IsIn z ws ⊎ (IsIn z (upserted cmp w xs) × IsApart cmp z ws)
        → IsIn z (w ∷ ws) ⊎ (IsIn z xs × IsApart cmp z (w ∷ ws))
    split (inl n) = inl (inr n)
    split (inr n) = further (IsIn-upserted cmp w z xs n.0) n.1

pub merged-IsIn_other : {X : Type 0} (cmp : X → X → Ordering) (z : X) (ws xs : List X) → IsIn z xs
    → IsApart cmp z ws → IsIn z (merged cmp ws xs)
merged-IsIn_other cmp z [] xs m apart = m
merged-IsIn_other cmp z (w ∷ ws) xs m apart =
    merged-IsIn_other cmp z ws (upserted cmp w xs) (upserted-IsIn_other cmp w z xs m (apart w (inl refl)))
    (λ v n. apart v (inr n))

pub below_apart : {X : Type 0} (cmp : X → X → Ordering) (w : X) (ws : List X) → IsBelowAll cmp w ws → IsApart cmp w ws
below_apart cmp w ws below v n = ap is_eq (below_in cmp w v ws below n)

pub merged-IsIn : {X : Type 0} (cmp : X → X → Ordering) (z : X) (ws xs : List X) → IsAscending cmp ws → IsIn z ws
    → IsIn z (merged cmp ws xs)
merged-IsIn cmp z [] xs up m = absurd m
merged-IsIn {X} cmp z (w ∷ ws) xs up (inl e) =
    subst (λ v. IsIn v (merged cmp ws (upserted cmp w xs))) (sym e)
    (merged-IsIn_other cmp w ws (upserted cmp w xs) (upserted-IsIn cmp w xs) (below_apart cmp w ws up.0))
merged-IsIn cmp z (w ∷ ws) xs up (inr m) = merged-IsIn cmp z ws (upserted cmp w xs) up.1 m

-- ---- one more

-- What is unlike an item is unlike whatever is like that item.
apart_like : {X : Type 0} (cmp : X → X → Ordering) (o : IsTotalOrder cmp) (z x w : X) → is_eq (cmp z x) ≡ false
    → is_eq (cmp w x) ≡ true → is_eq (cmp z w) ≡ false
apart_like cmp o z x w other like =
    ap is_eq (alike_right o w x z (is_eq_true (cmp w x) like)) ∙ other

IsApart-placed : {X : Type 0} (cmp : X → X → Ordering) (z x : X) (ws : List X) → is_eq (cmp z x) ≡ false
    → IsApart cmp z ws → IsApart cmp z (upserted cmp x ws)
IsApart-placed {X} cmp z x ws other apart w m = by (IsIn-upserted cmp x w ws m)
  where
    by : (w ≡ x) ⊎ (IsIn w ws × (is_eq (cmp w x) ≡ false)) → is_eq (cmp z w) ≡ false
    by (inl e) = ap (λ v. is_eq (cmp z v)) e ∙ other
    by (inr n) = apart w n.0

placed-IsApart : {X : Type 0} (cmp : X → X → Ordering) (o : IsTotalOrder cmp) (z x : X) (ws : List X)
    → IsApart cmp z (upserted cmp x ws) → IsApart cmp z ws
placed-IsApart {X} cmp o z x ws apart w m = by (is_eq (cmp w x)) refl
  where
    by : (b : Bool) → is_eq (cmp w x) ≡ b → is_eq (cmp z w) ≡ false
    by true e = apart_like cmp o z x w (apart x (upserted-IsIn cmp x ws)) e
    by false e = apart w (upserted-IsIn_other cmp x w ws m e)

-- To put one more into the items is to put it into the list after them.
pub merged-placed : {X : Type 0} (cmp : X → X → Ordering) (o : IsTotalOrder cmp) (x : X) (ws xs : List X)
    → IsAscending cmp ws → IsAscending cmp xs
    → merged cmp (upserted cmp x ws) xs ≡ upserted cmp x (merged cmp ws xs)
merged-placed {X} cmp o x ws xs uw ux =
    unique cmp o (merged cmp (upserted cmp x ws) xs) (upserted cmp x (merged cmp ws xs))
    (IsAscending-merged cmp o (upserted cmp x ws) xs ux)
    (IsAscending-upserted cmp o x (merged cmp ws xs) (IsAscending-merged cmp o ws xs ux))
    (λ z m. to z (IsIn-merged cmp z (upserted cmp x ws) xs m)) (λ z m. from z (IsIn-upserted cmp x z (merged cmp ws xs) m))
  where
    to_written : (z : X) → (z ≡ x) ⊎ (IsIn z ws × (is_eq (cmp z x) ≡ false)) → IsIn z (upserted cmp x (merged cmp ws xs))
    to_written z (inl e) = subst (λ v. IsIn v (upserted cmp x (merged cmp ws xs))) (sym e)
        (upserted-IsIn cmp x (merged cmp ws xs))
    to_written z (inr n) = upserted-IsIn_other cmp x z (merged cmp ws xs) (merged-IsIn cmp z ws xs uw n.0) n.1

    to : (z : X) → IsIn z (upserted cmp x ws) ⊎ (IsIn z xs × IsApart cmp z (upserted cmp x ws))
        → IsIn z (upserted cmp x (merged cmp ws xs))
    to z (inl m) = to_written z (IsIn-upserted cmp x z ws m)
    to z (inr n) = upserted-IsIn_other cmp x z (merged cmp ws xs)
        (merged-IsIn_other cmp z ws xs n.0 (placed-IsApart cmp o z x ws n.1)) (n.1 x (upserted-IsIn cmp x ws))

    from_others : (z : X) → is_eq (cmp z x) ≡ false → IsIn z ws ⊎ (IsIn z xs × IsApart cmp z ws)
        → IsIn z (merged cmp (upserted cmp x ws) xs)
    from_others z other (inl m) =
        merged-IsIn cmp z (upserted cmp x ws) xs (IsAscending-upserted cmp o x ws uw) (upserted-IsIn_other cmp x z ws m other)
    from_others z other (inr n) =
        merged-IsIn_other cmp z (upserted cmp x ws) xs n.0 (IsApart-placed cmp z x ws other n.1)

    from : (z : X) → (z ≡ x) ⊎ (IsIn z (merged cmp ws xs) × (is_eq (cmp z x) ≡ false))
        → IsIn z (merged cmp (upserted cmp x ws) xs)
    from z (inl e) = subst (λ v. IsIn v (merged cmp (upserted cmp x ws) xs)) (sym e)
        (merged-IsIn cmp x (upserted cmp x ws) xs (IsAscending-upserted cmp o x ws uw) (upserted-IsIn cmp x ws))
    from z (inr n) = from_others z n.1 (IsIn-merged cmp z ws xs n.0)

-- ---- what a search finds

true_false : {A : Type 0} (b : Bool) → b ≡ true → b ≡ false → A
true_false b t f = absurd (cc)

-- The first item that passes is the least one.
pub find-least : {X : Type 0} (cmp : X → X → Ordering) (p : X → Bool) (a : X) (xs : List X) → IsAscending cmp xs
    → IsIn a xs → p a ≡ true → ((z : X) → IsIn z xs → p z ≡ true → is_lt (cmp z a) ≡ false) → find p xs ≡ Some a
find-least cmp p a [] up m passes least = absurd m
find-least cmp p a (x ∷ xs) up (inl e) passes least =
    ap (λ b. cond b (Some x) (find p xs)) (ap p (sym e) ∙ passes) ∙ ap Some (sym e)
find-least {X} cmp p a (x ∷ xs) up (inr m) passes least =
    by (find-least cmp p a xs up.1 m passes (λ z n. least z (inr n))) (p x) refl
  where
    by : find p xs ≡ Some a → (b : Bool) → p x ≡ b → cond (p x) (Some x) (find p xs) ≡ Some a
    by more true e = true_false (is_lt (cmp x a)) (ap is_lt (below_in cmp x a xs up.0 m)) (least x (inl refl) e)
    by more false e = ap (λ b. cond b (Some x) (find p xs)) e ∙ more

pub find-nothing : {X : Type 0} (p : X → Bool) (xs : List X) → ((z : X) → IsIn z xs → p z ≡ false) → find p xs ≡ None
find-nothing p [] none = refl
find-nothing p (x ∷ xs) none =
    ap (λ b. cond b (Some x) (find p xs)) (none x (inl refl)) ∙ find-nothing p xs (λ z n. none z (inr n))

-- The item is in the list, passes the test, and is the least that passes it.
pub record IsLeast {X : Type 0} (cmp : X → X → Ordering) (p : X → Bool) (xs : List X) (a : X) : Type 0 where
  pub is_there : IsIn a xs
  pub passes : p a ≡ true
  pub least : (z : X) → IsIn z xs → p z ≡ true → is_lt (cmp z a) ≡ false

pub found-least : {X : Type 0} (cmp : X → X → Ordering) (o : IsTotalOrder cmp) (p : X → Bool) (a : X) (xs : List X)
    → IsAscending cmp xs → find p xs ≡ Some a → IsLeast cmp p xs a
found-least cmp o p a [] up h = absurd (cc)
found-least {X} cmp o p a (x ∷ xs) up h = by (λ s. found-least cmp o p a xs up.1 s) (p x) refl h
  where
    here_least : x ≡ a → (z : X) → IsIn z (x ∷ xs) → p z ≡ true → is_lt (cmp z a) ≡ false
    here_least e z (inl i) t = ap is_lt (ap (λ v. cmp v a) (i ∙ e) ∙ tied_itself o a)
    here_least e z (inr n) t =
        ap is_lt (o.antisymm z a ∙ ap ordering_reverse (ap (λ v. cmp v z) (sym e) ∙ below_in cmp x z xs up.0 n))

    later : IsLeast cmp p xs a → p x ≡ false → IsLeast cmp p (x ∷ xs) a
    later rest fails = record {
      is_there = inr rest.is_there;
      passes = rest.passes;
      least = last;
    }
      where
        last : (z : X) → IsIn z (x ∷ xs) → p z ≡ true → is_lt (cmp z a) ≡ false
        last z (inl i) t = true_false (p x) (ap p (sym i) ∙ t) fails
        last z (inr n) t = rest.least z n t

    by : (find p xs ≡ Some a → IsLeast cmp p xs a) → (b : Bool) → p x ≡ b → cond b (Some x) (find p xs) ≡ Some a
        → IsLeast cmp p (x ∷ xs) a
    by more true e s =
        let same : x ≡ a = cc in
        record { is_there = inl (sym same); passes = ap p (sym same) ∙ e; least = here_least same }
    by more false e s = later (more s) e

pub found-nothing : {X : Type 0} (p : X → Bool) (xs : List X) → find p xs ≡ None → (z : X) → IsIn z xs → p z ≡ false
found-nothing p [] h z m = absurd m
found-nothing {X} p (x ∷ xs) h z m = by (λ s n. found-nothing p xs s z n) (p x) refl h m
  where
    by : (find p xs ≡ None → IsIn z xs → p z ≡ false) → (b : Bool) → p x ≡ b → cond b (Some x) (find p xs) ≡ None
        → IsIn z (x ∷ xs) → p z ≡ false
    by more true e s n = absurd (cc)
    by more false e s (inl i) = ap p i ∙ e
    by more false e s (inr n) = more s n

-- an item that passes and is like none of the others
abbrev pub passes_apart : {X : Type 0} → (X → X → Ordering) → (X → Bool) → List X → X → Bool
passes_apart cmp p ws x = p x && not (list_any (λ w. is_eq (cmp x w)) ws)

list_any-IsApart : {X : Type 0} (cmp : X → X → Ordering) (z : X) (ws : List X) → IsApart cmp z ws
    → list_any (λ w. is_eq (cmp z w)) ws ≡ false
list_any-IsApart cmp z [] apart = refl
list_any-IsApart cmp z (w ∷ ws) apart =
    ap (λ b. b || list_any (λ v. is_eq (cmp z v)) ws) (apart w (inl refl))
    ∙ list_any-IsApart cmp z ws (λ v n. apart v (inr n))

IsApart-list_any : {X : Type 0} (cmp : X → X → Ordering) (z : X) (ws : List X)
    → list_any (λ w. is_eq (cmp z w)) ws ≡ false → IsApart cmp z ws
IsApart-list_any cmp z [] none w m = absurd m
IsApart-list_any cmp z (v ∷ ws) none w (inl e) =
    ap (λ u. is_eq (cmp z u)) e ∙ (both_false (is_eq (cmp z v)) (list_any (λ u. is_eq (cmp z u)) ws) none).0
IsApart-list_any cmp z (v ∷ ws) none w (inr n) =
    IsApart-list_any cmp z ws (both_false (is_eq (cmp z v)) (list_any (λ u. is_eq (cmp z u)) ws) none).1 w n

both_true : (a b : Bool) → (a && not b) ≡ true → (a ≡ true) × (b ≡ false)
both_true true false h = (refl, refl)
both_true true true h = absurd (cc)
both_true false b h = absurd (cc)

passes_alone : (a b : Bool) → (a && not b) ≡ false → b ≡ false → a ≡ false
passes_alone true b h f = absurd (cc)
passes_alone false b h f = refl

pub is_lt_true : (r : Ordering) → is_lt r ≡ true → r ≡ Less
is_lt_true Less h = refl
is_lt_true Equal h = absurd (cc)
is_lt_true Greater h = absurd (cc)

-- If z isn't below b, and b isn't below a, z isn't below a.
not_below_through : {X : Type 0} (cmp : X → X → Ordering) (o : IsTotalOrder cmp) (z b a : X)
    → is_lt (cmp z b) ≡ false → is_lt (cmp b a) ≡ false → is_lt (cmp z a) ≡ false
not_below_through {X} cmp o z b a zb ba = by (is_lt (cmp z a)) refl
  where
    step : cmp z a ≡ Less → (r : Ordering) → cmp z b ≡ r → is_lt (cmp z a) ≡ false
    step less Less e = true_false (is_lt (cmp z b)) (ap is_lt e) zb
    step less Equal e = true_false (is_lt (cmp b a)) (ap is_lt (sym (o.congr z b a e) ∙ less)) ba
    step less Greater e =
        true_false (is_lt (cmp b a))
        (ap is_lt (o.trans b z a (o.antisymm b z ∙ ap ordering_reverse e) less)) ba

    by : (t : Bool) → is_lt (cmp z a) ≡ t → is_lt (cmp z a) ≡ false
    by true e = step (is_lt_true (cmp z a) e) (cmp z b) refl
    by false e = e

-- If z isn't below b, and a is below b, z isn't below a.
not_below_less : {X : Type 0} (cmp : X → X → Ordering) (o : IsTotalOrder cmp) (z b a : X)
    → is_lt (cmp z a) ≡ false → is_lt (cmp b a) ≡ true → is_lt (cmp z b) ≡ false
not_below_less {X} cmp o z b a za ba = by (is_lt (cmp z b)) refl
  where
    by : (t : Bool) → is_lt (cmp z b) ≡ t → is_lt (cmp z b) ≡ false
    by true e =
        true_false (is_lt (cmp z a))
        (ap is_lt (o.trans z b a (is_lt_true (cmp z b) e) (is_lt_true (cmp b a) ba))) za
    by false e = e

-- The first item that passes is the lesser of two: the first that was put, and the first of the others that no item
-- replaced.
pub find-merged : {X : Type 0} (cmp : X → X → Ordering) (o : IsTotalOrder cmp) (p : X → Bool) (ws xs : List X)
    → IsAscending cmp ws → IsAscending cmp xs
    → find p (merged cmp ws xs) ≡ earlier cmp (find p ws) (find (passes_apart cmp p ws) xs)
find-merged {X} cmp o p ws xs uw ux = by (find p ws) refl (find q xs) refl
  where
    q : X → Bool
    q = passes_apart cmp p ws

    all : List X
    all = merged cmp ws xs

    up : IsAscending cmp all
    up = IsAscending-merged cmp o ws xs ux

    is_put : (z : X) → p z ≡ true → IsApart cmp z ws → q z ≡ true
    is_put z t apart = rw t (ap not (list_any-IsApart cmp z ws apart))

    no_other : find q xs ≡ None → (z : X) → IsIn z xs × IsApart cmp z ws → p z ≡ false
    no_other f z n =
        passes_alone (p z) (list_any (λ w. is_eq (cmp z w)) ws) (found-nothing q xs f z n.0)
        (list_any-IsApart cmp z ws n.1)

    none : find p ws ≡ None → find q xs ≡ None → (z : X) → IsIn z ws ⊎ (IsIn z xs × IsApart cmp z ws) → p z ≡ false
    none e f z (inl m) = found-nothing p ws e z m
    none e f z (inr n) = no_other f z n

    put_alone : (a : X) → IsLeast cmp p ws a → find q xs ≡ None → (z : X) → p z ≡ true
        → IsIn z ws ⊎ (IsIn z xs × IsApart cmp z ws) → is_lt (cmp z a) ≡ false
    put_alone a fa f z t (inl m) = fa.least z m t
    put_alone a fa f z t (inr n) = true_false (p z) t (no_other f z n)

    other_alone : (b : X) → IsLeast cmp q xs b → find p ws ≡ None → (z : X) → p z ≡ true
        → IsIn z ws ⊎ (IsIn z xs × IsApart cmp z ws) → is_lt (cmp z b) ≡ false
    other_alone b fb e z t (inl m) = true_false (p z) t (found-nothing p ws e z m)
    other_alone b fb e z t (inr n) = fb.least z n.0 (is_put z t n.1)

    other_first : (a b : X) → IsLeast cmp p ws a → IsLeast cmp q xs b → is_lt (cmp b a) ≡ true → (z : X) → p z ≡ true
        → IsIn z ws ⊎ (IsIn z xs × IsApart cmp z ws) → is_lt (cmp z b) ≡ false
    other_first a b fa fb lt z t (inl m) = not_below_less cmp o z b a (fa.least z m t) lt
    other_first a b fa fb lt z t (inr n) = fb.least z n.0 (is_put z t n.1)

    put_first : (a b : X) → IsLeast cmp p ws a → IsLeast cmp q xs b → is_lt (cmp b a) ≡ false → (z : X) → p z ≡ true
        → IsIn z ws ⊎ (IsIn z xs × IsApart cmp z ws) → is_lt (cmp z a) ≡ false
    put_first a b fa fb ge z t (inl m) = fa.least z m t
    put_first a b fa fb ge z t (inr n) =
        not_below_through cmp o z b a (fb.least z n.0 (is_put z t n.1)) ge

    is_put_there : (a : X) → IsLeast cmp p ws a → ((z : X) → IsIn z all → p z ≡ true → is_lt (cmp z a) ≡ false)
        → find p all ≡ Some a
    is_put_there a fa least =
        find-least cmp p a all up (merged-IsIn cmp a ws xs uw fa.is_there) fa.passes least

    is_other_there : (b : X) → IsLeast cmp q xs b → ((z : X) → IsIn z all → p z ≡ true → is_lt (cmp z b) ≡ false)
        → find p all ≡ Some b
    is_other_there b fb least =
        let both = both_true (p b) (list_any (λ w. is_eq (cmp b w)) ws) fb.passes in
        find-least cmp p b all up (merged-IsIn_other cmp b ws xs fb.is_there (IsApart-list_any cmp b ws both.1))
        both.0 least

    of_two : (a b : X) → IsLeast cmp p ws a → IsLeast cmp q xs b → (t : Bool) → is_lt (cmp b a) ≡ t
        → find p all ≡ (if is_lt (cmp b a) then Some b else Some a)
    of_two a b fa fb true e =
        is_other_there b fb (λ z m t. other_first a b fa fb e z t (IsIn-merged cmp z ws xs m))
        ∙ sym (ap (λ c. if c then Some b else Some a) e)
    of_two a b fa fb false e =
        is_put_there a fa (λ z m t. put_first a b fa fb e z t (IsIn-merged cmp z ws xs m))
        ∙ sym (ap (λ c. if c then Some b else Some a) e)

    by : (one : Option X) → find p ws ≡ one → (other : Option X) → find q xs ≡ other
        → find p all ≡ earlier cmp (find p ws) (find q xs)
    by None e None f =
        rw (e, f) (find-nothing p all (λ z m. none e f z (IsIn-merged cmp z ws xs m)))
    by None e (Some b) f =
        rw (e, f) (is_other_there b (found-least cmp o q b xs ux f)
        (λ z m t. other_alone b (found-least cmp o q b xs ux f) e z t (IsIn-merged cmp z ws xs m)))
    by (Some a) e None f =
        rw (e, f) (is_put_there a (found-least cmp o p a ws uw e)
        (λ z m t. put_alone a (found-least cmp o p a ws uw e) f z t (IsIn-merged cmp z ws xs m)))
    by (Some a) e (Some b) f =
        rw (e, f) (of_two a b (found-least cmp o p a ws uw e) (found-least cmp o q b xs ux f) (is_lt (cmp b a)) refl)

pub is_some-find : {X : Type 0} (p : X → Bool) (xs : List X) → list_any p xs ≡ is_some (find p xs)
is_some-find p [] = refl
is_some-find {X} p (x ∷ xs) = by (is_some-find p xs) (p x)
  where
    by : list_any p xs ≡ is_some (find p xs) → (b : Bool)
        → (b || list_any p xs) ≡ is_some (cond b (Some x) (find p xs))
    by more true = refl
    by more false = more

is_some-earlier : {X : Type 0} (cmp : X → X → Ordering) (one other : Option X)
    → is_some (earlier cmp one other) ≡ (is_some one || is_some other)
is_some-earlier cmp None other = refl
is_some-earlier cmp (Some a) None = refl
is_some-earlier {X} cmp (Some a) (Some b) = by (is_lt (cmp b a))
  where
    by : (t : Bool) → is_some (if t then Some b else Some a) ≡ true
    by true = refl
    by false = refl

-- An item passes if one that was put passes, or one of the others that no item replaced.
pub list_any-merged : {X : Type 0} (cmp : X → X → Ordering) (o : IsTotalOrder cmp) (p : X → Bool) (ws xs : List X)
    → IsAscending cmp ws → IsAscending cmp xs
    → list_any p (merged cmp ws xs) ≡ (list_any p ws || list_any (passes_apart cmp p ws) xs)
list_any-merged cmp o p ws xs uw ux =
    is_some-find p (merged cmp ws xs)
    ∙ ap is_some (find-merged cmp o p ws xs uw ux)
    ∙ is_some-earlier cmp (find p ws) (find (passes_apart cmp p ws) xs)
    ∙ ap₂ (λ a b. a || b) (sym (is_some-find p ws)) (sym (is_some-find (passes_apart cmp p ws) xs))

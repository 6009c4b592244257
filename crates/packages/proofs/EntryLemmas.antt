-- Lists of numbered datasets: the dataset at each number, and the effect of a change at one number.
use Rattle.std.proofs.Common.{◌≡◌, ◌≢◌, ℕ, zero, suc, ◌+◌, ◌<◌, Bool, true, false, cond, List, [], ◌∷◌, Option, Some}
use Rattle.std.proofs.Common.{None, refl, sym, ap, ◌∙◌, subst, ◌⊎◌, inl, inr, get_or, zero-add, arith}
use Rattle.std.specs.declared.cmp.Ordering.{Ordering}
use Rattle.std.specs.declared.cmp.Ordering.TheVariants.{Less, Equal}
use Rattle.std.specs.Ordering.{nat_cmp, is_eq}
use Rattle.std.specs.Option.{option_map}
use Rattle.std.specs.Cmp.{IsTotalOrder, nat_cmp_is}
use Rattle.std.proofs.lemmas.Cmp.{nat_cmp_total, on_total, ranked}
use Rattle.slab.specs.Slab.{Slab, get, entries, entries_from, Updates}
use Rattle.portal_base.specs.Ordered.{IsAscending, IsBelowAll, found, upserted, dropped, IsKey, IsKey-field}
use Rattle.portal_base.proofs.Unique.{IsIn, unique, below_in}
use Rattle.portal_base.proofs.Removed.{is_eq_true}
use Rattle.portal_base.proofs.Upserted.{IsAscending-upserted, IsAscending-dropped, IsIn-upserted, upserted-IsIn}
use Rattle.portal_base.proofs.Upserted.{upserted-IsIn_other, IsIn-dropped, dropped-IsIn}
use Rattle.packages.specs.Shelf.{number_cmp, at_number}
use Rattle.packages.specs.declared.package.Package.{Package}

-- ---- numbers

pub nat_cmp-less : (m n : ℕ) → m < n → nat_cmp m n ≡ Less
nat_cmp-less m n lt = sym (nat_cmp_is m n Less lt)

pub nat_cmp-same : (n : ℕ) → nat_cmp n n ≡ Equal
nat_cmp-same n = sym (nat_cmp_is n n Equal refl)

pub same-nat_cmp : (m n : ℕ) → nat_cmp m n ≡ Equal → m ≡ n
same-nat_cmp m n e = ranked m n Equal (sym e)

pub apart-nat_cmp : (m n : ℕ) → m ≢ n → is_eq (nat_cmp m n) ≡ false
apart-nat_cmp m n apart = by (is_eq (nat_cmp m n)) refl
  where
    by : (b : Bool) → is_eq (nat_cmp m n) ≡ b → b ≡ false
    by false e = refl
    by true e = absurd (apart (same-nat_cmp m n (is_eq_true (nat_cmp m n) e)))

pub nat_cmp-apart : (m n : ℕ) → is_eq (nat_cmp m n) ≡ false → m ≢ n
nat_cmp-apart m n apart e =
    let same : is_eq (nat_cmp m n) ≡ true = ap is_eq (ap (λ k. nat_cmp m k) (sym e) ∙ nat_cmp-same m) in
    absurd (cc)

-- The order by number is total.
pub number_cmp_total : IsTotalOrder number_cmp
number_cmp_total = on_total (λ e. e.0) nat_cmp_total

pub at_number-IsKey : (n : ℕ) → IsKey number_cmp (at_number n)
at_number-IsKey n = IsKey-field (λ e. e.0) nat_cmp_total n

-- ---- a search by a key

-- The item that is found is in the list, at the key.
pub IsIn-found : {X : Type 0} (at : X → Ordering) (x : X) (xs : List X) → found at xs ≡ Some x
    → IsIn x xs × (at x ≡ Equal)
IsIn-found at x [] h = absurd (cc)
IsIn-found {X} at x (y ∷ ys) h = by (is_eq (at y)) refl h (IsIn-found at x ys)
  where
    by : (b : Bool) → is_eq (at y) ≡ b → cond b (Some y) (found at ys) ≡ Some x
        → (found at ys ≡ Some x → IsIn x ys × (at x ≡ Equal)) → IsIn x (y ∷ ys) × (at x ≡ Equal)
    by true here e go =
        let same : y ≡ x = cc in (inl (sym same), subst (λ z. at z ≡ Equal) same (is_eq_true (at y) here))
    by false other e go = (inr (go e).0, (go e).1)

-- An item at the key is found, if the list ascends.
pub found-IsIn : {X : Type 0} (cmp : X → X → Ordering) (at : X → Ordering) (key : IsKey cmp at) (x : X) (xs : List X)
    → IsAscending cmp xs → IsIn x xs → at x ≡ Equal → found at xs ≡ Some x
found-IsIn cmp at key x [] up m here = absurd m
found-IsIn cmp at key x (y ∷ ys) up (inl e) here =
    ap (λ r. cond (is_eq r) (Some y) (found at ys)) (subst (λ z. at z ≡ Equal) e here) ∙ ap Some (sym e)
found-IsIn cmp at key x (y ∷ ys) up (inr m) here =
    ap (λ r. cond (is_eq r) (Some y) (found at ys)) (key x y here ∙ below_in cmp y x ys up.0 m)
    ∙ found-IsIn cmp at key x ys up.1 m here

-- ---- the dataset at a number of a list

-- an entry with this number and this dataset is in the list
entry-IsIn : (n : ℕ) (d : Package) (x : ℕ × Package) (es : List (ℕ × Package)) → x.0 ≡ n → x.1 ≡ d → IsIn x es
    → IsIn (n, d) es
entry-IsIn n d x es number dataset m =
    subst (λ k. IsIn (k, d) es) number (subst (λ f. IsIn (x.0, f) es) dataset m)

pub IsIn-package_at : (n : ℕ) (d : Package) (es : List (ℕ × Package))
    → option_map (λ e. e.1) (found (at_number n) es) ≡ Some d → IsIn (n, d) es
IsIn-package_at n d es h = by (found (at_number n) es) refl h
  where
    by : (o : Option (ℕ × Package)) → found (at_number n) es ≡ o → option_map (λ e. e.1) o ≡ Some d → IsIn (n, d) es
    by None is e = absurd (cc)
    by (Some x) is e =
        let there : IsIn x es × (at_number n x ≡ Equal) = IsIn-found (at_number n) x es is in
        let dataset : x.1 ≡ d = cc in
        entry-IsIn n d x es (same-nat_cmp x.0 n there.1) dataset there.0

pub package_at-IsIn : (n : ℕ) (d : Package) (es : List (ℕ × Package)) → IsAscending number_cmp es → IsIn (n, d) es
    → option_map (λ e. e.1) (found (at_number n) es) ≡ Some d
package_at-IsIn n d es up m =
    ap (option_map (λ e. e.1))
    (found-IsIn number_cmp (at_number n) (at_number-IsKey n) (n, d) es up m (nat_cmp-same n))

-- ---- the entries of a slab

pub IsBelowAll-entries : (a : ℕ) (d : Package) (b : ℕ) (slots : List (Option Package)) → a < b
    → IsBelowAll number_cmp (a, d) (entries_from b slots)
IsBelowAll-entries a d b [] lt = tt
IsBelowAll-entries a d b (None ∷ rest) lt = IsBelowAll-entries a d (b + 1) rest (omega arith)
IsBelowAll-entries a d b (Some e ∷ rest) lt =
    (nat_cmp-less a b lt, IsBelowAll-entries a d (b + 1) rest (omega arith))

IsAscending-entries_from : (b : ℕ) (slots : List (Option Package)) → IsAscending number_cmp (entries_from b slots)
IsAscending-entries_from b [] = tt
IsAscending-entries_from b (None ∷ rest) = IsAscending-entries_from (b + 1) rest
IsAscending-entries_from b (Some e ∷ rest) =
    (IsBelowAll-entries b e (b + 1) rest (omega arith), IsAscending-entries_from (b + 1) rest)

IsIn-entries_from : (b k : ℕ) (d : Package) (slots : List (Option Package)) → get_or slots k None ≡ Some d
    → IsIn (b + k, d) (entries_from b slots)
IsIn-entries_from b k d [] h = absurd (cc)
IsIn-entries_from b zero d (None ∷ rest) h = absurd (cc)
IsIn-entries_from b zero d (Some e ∷ rest) h =
    let number : b + 0 ≡ b = omega arith in
    let dataset : e ≡ d = cc in
    let same : (b + 0, d) ≡ (b, e) = cc in
    inl same
IsIn-entries_from b (suc k) d (None ∷ rest) h =
    let number : b + 1 + k ≡ b + suc k = omega arith in
    subst (λ n. IsIn (n, d) (entries_from (b + 1) rest)) number (IsIn-entries_from (b + 1) k d rest h)
IsIn-entries_from b (suc k) d (Some e ∷ rest) h =
    let number : b + 1 + k ≡ b + suc k = omega arith in
    inr (subst (λ n. IsIn (n, d) (entries_from (b + 1) rest)) number (IsIn-entries_from (b + 1) k d rest h))

-- the dataset is at some index of the slots, which gives this number
abbrev IsInSlots : ℕ → ℕ → Package → List (Option Package) → Type 0
IsInSlots b n d slots = (k : ℕ) × (n ≡ b + k) × (get_or slots k None ≡ Some d)

further : (b n : ℕ) (d : Package) (o : Option Package) (rest : List (Option Package))
    → IsInSlots (b + 1) n d rest → IsInSlots b n d (o ∷ rest)
further b n d o rest s =
    let k : ℕ = s.0 in let at : n ≡ b + 1 + k = s.1 in let index : n ≡ b + suc k = omega arith in (suc k, index, s.2)

entries_from-IsIn : (b n : ℕ) (d : Package) (slots : List (Option Package)) → IsIn (n, d) (entries_from b slots)
    → IsInSlots b n d slots
entries_from-IsIn b n d [] m = absurd m
entries_from-IsIn b n d (None ∷ rest) m = further b n d None rest (entries_from-IsIn (b + 1) n d rest m)
entries_from-IsIn b n d (Some e ∷ rest) (inl same) =
    let number : n ≡ b = ap (λ x. x.0) same in
    let index : n ≡ b + 0 = omega arith in
    let dataset : d ≡ e = ap (λ x. x.1) same in
    (0, index, ap Some (sym dataset))
entries_from-IsIn b n d (Some e ∷ rest) (inr m) =
    further b n d (Some e) rest (entries_from-IsIn (b + 1) n d rest m)

pub IsAscending-entries : (s : Slab Package) → IsAscending number_cmp (entries s)
IsAscending-entries s = IsAscending-entries_from 0 s.slots

-- A dataset of the slab is among the entries, and each entry is a dataset of the slab.
pub IsIn-entries : (n : ℕ) (d : Package) (s : Slab Package) → get s n ≡ Some d → IsIn (n, d) (entries s)
IsIn-entries n d s h = subst (λ m. IsIn (m, d) (entries s)) (zero-add n) (IsIn-entries_from 0 n d s.slots h)

pub entries-IsIn : (n : ℕ) (d : Package) (s : Slab Package) → IsIn (n, d) (entries s) → get s n ≡ Some d
entries-IsIn n d s m =
    let in_slots : IsInSlots 0 n d s.slots = entries_from-IsIn 0 n d s.slots m in
    let number : n ≡ in_slots.0 = in_slots.1 ∙ zero-add in_slots.0 in
    ap (λ k. get_or s.slots k None) number ∙ in_slots.2

-- ---- one change

-- A new value at one key is inserted among the entries.
pub entries-with : (n : ℕ) (d : Package) (old new : Slab Package) → Updates old new n (Some d)
    → entries new ≡ upserted number_cmp (n, d) (entries old)
entries-with n d old new change =
    unique number_cmp number_cmp_total (entries new) (upserted number_cmp (n, d) (entries old))
    (IsAscending-entries new)
    (IsAscending-upserted number_cmp number_cmp_total (n, d) (entries old) (IsAscending-entries old)) to from
  where
    apart : (z : ℕ × Package) → IsIn z (entries new) → z.0 ≢ n → IsIn z (upserted number_cmp (n, d) (entries old))
    apart z m other =
        upserted-IsIn_other number_cmp (n, d) z (entries old)
        (IsIn-entries z.0 z.1 old (sym (change.others z.0 other) ∙ entries-IsIn z.0 z.1 new m))
        (apart-nat_cmp z.0 n other)

    here : (z : ℕ × Package) → IsIn z (entries new) → z.0 ≡ n → IsIn z (upserted number_cmp (n, d) (entries old))
    here z m is =
        let stood : get new n ≡ Some z.1 = ap (get new) (sym is) ∙ entries-IsIn z.0 z.1 new m in
        let dataset : z.1 ≡ d = let both : Some z.1 ≡ Some d = sym stood ∙ change.changed in cc in
        entry-IsIn z.0 z.1 (n, d) (upserted number_cmp (n, d) (entries old)) (sym is) (sym dataset)
        (upserted-IsIn number_cmp (n, d) (entries old))

    to : (z : ℕ × Package) → IsIn z (entries new) → IsIn z (upserted number_cmp (n, d) (entries old))
    to z m = by (is_eq (nat_cmp z.0 n)) refl
      where
        by : (b : Bool) → is_eq (nat_cmp z.0 n) ≡ b → IsIn z (upserted number_cmp (n, d) (entries old))
        by true is = here z m (same-nat_cmp z.0 n (is_eq_true (nat_cmp z.0 n) is))
        by false other = apart z m (nat_cmp-apart z.0 n other)

    back : (z : ℕ × Package) → (z ≡ (n, d)) ⊎ (IsIn z (entries old) × (is_eq (number_cmp z (n, d)) ≡ false))
        → IsIn z (entries new)
    back z (inl same) =
        subst (λ y. IsIn y (entries new)) (sym same) (IsIn-entries n d new change.changed)
    back z (inr was) =
        IsIn-entries z.0 z.1 new
        (change.others z.0 (nat_cmp-apart z.0 n was.1) ∙ entries-IsIn z.0 z.1 old was.0)

    from : (z : ℕ × Package) → IsIn z (upserted number_cmp (n, d) (entries old)) → IsIn z (entries new)
    from z m = back z (IsIn-upserted number_cmp (n, d) z (entries old) m)

-- A key without a value is dropped from the entries.
pub entries-without : (n : ℕ) (old new : Slab Package) → Updates old new n None
    → entries new ≡ dropped (at_number n) (entries old)
entries-without n old new change =
    unique number_cmp number_cmp_total (entries new) (dropped (at_number n) (entries old))
    (IsAscending-entries new)
    (IsAscending-dropped number_cmp (at_number n) (entries old) (IsAscending-entries old)) to from
  where
    elsewhere : (z : ℕ × Package) → IsIn z (entries new) → z.0 ≢ n
    elsewhere z m is =
        let stood : get new n ≡ Some z.1 = ap (get new) (sym is) ∙ entries-IsIn z.0 z.1 new m in
        let none : get new n ≡ None = change.changed in
        absurd (cc)

    to : (z : ℕ × Package) → IsIn z (entries new) → IsIn z (dropped (at_number n) (entries old))
    to z m =
        dropped-IsIn (at_number n) z (entries old)
        (IsIn-entries z.0 z.1 old
        (sym (change.others z.0 (elsewhere z m)) ∙ entries-IsIn z.0 z.1 new m))
        (apart-nat_cmp z.0 n (elsewhere z m))

    from : (z : ℕ × Package) → IsIn z (dropped (at_number n) (entries old)) → IsIn z (entries new)
    from z m =
        let was : IsIn z (entries old) × (is_eq (at_number n z) ≡ false) =
        IsIn-dropped (at_number n) z (entries old) m in
        IsIn-entries z.0 z.1 new
        (change.others z.0 (nat_cmp-apart z.0 n was.1) ∙ entries-IsIn z.0 z.1 old was.0)

-- Lists of rows that are made of values, rows that ascend, and values that are read from rows, one from each.
use Rattle.std.proofs.Common.{◌≡◌, ◌↔◌, ℕ, ◌+◌, ◌<◌, ◌≤◌, List, [], ◌∷◌, ◌++◌, map, drop, length, get_or, refl, sym, ap}
use Rattle.std.proofs.Common.{◌∙◌, subst, append_assoc, inl, inr}
use Rattle.std.specs.Prelude.{Option, Some, None}
use Rattle.std.specs.List.{AllZip}
use Rattle.std.specs.declared.cmp.Ordering.{Ordering}
use Rattle.std.specs.declared.cmp.Ordering.TheVariants.{Less}
use Rattle.std.proofs.lemmas.List.{append-nil, drop_all, drop_more}
use Rattle.std.proofs.lemmas.Option.{same_Some}
use Rattle.portal_base.specs.Ordered.{IsAscending, IsBelowAll}
use Rattle.portal_base.proofs.Unique.{IsIn}

-- ---- lists whose items are made of others

pub same_made : {X Y : Type 0} (f : X → Y) (xs ys : List X)
    → ((x y : X) → IsIn x xs → IsIn y ys → f x ≡ f y → x ≡ y) → map f xs ≡ map f ys → xs ≡ ys
same_made f [] [] one e = refl
same_made f [] (y ∷ ys) one e = absurd (cc)
same_made f (x ∷ xs) [] one e = absurd (cc)
same_made f (x ∷ xs) (y ∷ ys) one e =
    let first : x ≡ y = one x y (inl refl) (inl refl) (cc) in
    let rest : xs ≡ ys = same_made f xs ys (λ w z m n. one w z (inr m) (inr n)) (cc) in
    cc

below-made : {X Y : Type 0} (f : X → Y) (cmp : Y → Y → Ordering) (x : X) (ys : List X)
    → IsBelowAll cmp (f x) (map f ys) ↔ IsBelowAll (λ z w. cmp (f z) (f w)) x ys
below-made f cmp x [] = (λ below. tt, λ below. tt)
below-made f cmp x (y ∷ ys) =
    let rest = below-made f cmp x ys in
    (λ below. (below.0, rest.0 below.1), λ below. (below.0, rest.1 below.1))

-- The made items ascend exactly if the items ascend by what is made of them.
pub ascending-made : {X Y : Type 0} (f : X → Y) (cmp : Y → Y → Ordering) (xs : List X)
    → IsAscending cmp (map f xs) ↔ IsAscending (λ z w. cmp (f z) (f w)) xs
ascending-made f cmp [] = (λ up. tt, λ up. tt)
ascending-made f cmp (x ∷ xs) =
    let first = below-made f cmp x xs in
    let rest = ascending-made f cmp xs in
    (λ up. (first.0 up.0, rest.0 up.1), λ up. (first.1 up.0, rest.1 up.1))

-- ---- one ascending list after another

below_each : {X : Type 0} (cmp : X → X → Ordering) (x : X) (ys : List X) → ((y : X) → IsIn y ys → cmp x y ≡ Less)
    → IsBelowAll cmp x ys
below_each cmp x [] less = tt
below_each cmp x (y ∷ ys) less = (less y (inl refl), below_each cmp x ys (λ z m. less z (inr m)))

below_both : {X : Type 0} (cmp : X → X → Ordering) (x : X) (xs ys : List X) → IsBelowAll cmp x xs
    → ((y : X) → IsIn y ys → cmp x y ≡ Less) → IsBelowAll cmp x (xs ++ ys)
below_both cmp x [] ys below more = below_each cmp x ys more
below_both cmp x (z ∷ xs) ys below more = (below.0, below_both cmp x xs ys below.1 more)

pub IsAscending-append : {X : Type 0} (cmp : X → X → Ordering) (xs ys : List X) → IsAscending cmp xs
    → IsAscending cmp ys → ((x y : X) → IsIn x xs → IsIn y ys → cmp x y ≡ Less) → IsAscending cmp (xs ++ ys)
IsAscending-append cmp [] ys up also less = also
IsAscending-append cmp (x ∷ xs) ys up also less = (
  below_both cmp x xs ys up.0 (λ y m. less x y (inl refl) m),
  IsAscending-append cmp xs ys up.1 also (λ w y m n. less w y (inr m) n),
)

below_front : {X : Type 0} (cmp : X → X → Ordering) (x : X) (xs ys : List X) → IsBelowAll cmp x (xs ++ ys)
    → IsBelowAll cmp x xs
below_front cmp x [] ys below = tt
below_front cmp x (z ∷ xs) ys below = (below.0, below_front cmp x xs ys below.1)

-- Both parts of an ascending list ascend.
pub IsAscending-parts : {X : Type 0} (cmp : X → X → Ordering) (xs ys : List X) → IsAscending cmp (xs ++ ys)
    → IsAscending cmp xs × IsAscending cmp ys
IsAscending-parts cmp [] ys up = (tt, up)
IsAscending-parts cmp (x ∷ xs) ys up =
    let rest = IsAscending-parts cmp xs ys up.1 in ((below_front cmp x xs ys up.0, rest.0), rest.1)

-- ---- a loop over rows

-- The values that are read from all rows are those read so far and some that are read from the rows left.
abbrev pub ReadsOn : {A B : Type 0} → (A → B → Type 0) → List A → List B → ℕ → Type 0
ReadsOn {A} Is before rows i = (kept : List A)
    → AllZip Is kept rows ↔ ((rest : List A) × (kept ≡ before ++ rest) × AllZip Is rest (drop i rows))

pub reads-none : {A B : Type 0} (Is : A → B → Type 0) (rows : List B) → ReadsOn Is [] rows 0
reads-none {A} Is rows kept =
    (λ h. (kept, refl, h), λ w. subst (λ (l : List A). AllZip Is l rows) (sym w.1) w.2)

row_left : {B : Type 0} (rows : List B) (i : ℕ) (row : B) → i < length rows → row ≡ get_or rows i row
    → drop i rows ≡ row ∷ drop (i + 1) rows
row_left rows i row lt is = drop_more rows i row lt ∙ ap (λ r. r ∷ drop (i + 1) rows) (sym is)

pub reads-more : {A B : Type 0} (Is : A → B → Type 0) (before : List A) (rows : List B) (i : ℕ) (row : B)
    (found : Option A) (x : A) → ReadsOn Is before rows i → i < length rows → row ≡ get_or rows i row
    → ((y : A) → (found ≡ Some y) ↔ Is y row) → found ≡ Some x → ReadsOn Is (before ++ x ∷ []) rows (i + 1)
reads-more {A} {B} Is before rows i row found x reads lt is reader some kept = (into, from)
  where
    left : drop i rows ≡ row ∷ drop (i + 1) rows
    left = row_left rows i row lt is

    go : (rest : List A) → kept ≡ before ++ rest → AllZip Is rest (row ∷ drop (i + 1) rows)
        → (more : List A) × (kept ≡ (before ++ x ∷ []) ++ more) × AllZip Is more (drop (i + 1) rows)
    go [] e h = absurd h
    go (y ∷ rest) e h =
        let same : y ≡ x = same_Some y x (sym ((reader y).1 h.0) ∙ some) in
        (rest, e ∙ ap (λ z. before ++ z ∷ rest) same ∙ sym (append_assoc before (x ∷ []) rest), h.1)

    into : AllZip Is kept rows
        → (more : List A) × (kept ≡ (before ++ x ∷ []) ++ more) × AllZip Is more (drop (i + 1) rows)
    into h = let w = (reads kept).0 h in go w.0 w.1 (subst (AllZip Is w.0) left w.2)

    from : (more : List A) × (kept ≡ (before ++ x ∷ []) ++ more) × AllZip Is more (drop (i + 1) rows)
        → AllZip Is kept rows
    from w =
        (reads kept).1 (
          x ∷ w.0,
          w.1 ∙ append_assoc before (x ∷ []) w.0,
          subst (AllZip Is (x ∷ w.0)) (sym left) ((reader x).0 some, w.2),
        )

pub reads-refused : {A B : Type 0} (Is : A → B → Type 0) (before : List A) (rows : List B) (i : ℕ) (row : B)
    (found : Option A) → ReadsOn Is before rows i → i < length rows → row ≡ get_or rows i row
    → ((y : A) → (found ≡ Some y) ↔ Is y row) → found ≡ None → (kept : List A)
    → (None ≡ Some kept) ↔ AllZip Is kept rows
reads-refused {A} {B} Is before rows i row found reads lt is reader none kept =
    (λ e. absurd (cc), λ h. absurd (refused h))
  where
    go : (rest : List A) → AllZip Is rest (row ∷ drop (i + 1) rows) → ⊥
    go [] h = h
    go (y ∷ rest) h = let some = (reader y).1 h.0 in absurd (cc)

    refused : AllZip Is kept rows → ⊥
    refused h =
        let w = (reads kept).0 h in go w.0 (subst (AllZip Is w.0) (row_left rows i row lt is) w.2)

pub reads-all : {A B : Type 0} (Is : A → B → Type 0) (before : List A) (rows : List B) (i : ℕ) (read : List A)
    → ReadsOn Is before rows i → length rows ≤ i → read ≡ before → (kept : List A)
    → (Some read ≡ Some kept) ↔ AllZip Is kept rows
reads-all {A} {B} Is before rows i read reads le whole kept = (into, from)
  where
    none_left : drop i rows ≡ []
    none_left = drop_all i rows le

    into : Some read ≡ Some kept → AllZip Is kept rows
    into e =
        (reads kept).1 (
          [],
          sym (same_Some read kept e) ∙ whole ∙ sym (append-nil before),
          subst (AllZip Is []) (sym none_left) tt,
        )

    go : (rest : List A) → kept ≡ before ++ rest → AllZip Is rest [] → Some read ≡ Some kept
    go [] e h = ap Some (whole ∙ sym (append-nil before) ∙ sym e)
    go (y ∷ rest) e h = absurd h

    from : AllZip Is kept rows → Some read ≡ Some kept
    from h = let w = (reads kept).0 h in go w.0 w.1 (subst (AllZip Is w.0) none_left w.2)

-- ---- rows that are written of values

pub zip-good : {A B : Type 0} (Good : A → Type 0) (write : A → B) (xs : List A) (ys : List B)
    → AllZip (λ x y. Good x × (y ≡ write x)) xs ys → (x : A) → IsIn x xs → Good x
zip-good Good write [] [] h x m = absurd m
zip-good Good write [] (y ∷ ys) h x m = absurd m
zip-good Good write (z ∷ xs) [] h x m = absurd h
zip-good Good write (z ∷ xs) (y ∷ ys) h x (inl same) = subst Good (sym same) h.0.0
zip-good Good write (z ∷ xs) (y ∷ ys) h x (inr m) = zip-good Good write xs ys h.1 x m

pub zip-written : {A B : Type 0} (Good : A → Type 0) (write : A → B) (xs : List A) (ys : List B)
    → AllZip (λ x y. Good x × (y ≡ write x)) xs ys → map write xs ≡ ys
zip-written Good write [] [] h = refl
zip-written Good write [] (y ∷ ys) h = absurd h
zip-written Good write (x ∷ xs) [] h = absurd h
zip-written Good write (x ∷ xs) (y ∷ ys) h =
    let first : y ≡ write x = h.0.1 in let rest : map write xs ≡ ys = zip-written Good write xs ys h.1 in cc

written-itself : {A B : Type 0} (Good : A → Type 0) (write : A → B) (xs : List A) → ((x : A) → IsIn x xs → Good x)
    → AllZip (λ x y. Good x × (y ≡ write x)) xs (map write xs)
written-itself Good write [] good = tt
written-itself Good write (x ∷ xs) good =
    ((good x (inl refl), refl), written-itself Good write xs (λ z m. good z (inr m)))

pub written-zip : {A B : Type 0} (Good : A → Type 0) (write : A → B) (xs : List A) (ys : List B)
    → ((x : A) → IsIn x xs → Good x) → map write xs ≡ ys → AllZip (λ x y. Good x × (y ≡ write x)) xs ys
written-zip Good write xs ys good e =
    subst (AllZip (λ x y. Good x × (y ≡ write x)) xs) e (written-itself Good write xs good)

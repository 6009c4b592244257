-- Lists that are read item by item, and answers of readers.
use Rattle.std.proofs.Common.{◌≡◌, ℕ, ◌+◌, ◌<◌, List, [], ◌∷◌, ◌++◌, length, drop, get_or, append_assoc, map, refl}
use Rattle.std.proofs.Common.{sym, ap, ◌∙◌}
use Rattle.std.specs.Prelude.{All, IfOk, IfSome, Option, Some, None, Result, Ok, Err, option_and_then, option_map}
use Rattle.std.proofs.lemmas.List.Elements.{All-cons, All-head, All-nil, All-tail}
use Rattle.std.proofs.lemmas.List.{at_drop_more}
use Rattle.portal_rows.specs.Readings.{all_read, with_first}

-- ---- options

pub and_then-some : {A B : Type 0} (f : A → Option B) (o : Option A) (y : B) → option_and_then f o ≡ Some y
    → (x : A) × ((o ≡ Some x) × (f x ≡ Some y))
and_then-some f None y e = absurd (cc)
and_then-some f (Some x) y e = (x, (refl, e))

pub map-some : {A B : Type 0} (f : A → B) (o : Option A) (y : B) → option_map f o ≡ Some y
    → (x : A) × ((o ≡ Some x) × (f x ≡ y))
map-some f None y e = absurd (cc)
map-some f (Some x) y e = (x, (refl, cc))

pub first-some : {A : Type 0} (o : Option A) (rest : Option (List A)) (xs : List A) → with_first o rest ≡ Some xs
    → (x : A) × ((ys : List A) × ((o ≡ Some x) × (rest ≡ Some ys) × (x ∷ ys ≡ xs)))
first-some None rest xs e = absurd (cc)
first-some (Some x) None xs e = absurd (cc)
first-some (Some x) (Some ys) xs e = (x, (ys, (refl, refl, cc)))

-- ---- lists

-- each item of the list has the property
abbrev pub Each : {X : Type 0} → (X → Type 0) → List X → Type 0
Each P [] = Unit {0}
Each P (x ∷ xs) = P x × Each P xs

pub each-all : {X : Type 0} (P : X → Type 0) (xs : List X) → All P xs → Each P xs
each-all P [] all = tt
each-all P (x ∷ xs) all = (All-head P x xs all, each-all P xs (All-tail P x xs all))

pub all-each : {X : Type 0} (P : X → Type 0) (xs : List X) → Each P xs → All P xs
all-each P [] each = All-nil P
all-each P (x ∷ xs) each = All-cons P x xs each.0 (all-each P xs each.1)

-- the items that were read, followed by those that the rest is read as
abbrev pub read_on : {A B : Type 0} → (A → Option B) → List B → List A → Option (List B)
read_on read before items = option_map (λ ys. before ++ ys) (all_read read items)

joined : {B : Type 0} (before : List B) (y : B) (rest : Option (List B))
    → option_map (λ ys. before ++ ys) (with_first (Some y) rest) ≡ option_map (λ ys. (before ++ y ∷ []) ++ ys) rest
joined before y None = refl
joined before y (Some ys) = ap Some (sym (append_assoc before (y ∷ []) ys))

pub read_on-some : {A B : Type 0} (read : A → Option B) (before : List B) (items : List A) (i : ℕ) (item : A) (y : B)
    → i < length items → item ≡ get_or items i item → read item ≡ Some y
    → read_on read before (drop i items) ≡ read_on read (before ++ y ∷ []) (drop (i + 1) items)
read_on-some read before items i item y lt is e =
    at_drop_more (read_on read before) items i item lt
    ∙ ap (λ x. option_map (λ ys. before ++ ys) (with_first (read x) (all_read read (drop (i + 1) items)))) (sym is)
    ∙ ap (λ o. option_map (λ ys. before ++ ys) (with_first o (all_read read (drop (i + 1) items)))) e
    ∙ joined before y (all_read read (drop (i + 1) items))

pub read_on-none : {A B : Type 0} (read : A → Option B) (before : List B) (items : List A) (i : ℕ) (item : A)
    → i < length items → item ≡ get_or items i item → read item ≡ None → read_on read before (drop i items) ≡ None
read_on-none read before items i item lt is e =
    at_drop_more (read_on read before) items i item lt
    ∙ ap (λ x. option_map (λ ys. before ++ ys) (with_first (read x) (all_read read (drop (i + 1) items)))) (sym is)
    ∙ ap (λ o. option_map (λ ys. before ++ ys) (with_first o (all_read read (drop (i + 1) items)))) e

-- What each item is read back as, the list of them is read back as.
pub all_read-back : {A B : Type 0} (read : A → Option B) (write : B → A) (Good : B → Type 0)
    → ((y : B) → Good y → read (write y) ≡ Some y) → (ys : List B) → Each Good ys
    → all_read read (map write ys) ≡ Some ys
all_read-back read write Good back [] good = refl
all_read-back read write Good back (y ∷ ys) good =
    ap (λ o. with_first o (all_read read (map write ys))) (back y good.0)
    ∙ ap (with_first (Some y)) (all_read-back read write Good back ys good.1)

-- ---- what a reader finds in a value

-- Each value that a reading gives is good, and so is what was found by it.
pub sound_reading : {X E : Type 0} (r : Result (Option X) E) (reading : Option X) (Good : X → Type 0)
    → ((x : X) → reading ≡ Some x → Good x) → IfOk r (λ found. found ≡ reading) → IfOk r (λ found. IfSome found Good)
sound_reading (Ok None) reading Good good read = tt
sound_reading (Ok (Some x)) reading Good good read = good x (sym read)
sound_reading (Err e) reading Good good read = tt

-- What is written as the value that was found is read from it.
pub complete_reading : {X V E : Type 0} (r : Result (Option X) E) (reading : V → Option X) (write : X → V)
    (value : Option V) (v : V) (Is : X → Type 0) → value ≡ Some v → ((x : X) → Is x → value ≡ Some (write x))
    → ((x : X) → Is x → reading (write x) ≡ Some x) → IfOk r (λ found. found ≡ reading v)
    → IfOk r (λ found. (x : X) → Is x → found ≡ Some x)
complete_reading (Ok found) reading write value v Is there written back read =
    λ x is. let same : v ≡ write x = (let e = written x is in cc) in read ∙ ap reading same ∙ back x is
complete_reading (Err e) reading write value v Is there written back read = tt

-- A premise of two parts, as two premises.
pub premises : {X E : Type 0} (r : Result (Option X) E) (A B : X → Type 0)
    → IfOk r (λ found. (x : X) → A x × B x → found ≡ Some x) → IfOk r (λ found. (x : X) → A x → B x → found ≡ Some x)
premises (Ok found) A B all = λ x a b. all x (a, b)
premises (Err e) A B all = tt

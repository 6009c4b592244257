-- The numbers of a dataset's resources are distinct, at least 1 and below the next number: those that are built from a
-- body without errors, and those after one resource is added, replaced or removed.
use Rattle.std.proofs.Common.{◌≡◌, ◌≢◌, ℕ, zero, suc, ◌+◌, ◌<◌, ◌≤◌, Bool, true, false, cond, not, ◌||◌}
use Rattle.std.proofs.Common.{List, [], ◌∷◌, ◌++◌, get_or, length, codes, refl, arith}
use Rattle.std.proofs.Common.{Option, Some, None, sym, ap, ◌∙◌, subst, inl, inr, ◌⊎◌, true≢false}
use Rattle.std.specs.Prelude.{find, option_map, option_and_then, unwrap_or, is_some, if◌then◌else◌, Result, Ok, Err}
use Rattle.std.specs.Prelude.{map, slice_get, take, drop, set}
use Rattle.std.specs.List.{remove}
use Rattle.std.proofs.Math.ListN.{drop_of_length-le}
use Rattle.std.proofs.Math.Seq.{map-set_same}
use Rattle.std.proofs.lemmas.Bool.{cases_lt}
use Rattle.std.proofs.lemmas.Option.{get_or_from_slice_get}
use Rattle.std.specs.List.{All, AllPairs, list_any}
use Rattle.std.specs.Str.{bytes_eq}
use Rattle.std.proofs.lemmas.List.Elements.{All-append, All-cons, All-drop, All-head, All-map, All-nil}
use Rattle.std.proofs.lemmas.List.Elements.{All-tail, All-take}
use Rattle.std.proofs.lemmas.List.{get_or-map, length-map, take-append-drop}
use Rattle.std.proofs.lemmas.List.Kept.{AllPairs-cons}
use Rattle.std.proofs.lemmas.List.Quantifiers.{all_pairs_push, all_pairs_remove}
use Rattle.std.proofs.lemmas.Slice.Eq.{bytes_eq-Decides}
use Rattle.portal_base.specs.declared.json_value.Json.{Json}
use Rattle.portal_base.specs.declared.kinds.KindFault.{KindFault}
use Rattle.portal_base.specs.declared.kinds.KindFault.TheVariants.{NotDictionary}
use Rattle.portal_base.specs.KeyErrors.{found_value}
use Rattle.portal_base.specs.Kinds.{dictionary_in, message_of, text_at}
use Rattle.portal_base.proofs.Unique.{IsIn}
use Rattle.packages.specs.Named.{resource_address}
use Rattle.packages.specs.Numbered.{AreNumbered}
use Rattle.packages.specs.Resources.{number_of_id, has_id, is_same, resource_id_error, id_error, item_error}
use Rattle.packages.specs.Resources.{items_error, with_position}
use Rattle.packages.specs.Resources.{resource_checks, prefixed_error}
use Rattle.packages.specs.Resources.{kept_number, number_for, next_after_item, numbered, next_after_items}
use Rattle.packages.specs.Texts.{text_given}
use Rattle.packages.specs.Errors.{first_error, or_error, optional_error}
use Rattle.packages.specs.declared.package.Package.{Package}
use Rattle.packages.specs.declared.package.Resource.{Resource}
use Rattle.packages.proofs.NoErrors.{message_unless-none, option_map-none, or_error-none}

-- ---- kept numbers

-- Each number that is kept is at least 1 and below this one.
abbrev pub KeepsBelow : Option Package → ℕ → Type 0
KeepsBelow old low = (item : Json) (n : ℕ) → kept_number old item ≡ Some n → (1 ≤ n) × (n < low)

-- The two items don't keep the same number.
abbrev pub KeepApart : Option Package → Json → Json → Type 0
KeepApart old i j = (n m : ℕ) → kept_number old i ≡ Some n → kept_number old j ≡ Some m → n ≢ m

-- What holds for all numbers holds for the number of the resource that is found.
pub found-number : (P : ℕ → Type 0) (p : Resource → Bool) (rs : List Resource) → All (λ r. P r.number) rs
    → (n : ℕ) → option_map (λ (r : Resource). r.number) (find p rs) ≡ Some n → P n
found-number P p [] all n e = absurd (cc)
found-number P p (r ∷ rs) all n e =
    by (p r) (All-head (λ (s : Resource). P s.number) r rs all)
    (λ f. found-number P p rs (All-tail (λ (s : Resource). P s.number) r rs all) n f) e
  where
    by : (b : Bool) → P r.number → (option_map (λ (s : Resource). s.number) (find p rs) ≡ Some n → P n)
        → option_map (λ (s : Resource). s.number) (cond b (Some r) (find p rs)) ≡ Some n → P n
    by true here go f = let same : r.number ≡ n = cc in subst P same here
    by false here go f = go f

-- The number that is found for an id is that of the id.
found-id : (dataset id : List ℕ) (rs : List Resource) (n : ℕ)
    → option_map (λ (r : Resource). r.number) (find (λ r. bytes_eq (resource_address dataset r.number) id) rs) ≡ Some n
    → resource_address dataset n ≡ id
found-id dataset id [] n e = absurd (cc)
found-id dataset id (r ∷ rs) n e =
    by (bytes_eq (resource_address dataset r.number) id) refl (λ f. found-id dataset id rs n f) e
  where
    by : (b : Bool) → bytes_eq (resource_address dataset r.number) id ≡ b
        → (option_map (λ (s : Resource). s.number)
        (find (λ s. bytes_eq (resource_address dataset s.number) id) rs) ≡ Some n
        → resource_address dataset n ≡ id)
        → option_map (λ (s : Resource). s.number)
        (cond b (Some r) (find (λ s. bytes_eq (resource_address dataset s.number) id) rs)) ≡ Some n
        → resource_address dataset n ≡ id
    by true is go f =
        let same : r.number ≡ n = cc in
        ap (resource_address dataset) (sym same) ∙ (bytes_eq-Decides (resource_address dataset r.number) id).0 is
    by false is go f = go f

-- A kept number is that of the item's id.
pub kept-id : (old : Package) (item : Json) (n : ℕ) → kept_number (Some old) item ≡ Some n
    → (id : List ℕ) × ((text_given (codes "id") item ≡ Some id) × (number_of_id old id ≡ Some n))
kept-id old item n e = by (text_given (codes "id") item) refl e
  where
    by : (given : Option (List ℕ)) → text_given (codes "id") item ≡ given
        → option_and_then (number_of_id old) given ≡ Some n
        → (id : List ℕ) × ((text_given (codes "id") item ≡ Some id) × (number_of_id old id ≡ Some n))
    by None is f = absurd (cc)
    by (Some id) is f = (id, (is, f))

-- A new dataset keeps no number.
pub KeepsBelow-new : (low : ℕ) → KeepsBelow None low
KeepsBelow-new low item n e = absurd (cc)

-- An old dataset's kept numbers are those of its resources.
pub KeepsBelow-old : (old : Package) → AreNumbered old → KeepsBelow (Some old) old.next_resource
KeepsBelow-old old numbered item n e =
    let id = kept-id old item n e in
    found-number (λ m. (1 ≤ m) × (m < old.next_resource))
    (λ r. bytes_eq (resource_address old.id r.number) id.0) old.resources numbered.within n id.1.1

-- ---- without errors no number is kept twice

given-read : (read : Result (Option (List ℕ)) KindFault) (id : List ℕ) → found_value read ≡ Some id
    → read ≡ Ok (Some id)
given-read (Ok None) id e = absurd (cc)
given-read (Ok (Some text)) id e = ap (λ t. Ok (Some t)) (cc)
given-read (Err fault) id e = absurd (cc)

not-true : (b : Bool) → not b ≡ true → b ≡ false
not-true true e = absurd (cc)
not-true false e = refl

any-none : {X : Type 0} (p : X → Bool) (xs : List X) (x : X) → list_any p xs ≡ false → IsIn x xs → p x ≡ false
any-none p [] x none m = absurd m
any-none {X} p (y ∷ ys) x none m = by (p y) refl none m (λ h n. any-none p ys x h n)
  where
    by : (b : Bool) → p y ≡ b → (b || list_any p ys) ≡ false → (x ≡ y) ⊎ IsIn x ys
        → (list_any p ys ≡ false → IsIn x ys → p x ≡ false) → p x ≡ false
    by true is h m go = absurd (cc)
    by false is h (inl e) go = ap p e ∙ is
    by false is h (inr n) go = go h n

-- If an item's id has no error, the item doesn't keep a number of an item before.
id_error-apart : (old : Option Package) (before : List Json) (i j : Json) → IsIn i before → id_error old before j ≡ None
    → KeepApart old i j
id_error-apart None before i j m no_errors n k kept_i kept_j = absurd (cc)
id_error-apart (Some old) before i j m no_errors n k kept_i kept_j =
    let first = kept-id old i n kept_i in
    let second = kept-id old j k kept_j in
    let read : text_at (codes "id") j ≡ Ok (Some second.0) = given-read (text_at (codes "id") j) second.0 second.1.0 in
    let rules : resource_id_error old before second.0 ≡ None =
    sym (ap (optional_error (resource_id_error old before)) read) ∙ no_errors in
    let unrepeated : list_any (has_id second.0) before ≡ false =
    not-true (list_any (has_id second.0) before)
    (message_unless-none _ (codes "Repeated resource") (or_error-none _ _ rules).1) in
    let apart : bytes_eq first.0 second.0 ≡ false =
    sym (ap (is_same second.0) first.1.0) ∙ any-none (has_id second.0) before i unrepeated m in
    λ same.
    let one : first.0 ≡ second.0 =
    sym (found-id old.id first.0 old.resources n first.1.1)
    ∙ ap (resource_address old.id) same
    ∙ found-id old.id second.0 old.resources k second.1.1 in
    let equal : bytes_eq first.0 second.0 ≡ true = (bytes_eq-Decides first.0 second.0).1 one in
    absurd (true≢false (sym equal ∙ apart))

-- If an item has no error, its id has none.
item_error-id : (old : Option Package) (before : List Json) (item : Json) → item_error old before item ≡ None
    → id_error old before item ≡ None
item_error-id old before item e = by (is_some (dictionary_in item)) e
  where
    by : (b : Bool)
        → (if b then or_error (first_error prefixed_error (resource_checks item))
        (prefixed_error (codes "id", id_error old before item))
        else Some (message_of NotDictionary)) ≡ None
        → id_error old before item ≡ None
    by true f = option_map-none _ (id_error old before item)
        (or_error-none (first_error prefixed_error (resource_checks item)) _ f).1
    by false f = absurd (cc)

IsIn-before : {X : Type 0} (z : X) (xs ys : List X) → IsIn z xs → IsIn z (xs ++ ys)
IsIn-before z [] ys m = absurd m
IsIn-before z (x ∷ xs) ys (inl e) = inl e
IsIn-before z (x ∷ xs) ys (inr n) = inr (IsIn-before z xs ys n)

IsIn-last : {X : Type 0} (z : X) (xs : List X) → IsIn z (xs ++ z ∷ [])
IsIn-last z [] = inl refl
IsIn-last z (x ∷ xs) = inr (IsIn-last z xs)

items_error-apart_from : (old : Option Package) (before items : List Json) (i : Json) → IsIn i before
    → items_error old before items ≡ None → All (KeepApart old i) items
items_error-apart_from old before [] i m no_errors = All-nil (KeepApart old i)
items_error-apart_from old before (j ∷ js) i m no_errors =
    let both =
    or_error-none (option_map (with_position (length before + 1)) (item_error old before j))
    (items_error old (before ++ j ∷ []) js) no_errors in
    let first : item_error old before j ≡ None =
    option_map-none (with_position (length before + 1)) (item_error old before j) both.0 in
    All-cons (KeepApart old i) j js (id_error-apart old before i j m (item_error-id old before j first))
    (items_error-apart_from old (before ++ j ∷ []) js i (IsIn-before i before (j ∷ []) m) both.1)

-- If the items have no error, no two of them keep the same number.
pub items_error-apart : (old : Option Package) (before items : List Json) → items_error old before items ≡ None
    → AllPairs (KeepApart old) items
items_error-apart old before [] no_errors = λ i j d lt within. absurd (omega arith)
items_error-apart old before (j ∷ js) no_errors =
    let both =
    or_error-none (option_map (with_position (length before + 1)) (item_error old before j))
    (items_error old (before ++ j ∷ []) js) no_errors in
    AllPairs-cons (KeepApart old) j js
    (items_error-apart_from old (before ++ j ∷ []) js j (IsIn-last j before) both.1)
    (items_error-apart old (before ++ j ∷ []) js both.1)

-- ---- the numbers of the resources

-- The item keeps a number, and the next number stays; or it takes the next number, which rises by one.
abbrev pub Keeps : Option Package → ℕ → Json → Type 0
Keeps old next item =
    (n : ℕ) × ((kept_number old item ≡ Some n) × ((number_for old next item ≡ n) ×
    (next_after_item old next item ≡ next)))

abbrev pub TakesNext : Option Package → ℕ → Json → Type 0
TakesNext old next item = (number_for old next item ≡ next) × (next_after_item old next item ≡ next + 1)

pub number_for-cases : (old : Option Package) (next : ℕ) (item : Json) → Keeps old next item ⊎ TakesNext old next item
number_for-cases old next item = by (kept_number old item) refl
  where
    by : (kept : Option ℕ) → kept_number old item ≡ kept
        → ((n : ℕ) × ((kept_number old item ≡ Some n)
        × ((unwrap_or kept next ≡ n) × (cond (is_some kept) next (next + 1) ≡ next))))
        ⊎ ((unwrap_or kept next ≡ next) × (cond (is_some kept) next (next + 1) ≡ next + 1))
    by None is = inr (refl, refl)
    by (Some n) is = inl (n, (is, (refl, refl)))

pub next_after_item-le : (old : Option Package) (next : ℕ) (item : Json) → next ≤ next_after_item old next item
next_after_item-le old next item = by (number_for-cases old next item)
  where
    by : Keeps old next item ⊎ TakesNext old next item → next ≤ next_after_item old next item
    by (inl kept) = omega (arith, kept.1.1.1)
    by (inr new) = omega (arith, new.1)

pub next_after_items-le : (old : Option Package) (next : ℕ) (items : List Json) → next ≤ next_after_items old next items
next_after_items-le old next [] = omega arith
next_after_items-le old next (item ∷ items) =
    omega (arith, next_after_item-le old next item, next_after_items-le old (next_after_item old next item) items)

-- The numbers are at least 1 and below the next number.
pub numbered-within : (old : Option Package) (low next : ℕ) (items : List Json) → KeepsBelow old low → 1 ≤ next
    → low ≤ next
    → All (λ r. (1 ≤ r.number) × (r.number < next_after_items old next items)) (numbered old next items)
numbered-within old low next [] below one le = All-nil (λ (r : Resource). (1 ≤ r.number) × (r.number < next))
numbered-within old low next (item ∷ items) below one le =
    let further = next_after_item-le old next item in
    let last = next_after_items-le old (next_after_item old next item) items in
    All-cons (λ (r : Resource). (1 ≤ r.number) × (r.number < next_after_items old next (item ∷ items))) _ _
    (here (number_for-cases old next item))
    (numbered-within old low (next_after_item old next item) items below (omega (arith, further))
    (omega (arith, further)))
  where
    here : Keeps old next item ⊎ TakesNext old next item
        → (1 ≤ number_for old next item)
        × (number_for old next item < next_after_items old (next_after_item old next item) items)
    here (inl kept) =
        let bounds = below item kept.0 kept.1.0 in
        let last = next_after_items-le old (next_after_item old next item) items in
        (omega (arith, kept.1.1.0, bounds.0), omega (arith, kept.1.1.0, kept.1.1.1, bounds.1, last))
    here (inr new) =
        let last = next_after_items-le old (next_after_item old next item) items in
        (omega (arith, new.0), omega (arith, new.0, new.1, last))

-- the relation of the first item to the others, and that among the others
All-first : {X : Type 0} (R : X → X → Type 0) (x : X) (xs : List X) → AllPairs R (x ∷ xs) → All (R x) xs
All-first R x xs pairs = λ k d lt. pairs zero (suc k) d (omega arith) (omega arith)

AllPairs-rest : {X : Type 0} (R : X → X → Type 0) (x : X) (xs : List X) → AllPairs R (x ∷ xs) → AllPairs R xs
AllPairs-rest R x xs pairs = λ i j d lt within. pairs (suc i) (suc j) d (omega arith) (omega arith)

-- A number below the next one isn't that of a later item, if none of these keeps it.
apart_from : (old : Option Package) (low next : ℕ) (items : List Json) → KeepsBelow old low → low ≤ next
    → (h : ℕ) → h < next
    → All (λ item. (m : ℕ) → kept_number old item ≡ Some m → h ≢ m) items
    → All (λ r. h ≢ r.number) (numbered old next items)
apart_from old low next [] below le h lt keep = All-nil (λ (r : Resource). h ≢ r.number)
apart_from old low next (item ∷ items) below le h lt keep =
    let further = next_after_item-le old next item in
    All-cons (λ (r : Resource). h ≢ r.number) _ _
    (here (number_for-cases old next item)
    (All-head (λ (j : Json). (m : ℕ) → kept_number old j ≡ Some m → h ≢ m) item items keep))
    (apart_from old low (next_after_item old next item) items below (omega (arith, further)) h (omega (arith, further))
    (All-tail (λ (j : Json). (m : ℕ) → kept_number old j ≡ Some m → h ≢ m) item items keep))
  where
    here : Keeps old next item ⊎ TakesNext old next item → ((m : ℕ) → kept_number old item ≡ Some m → h ≢ m)
        → h ≢ number_for old next item
    here (inl kept) not-kept = λ same. not-kept kept.0 kept.1.0 (same ∙ kept.1.1.0)
    here (inr new) not-kept = λ same. absurd (omega (arith, new.0))

-- No two resources have the same number.
pub numbered-distinct : (old : Option Package) (low next : ℕ) (items : List Json) → KeepsBelow old low → low ≤ next
    → AllPairs (KeepApart old) items → AllPairs (λ r s. r.number ≢ s.number) (numbered old next items)
numbered-distinct old low next [] below le apart = λ i j d lt within. absurd (omega arith)
numbered-distinct old low next (item ∷ items) below le apart =
    let further = next_after_item-le old next item in
    AllPairs-cons (λ (r s : Resource). r.number ≢ s.number) _ _
    (here (number_for-cases old next item) (All-first (KeepApart old) item items apart))
    (numbered-distinct old low (next_after_item old next item) items below (omega (arith, further))
    (AllPairs-rest (KeepApart old) item items apart))
  where
    here : Keeps old next item ⊎ TakesNext old next item → All (KeepApart old item) items
        → All (λ r. number_for old next item ≢ r.number) (numbered old (next_after_item old next item) items)
    here (inl kept) apart =
        let bounds = below item kept.0 kept.1.0 in
        let further = next_after_item-le old next item in
        apart_from old low (next_after_item old next item) items below (omega (arith, further))
        (number_for old next item)
        (omega (arith, kept.1.1.0, bounds.1, further))
        (λ k d lt m e same. apart k d lt kept.0 m kept.1.0 e (sym kept.1.1.0 ∙ same))
    here (inr new) apart =
        apart_from old low (next_after_item old next item) items below (omega (arith, new.1)) (number_for old next item)
        (omega (arith, new.0, new.1))
        (λ k d lt m e same. let bounds = below _ m e in absurd (omega (arith, bounds.1, new.0)))

-- ---- one resource is added, replaced or removed

-- what holds for the mapped items, stated for the items
All-from_map : {X Y : Type 0} (P : Y → Type 0) (f : X → Y) (xs : List X) → All P (map f xs) → All (λ x. P (f x)) xs
All-from_map P f xs all =
    λ k d lt. subst P (get_or-map f xs k d (f d) lt) (all k (f d) (omega (arith, lt, length-map xs f)))

AllPairs-from_map : {X Y : Type 0} (R : Y → Y → Type 0) (f : X → Y) (xs : List X) → AllPairs R (map f xs)
    → AllPairs (λ x y. R (f x) (f y)) xs
AllPairs-from_map R f [] pairs = λ i j d lt within. absurd (omega arith)
AllPairs-from_map R f (x ∷ xs) pairs =
    AllPairs-cons (λ y z. R (f y) (f z)) x xs
    (All-from_map (R (f x)) f xs (All-first R (f x) (map f xs) pairs))
    (AllPairs-from_map R f xs (AllPairs-rest R (f x) (map f xs) pairs))

AllPairs-map : {X Y : Type 0} (R : Y → Y → Type 0) (f : X → Y) (xs : List X) → AllPairs (λ x y. R (f x) (f y)) xs
    → AllPairs R (map f xs)
AllPairs-map R f [] pairs = λ i j d lt within. absurd (omega arith)
AllPairs-map R f (x ∷ xs) pairs =
    AllPairs-cons R (f x) (map f xs)
    (All-map (R (f x)) f xs (All-first (λ y z. R (f y) (f z)) x xs pairs))
    (AllPairs-map R f xs (AllPairs-rest (λ y z. R (f y) (f z)) x xs pairs))

-- the list without the item at a position, if there is one
AllPairs-remove : {X : Type 0} (R : X → X → Type 0) (position : ℕ) (xs : List X) → AllPairs R xs
    → AllPairs R (remove xs position)
AllPairs-remove {X} R position xs pairs = by (cases_lt position (length xs))
  where
    by : (position < length xs) ⊎ (length xs ≤ position) → AllPairs R (remove xs position)
    by (inl within) = all_pairs_remove R xs position within pairs
    by (inr past) =
        let further : length xs ≤ suc position = omega (arith, past) in
        let rest : drop (suc position) xs ≡ [] = drop_of_length-le xs further in
        let all : take position xs ++ drop (suc position) xs ≡ xs =
        ap (λ ys. take position xs ++ ys) (rest ∙ sym (drop_of_length-le xs past)) ∙ take-append-drop position xs in
        subst (AllPairs R) (sym all) pairs

-- The numbers stay below the next number if that doesn't fall.
within-next : (old new : Package) → AreNumbered old → old.next_resource ≤ new.next_resource
    → All (λ r. (1 ≤ r.number) × (r.number < new.next_resource)) old.resources
within-next old new stood le =
    λ k d lt. let bounds = stood.within k d lt in (bounds.0, omega (arith, bounds.1, le))

-- Resources with the same numbers stay numbered, whatever else changes.
pub numbered_with_same_numbers : (old new : Package) → AreNumbered old
    → map (λ r. r.number) new.resources ≡ map (λ r. r.number) old.resources
    → new.next_resource ≡ old.next_resource → AreNumbered new
numbered_with_same_numbers old new stood same next =
    let number : Resource → ℕ = λ r. r.number in
    let Fits : ℕ → Type 0 = λ n. (1 ≤ n) × (n < new.next_resource) in
    let fit : All Fits (map number old.resources) =
    All-map Fits number old.resources (within-next old new stood (omega (arith, next))) in
    let apart : AllPairs (λ n m. n ≢ m) (map number old.resources) =
    AllPairs-map (λ n m. n ≢ m) number old.resources stood.distinct in
    record {
      next = omega (arith, next, stood.next);
      within = All-from_map Fits number new.resources (subst (All Fits) (sym same) fit);
      distinct =
          AllPairs-from_map (λ n m. n ≢ m) number new.resources (subst (AllPairs (λ n m. n ≢ m)) (sym same) apart);
    }

-- Resources stay numbered if one with the next number is added.
pub numbered_with_one_more : (old new : Package) (r : Resource) → AreNumbered old → r.number ≡ old.next_resource
    → new.resources ≡ old.resources ++ r ∷ [] → new.next_resource ≡ old.next_resource + 1 → AreNumbered new
numbered_with_one_more old new r stood number more next =
    let Fits : Resource → Type 0 = λ s. (1 ≤ s.number) × (s.number < new.next_resource) in
    let last : Fits r = (omega (arith, number, stood.next), omega (arith, number, next)) in
    let fit : All Fits (old.resources ++ r ∷ []) =
    All-append Fits old.resources (r ∷ []) (within-next old new stood (omega (arith, next)))
    (All-cons Fits r [] last (All-nil Fits)) in
    let Apart : Resource → Resource → Type 0 = λ s t. s.number ≢ t.number in
    let apart : AllPairs Apart (old.resources ++ r ∷ []) =
    all_pairs_push Apart old.resources r stood.distinct
    (λ k d lt same. let bounds = stood.within k d lt in absurd (omega (arith, bounds.1, same, number))) in
    record {
      next = omega (arith, next);
      within = subst (All Fits) (sym more) fit;
      distinct = subst (AllPairs Apart) (sym more) apart;
    }

-- They stay numbered if the one at a position is replaced by one with the same number.
pub numbered_with_replacement_at : (old new : Package) (position : ℕ) (there r : Resource) → AreNumbered old
    → slice_get old.resources position ≡ Some there → r.number ≡ there.number
    → new.resources ≡ set old.resources position r → new.next_resource ≡ old.next_resource → AreNumbered new
numbered_with_replacement_at old new position there r stood is_at same replaced next =
    let number : Resource → ℕ = λ s. s.number in
    let here : get_or old.resources position r ≡ there = get_or_from_slice_get old.resources position there r is_at in
    numbered_with_same_numbers old new stood
    (ap (map number) replaced ∙ map-set_same number old.resources position r r (same ∙ sym (ap number here))) next

-- They stay numbered if the one at a position is removed.
pub numbered_without_resource_at : (old new : Package) (position : ℕ) → AreNumbered old
    → new.resources ≡ remove old.resources position → new.next_resource ≡ old.next_resource → AreNumbered new
numbered_without_resource_at old new position stood kept next =
    let Fits : Resource → Type 0 = λ r. (1 ≤ r.number) × (r.number < new.next_resource) in
    let Apart : Resource → Resource → Type 0 = λ r s. r.number ≢ s.number in
    let fit : All Fits old.resources = within-next old new stood (omega (arith, next)) in
    record {
      next = omega (arith, next, stood.next);
      within =
          subst (All Fits) (sym kept)
          (All-append Fits (take position old.resources) (drop (suc position) old.resources)
          (All-take Fits position old.resources fit) (All-drop Fits (suc position) old.resources fit));
      distinct = subst (AllPairs Apart) (sym kept) (AllPairs-remove Apart position old.resources stood.distinct);
    }

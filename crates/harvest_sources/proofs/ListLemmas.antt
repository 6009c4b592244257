-- A stable sort and the removal of repeats give the first item of each IRI, and the names so far tell which repeat.
use Rattle.std.proofs.Common.{◌≡◌, ℕ, Bool, true, false, cond, not, ◌&&◌, ◌||◌, List, [], ◌∷◌, ◌++◌, map}
use Rattle.std.proofs.Common.{Some, refl, sym, ap, subst, ◌∙◌, inl, inr}
use Rattle.std.specs.Prelude.{filter, nat_eq}
use Rattle.std.specs.declared.cmp.Ordering.{Ordering}
use Rattle.std.specs.declared.cmp.Ordering.TheVariants.{Less, Equal, Greater}
use Rattle.std.specs.Ordering.{eq_by_cmp, is_eq, is_lt, nat_cmp, ordering_reverse}
use Rattle.std.specs.Cmp.{IsTotalOrder}
use Rattle.std.specs.Cmp.Lexicographic.{nat_list_cmp_total, pointwise, slice_cmp, texts_ties}
use Rattle.std.specs.List.{AllByRecursion, dedup, dedup_from, list_any}
use Rattle.std.specs.List.Sorted.{IsSortedBy, IsStableBy, IsStrictlySortedBy, ties}
use Rattle.std.specs.Str.{bytes_eq}
use Rattle.std.proofs.lemmas.Cmp.{alike_right, on_total, tied_itself}
use Rattle.std.proofs.lemmas.List.{map-append}
use Rattle.std.proofs.lemmas.List.Elements.{filter_agree}
use Rattle.std.proofs.lemmas.List.Folds.{list_any-append}
use Rattle.std.proofs.lemmas.List.Kept.{IsStrictlySortedBy-dedup}
use Rattle.std.proofs.lemmas.Map.Text.{is_eq-slice_cmp}
use Rattle.portal_base.specs.Ordered.{IsAscending, IsBelowAll, IsKey, found, upserted}
use Rattle.portal_base.proofs.Filtered.{find-filter}
use Rattle.portal_base.proofs.Removed.{is_eq_true}
use Rattle.portal_base.proofs.Unique.{IsIn, below_in, unique}
use Rattle.portal_base.proofs.Upserted.{IsAscending-upserted, found-upserted, found-upserted_other}
use Rattle.harvest_records.specs.Names.{harvested_name}
use Rattle.harvest_sources.specs.Listings.{first_items, first_progress, has_lesser_namesake, item_cmp, object_of}
use Rattle.harvest_sources.specs.declared.listing.ListedObject.{ListedObject}
use Rattle.harvest_sources.specs.declared.step.Item.{Item}

pub item_cmp_total : IsTotalOrder item_cmp
item_cmp_total = on_total (λ item. item.iri) nat_list_cmp_total

-- ---- lists that ascend

IsBelowAll-from : {X : Type 0} (cmp : X → X → Ordering) (x : X) (ys : List X)
    → AllByRecursion (λ y. cmp x y ≡ Less) ys → IsBelowAll cmp x ys
IsBelowAll-from cmp x [] below = tt
IsBelowAll-from cmp x (y ∷ ys) below = (below.0, IsBelowAll-from cmp x ys below.1)

IsAscending-from : {X : Type 0} (cmp : X → X → Ordering) (xs : List X) → IsStrictlySortedBy cmp xs
    → IsAscending cmp xs
unfolding IsStrictlySortedBy
IsAscending-from cmp [] up = tt
IsAscending-from cmp (x ∷ xs) up = (IsBelowAll-from cmp x xs up.0, IsAscending-from cmp xs up.1)

-- The item that is found is in the list.
IsIn-found : {X : Type 0} (at : X → Ordering) (x : X) (xs : List X) → found at xs ≡ Some x → IsIn x xs
IsIn-found at x [] h = absurd (cc)
IsIn-found {X} at x (y ∷ ys) h = by (is_eq (at y)) h (IsIn-found at x ys)
  where
    by : (b : Bool) → cond b (Some y) (found at ys) ≡ Some x → (found at ys ≡ Some x → IsIn x ys) → IsIn x (y ∷ ys)
    by true e go = let same : y ≡ x = cc in inl (sym same)
    by false e go = inr (go e)

-- An item of a list that ascends is found.
found-IsIn : {X : Type 0} (cmp : X → X → Ordering) (o : IsTotalOrder cmp) (x : X) (xs : List X) → IsAscending cmp xs
    → IsIn x xs → found (λ y. cmp y x) xs ≡ Some x
found-IsIn cmp o x [] up m = absurd m
found-IsIn {X} cmp o x (y ∷ ys) up (inl e) =
    let here : cmp y x ≡ Equal = subst (λ z. cmp z x ≡ Equal) e (tied_itself o x) in
    ap (λ r. cond (is_eq r) (Some y) (found (λ z. cmp z x) ys)) here ∙ ap Some (sym e)
found-IsIn {X} cmp o x (y ∷ ys) up (inr m) =
    ap (λ r. cond (is_eq r) (Some y) (found (λ z. cmp z x) ys)) (below_in cmp y x ys up.0 m)
    ∙ found-IsIn cmp o x ys up.1 m

-- Lists that ascend and in which the same is found at each item are the same.
found_same : {X : Type 0} (cmp : X → X → Ordering) (o : IsTotalOrder cmp) (xs ys : List X) → IsAscending cmp xs
    → IsAscending cmp ys → ((z : X) → found (λ y. cmp y z) xs ≡ found (λ y. cmp y z) ys) → xs ≡ ys
found_same cmp o xs ys ux uy same =
    unique cmp o xs ys ux uy
    (λ z m. IsIn-found (λ y. cmp y z) z ys (sym (same z) ∙ found-IsIn cmp o z xs ux m))
    (λ z m. IsIn-found (λ y. cmp y z) z xs (same z ∙ found-IsIn cmp o z ys uy m))

-- ---- the first item of each IRI

pub IsAscending-first_items : (items : List Item) → IsAscending item_cmp (first_items items)
IsAscending-first_items [] = tt
IsAscending-first_items (item ∷ items) =
    IsAscending-upserted item_cmp item_cmp_total item (first_items items) (IsAscending-first_items items)

-- Items with one key are compared alike with any other.
key_of : {X : Type 0} (cmp : X → X → Ordering) (o : IsTotalOrder cmp) (z : X) → IsKey cmp (λ y. cmp y z)
key_of cmp o z x y e = sym (alike_right o x z y e)

-- What is found among the first items is the first that is found.
found-first_items : (z : Item) (items : List Item)
    → found (λ y. item_cmp y z) (first_items items) ≡ found (λ y. item_cmp y z) items
found-first_items z [] = refl
found-first_items z (item ∷ items) = by (is_eq (item_cmp item z)) refl (found-first_items z items)
  where
    by : (b : Bool) → is_eq (item_cmp item z) ≡ b
        → found (λ y. item_cmp y z) (first_items items) ≡ found (λ y. item_cmp y z) items
        → found (λ y. item_cmp y z) (upserted item_cmp item (first_items items))
        ≡ cond b (Some item) (found (λ y. item_cmp y z) items)
    by true here rest =
        found-upserted item_cmp (λ y. item_cmp y z) (key_of item_cmp item_cmp_total z) item (first_items items)
        (is_eq_true (item_cmp item z) here)
    by false other rest =
        found-upserted_other item_cmp item_cmp_total (λ y. item_cmp y z) (key_of item_cmp item_cmp_total z) item
        (first_items items) other
        ∙ rest

-- ---- a stable sort and the removal of repeats

module _ {X : Type 0} (cmp : X → X → Ordering) (o : IsTotalOrder cmp) where
  -- the removal of items that are equal to the one that was kept last, by the comparison
  abbrev kept_from : X → List X → List X
  kept_from k xs = dedup_from (eq_by_cmp cmp) k xs

  -- An equal item that follows isn't found.
  found-kept_from : (z k : X) (xs : List X) → found (λ y. cmp y z) (kept_from k xs) ≡ found (λ y. cmp y z) (k ∷ xs)
  found-kept_from z k [] = refl
  found-kept_from z k (x ∷ xs) =
      by (eq_by_cmp cmp x k) refl (found-kept_from z k xs) (found-kept_from z x xs)
    where
      alike : cmp x k ≡ Equal → cmp x z ≡ cmp k z
      alike e = o.congr x k z e

      skipped : (b : Bool) → is_eq (cmp x z) ≡ b → is_eq (cmp k z) ≡ b
          → cond b (Some k) (found (λ y. cmp y z) xs)
          ≡ cond b (Some k) (cond (is_eq (cmp x z)) (Some x) (found (λ y. cmp y z) xs))
      skipped true is too = refl
      skipped false is too = sym (ap (λ b. cond b (Some x) (found (λ y. cmp y z) xs)) is)

      by : (b : Bool) → eq_by_cmp cmp x k ≡ b
          → found (λ y. cmp y z) (kept_from k xs) ≡ found (λ y. cmp y z) (k ∷ xs)
          → found (λ y. cmp y z) (kept_from x xs) ≡ found (λ y. cmp y z) (x ∷ xs)
          → found (λ y. cmp y z) (cond b (kept_from k xs) (k ∷ kept_from x xs)) ≡ found (λ y. cmp y z) (k ∷ x ∷ xs)
      by true is rest next =
          rest ∙ skipped (is_eq (cmp k z)) (ap is_eq (alike (is_eq_true (cmp x k) is))) refl
      by false is rest next = ap (λ r. cond (is_eq (cmp k z)) (Some k) r) next

  found-dedup : (z : X) (xs : List X) → found (λ y. cmp y z) (dedup (eq_by_cmp cmp) xs) ≡ found (λ y. cmp y z) xs
  found-dedup z [] = refl
  found-dedup z (x ∷ xs) = found-kept_from z x xs

  -- Items that are neither less nor greater are equal.
  tied : (z y : X) → ties (λ x w. is_lt (cmp x w)) z y ≡ is_eq (cmp y z)
  tied z y = ap (λ r. not (is_lt r) && not (is_lt (cmp y z))) (o.antisymm z y) ∙ by (cmp y z)
    where
      by : (r : Ordering) → (not (is_lt (ordering_reverse r)) && not (is_lt r)) ≡ is_eq r
      by Less = refl
      by Equal = refl
      by Greater = refl

  -- A stable sort keeps the first of equal items first.
  found-stable : (z : X) (xs ys : List X) → IsStableBy (λ x w. is_lt (cmp x w)) xs ys
      → found (λ y. cmp y z) ys ≡ found (λ y. cmp y z) xs
  found-stable z xs ys stable =
      let test : X → Bool = λ y. is_eq (cmp y z) in
      let tie : X → Bool = ties (λ x w. is_lt (cmp x w)) z in
      let same : filter test ys ≡ filter test xs =
      filter_agree test tie (λ y. sym (tied z y)) ys ∙ stable z ∙ filter_agree tie test (tied z) xs in
      sym (find-filter test test ys (λ x no. no)) ∙ ap (found (λ y. cmp y z)) same
      ∙ find-filter test test xs (λ x no. no)

-- Tests that agree remove the same repeats.
dedup_from_agree : {X : Type 0} (p q : X → X → Bool) → ((x y : X) → p x y ≡ q x y) → (k : X) (xs : List X)
    → dedup_from p k xs ≡ dedup_from q k xs
dedup_from_agree p q same k [] = refl
dedup_from_agree p q same k (x ∷ xs) =
    ap (λ b. cond b (dedup_from p k xs) (k ∷ dedup_from p x xs)) (same x k)
    ∙ ap (λ l. cond (q x k) l (k ∷ dedup_from p x xs)) (dedup_from_agree p q same k xs)
    ∙ ap (λ l. cond (q x k) (dedup_from q k xs) (k ∷ l)) (dedup_from_agree p q same x xs)

dedup_agree : {X : Type 0} (p q : X → X → Bool) → ((x y : X) → p x y ≡ q x y) → (xs : List X)
    → dedup p xs ≡ dedup q xs
dedup_agree p q same [] = refl
dedup_agree p q same (x ∷ xs) = dedup_from_agree p q same x xs

-- A sort by the IRI that keeps the order of equal ones, and the removal of repeats.
pub first_items-sorted : (items sorted : List Item) → IsSortedBy (λ x y. is_lt (item_cmp x y)) sorted
    → IsStableBy (λ x y. is_lt (item_cmp x y)) items sorted
    → dedup (λ x y. pointwise nat_eq x.iri y.iri) sorted ≡ first_items items
first_items-sorted items sorted up stable =
    dedup_agree (λ x y. pointwise nat_eq x.iri y.iri) (eq_by_cmp item_cmp) (λ x y. texts_ties x.iri y.iri) sorted
    ∙ found_same item_cmp item_cmp_total (dedup (eq_by_cmp item_cmp) sorted) (first_items items)
    (IsAscending-from item_cmp _ (IsStrictlySortedBy-dedup item_cmp_total (λ x y. refl) sorted up))
    (IsAscending-first_items items)
    (λ z. found-dedup item_cmp item_cmp_total z sorted ∙ found-stable item_cmp item_cmp_total z items sorted stable
    ∙ sym (found-first_items z items))

-- ---- names so far

-- No item that x is below is below x.
none_lesser : {X : Type 0} (cmp : X → X → Ordering) (o : IsTotalOrder cmp) (p : X → Bool) (x : X) (ys : List X)
    → IsBelowAll cmp x ys → list_any (λ y. is_lt (cmp y x) && p y) ys ≡ false
none_lesser cmp o p x [] below = refl
none_lesser {X} cmp o p x (y ∷ ys) below =
    let above : cmp y x ≡ Greater = o.antisymm y x ∙ ap ordering_reverse below.0 in
    ap (λ r. (is_lt r && p y) || list_any (λ z. is_lt (cmp z x) && p z) ys) above ∙ none_lesser cmp o p x ys below.1

IsIn-middle : {X : Type 0} (x : X) (done rest : List X) → IsIn x (done ++ x ∷ rest)
IsIn-middle x [] rest = inl refl
IsIn-middle x (d ∷ ds) rest = inr (IsIn-middle x ds rest)

-- The items below x of a list that ascends are those before x.
lesser_before : {X : Type 0} (cmp : X → X → Ordering) (o : IsTotalOrder cmp) (p : X → Bool) (x : X)
    (done rest : List X) → IsAscending cmp (done ++ x ∷ rest)
    → list_any (λ y. is_lt (cmp y x) && p y) (done ++ x ∷ rest) ≡ list_any p done
lesser_before {X} cmp o p x [] rest up =
    ap (λ r. (is_lt r && p x) || list_any (λ z. is_lt (cmp z x) && p z) rest) (tied_itself o x)
    ∙ none_lesser cmp o p x rest up.0
lesser_before {X} cmp o p x (d ∷ ds) rest up =
    ap (λ r. (is_lt r && p d) || list_any (λ z. is_lt (cmp z x) && p z) (ds ++ x ∷ rest))
    (below_in cmp d x (ds ++ x ∷ rest) up.0 (IsIn-middle x ds rest))
    ∙ ap (λ b. p d || b) (lesser_before cmp o p x ds rest up.1)

-- an item's dataset has this name
abbrev pub has_name : List ℕ → List ℕ → Item → Bool
has_name source name item = bytes_eq (harvested_name source item.iri) name

-- The object of the next item, by whether the name of its dataset is one of those so far.
pub object_next : (source : List ℕ) (all done rest : List Item) (item : Item) (repeated : Bool)
    → IsAscending item_cmp all → all ≡ done ++ item ∷ rest
    → repeated ≡ list_any (has_name source (harvested_name source item.iri)) done
    → object_of source all item ≡ record { iri = item.iri; progress = first_progress repeated item.found }
object_next source all done rest item repeated up whole is =
    let parts : IsAscending item_cmp (done ++ item ∷ rest) = subst (IsAscending item_cmp) whole up in
    let lesser : has_lesser_namesake source all item ≡ repeated =
    ap (λ l. has_lesser_namesake source l item) whole
    ∙ lesser_before item_cmp item_cmp_total (has_name source (harvested_name source item.iri)) item done rest parts
    ∙ sym is in
    ap (made item) lesser
  where
    made : Item → Bool → ListedObject
    made one b = record { iri = one.iri; progress = first_progress b one.found }

-- the objects so far, with that of the next item
pub objects_next : (source : List ℕ) (all done rest : List Item) (item : Item) (repeated : Bool)
    (object : ListedObject) (objects more : List ListedObject) → IsAscending item_cmp all → all ≡ done ++ item ∷ rest
    → repeated ≡ list_any (has_name source (harvested_name source item.iri)) done
    → object ≡ record { iri = item.iri; progress = first_progress repeated item.found }
    → objects ≡ map (object_of source all) done → more ≡ objects ++ object ∷ []
    → more ≡ map (object_of source all) (done ++ item ∷ [])
objects_next source all done rest item repeated object objects more up whole is made so_far pushed =
    let next : object ≡ object_of source all item =
    made ∙ sym (object_next source all done rest item repeated up whole is) in
    pushed ∙ ap (λ l. l ++ object ∷ []) so_far ∙ ap (λ x. map (object_of source all) done ++ x ∷ []) next
    ∙ sym (map-append (object_of source all) done (item ∷ []))

-- A set of names, with one more.
pub name_added : (key added name : List ℕ) (old : Bool) → key ≡ added
    → cond (is_eq (slice_cmp nat_cmp key name)) true old ≡ (old || bytes_eq added name)
name_added key added name old same =
    ap (λ b. cond b true old) (is_eq-slice_cmp key name ∙ ap (λ k. bytes_eq k name) same)
    ∙ either (bytes_eq added name) old
  where
    either : (b s : Bool) → cond b true s ≡ (s || b)
    either true true = refl
    either true false = refl
    either false true = refl
    either false false = refl

-- The names so far, with that of one more item.
pub names_next : (source name : List ℕ) (done : List Item) (item : Item)
    → list_any (has_name source name) (done ++ item ∷ [])
    ≡ (list_any (has_name source name) done || has_name source name item)
names_next source name done item =
    list_any-append (has_name source name) done (item ∷ [])
    ∙ ap (λ b. list_any (has_name source name) done || b) (alone (has_name source name item))
  where
    alone : (b : Bool) → (b || false) ≡ b
    alone true = refl
    alone false = refl

-- The objects of a listing, with one claimed or done.
use Rattle.std.proofs.Common.{◌≡◌, ℕ, ◌+◌, ◌<◌, Bool, true, false, not, ◌||◌, cond, List, [], ◌∷◌, length}
use Rattle.std.proofs.Common.{get_or, set, Some, None, refl, sym, ap, subst, ◌∙◌, arith, IfSome}
use Rattle.std.specs.Prelude.{Option, find, is_some, option_and_then, option_map, position, slice_get}
use Rattle.std.specs.Option.{option_map_or}
use Rattle.std.specs.Cmp.Lexicographic.{slice_cmp}
use Rattle.std.specs.Ordering.{is_eq, nat_cmp}
use Rattle.std.proofs.lemmas.Cmp.{nat_list_cmp_total, tied_itself}
use Rattle.std.proofs.lemmas.Map.Text.{is_eq-slice_cmp}
use Rattle.std.proofs.lemmas.Option.{get_or_from_slice_get, slice_get-get_or}
use Rattle.std.proofs.lemmas.Slice.Eq.{bytes_eq-Decides}
use Rattle.portal_base.specs.Ordered.{IsAscending, found, upserted}
use Rattle.portal_base.proofs.Upserted.{IsAscending-upserted}
use Rattle.std.specs.Prelude.{count_by}
use Rattle.std.specs.List.{cons_option, filter_map, list_any}
use Rattle.std.specs.Str.{bytes_eq}
use Rattle.std.proofs.lemmas.List.Sums.{sum_by-cons}
use Rattle.harvest_sources.specs.Listings.{NoneWaitsBefore, came_to, claimed_progress, first_waiting, is_done, is_waiting}
use Rattle.harvest_sources.specs.Listings.{outcome_if_done}
use Rattle.harvest_sources.specs.Listings.{object_at, object_cmp, object_cmp_total, waiting_item, waits_at, with_progress}
use Rattle.harvest_sources.specs.Steps.{is_unsettled}
use Rattle.harvest_sources.specs.declared.listing.ListedObject.{ListedObject}
use Rattle.harvest_sources.specs.declared.listing.Listing.{Listing}
use Rattle.harvest_sources.specs.declared.listing.Outcome.{Outcome}
use Rattle.harvest_sources.specs.declared.listing.Progress.{Progress}
use Rattle.harvest_sources.specs.declared.listing.Progress.TheVariants.{Waiting, Claimed, Done}
use Rattle.harvest_sources.specs.declared.step.Item.{Item}
use Rattle.harvest_sources.proofs.PlaceLemmas.{find-no_position, find-position, none-through, passes-position}
use Rattle.harvest_sources.proofs.PlaceLemmas.{position-past, position-some, set-upserted}

-- an object with another progress
abbrev pub progressed : Progress → ListedObject → ListedObject
progressed progress object = record object { progress = progress }

-- The object at an index with another progress is an upserted one.
pub progress_is_upserted : (objects : List ListedObject) (i : ℕ) (d : ListedObject) (progress : Progress)
    → IsAscending object_cmp objects → i < length objects
    → set objects i (progressed progress (get_or objects i d))
    ≡ upserted object_cmp (record { iri = (get_or objects i d).iri; progress = progress }) objects
progress_is_upserted objects i d progress up lt =
    set-upserted object_cmp object_cmp_total objects i d (progressed progress (get_or objects i d)) up lt
    (tied_itself nat_list_cmp_total (get_or objects i d).iri)

-- A listing stays in order.
pub progress_ascends : (iri : List ℕ) (progress : Progress) (listing : Listing)
    → IsAscending object_cmp listing.objects → IsAscending object_cmp (with_progress iri progress listing).objects
progress_ascends iri progress listing up =
    IsAscending-upserted object_cmp object_cmp_total (record { iri = iri; progress = progress }) listing.objects up

-- ---- the first waiting object

-- the first waiting object is the one at its place
pub waiting_at : (listing : Listing) (i : ℕ) (d : ListedObject) → position is_waiting listing.objects ≡ Some i
    → (i < length listing.objects) × (find is_waiting listing.objects ≡ Some (get_or listing.objects i d))
    × (is_waiting (get_or listing.objects i d) ≡ true)
waiting_at listing i d e =
    let at = position-some is_waiting listing.objects i e in (
      at.1,
      find-position is_waiting listing.objects i e ∙ slice_get-get_or listing.objects i d at.1,
      passes-position is_waiting listing.objects i d e,
    )

pub waiting_item_at : (listing : Listing) (i : ℕ) → position is_waiting listing.objects ≡ Some i
    → (object : ListedObject) → slice_get listing.objects i ≡ Some object
    → (first_waiting listing ≡ waiting_item object) × (is_waiting object ≡ true)
waiting_item_at listing i e object got =
    let there = find-position is_waiting listing.objects i e ∙ got in (
      ap (option_and_then waiting_item) there,
      ap is_waiting (sym (get_or_from_slice_get listing.objects i object object got))
          ∙ passes-position is_waiting listing.objects i object e,
    )

pub no_waiting : (listing : Listing) → position is_waiting listing.objects ≡ None → first_waiting listing ≡ None
no_waiting listing e = ap (option_and_then waiting_item) (find-no_position is_waiting listing.objects e)

-- An object that waits has a description.
pub waits_somewhere : (object : ListedObject) → is_waiting object ≡ true → waits_at object.progress ≡ None → ⊥
waits_somewhere object waits none =
    let no : false ≡ true =
    sym (ap (λ o. is_some (option_map (λ found. let item : Item = record { iri = object.iri; found = found } in item) o))
    none) ∙ waits in
    absurd (cc)

claimed_by : (iri : List ℕ) (progress : Progress) (listing : Listing) (after : List ListedObject)
    → after ≡ upserted object_cmp (record { iri = iri; progress = claimed_progress progress }) listing.objects
    → IfSome (option_map (λ found. record { iri = iri; found = found }) (waits_at progress)) (λ (item : Item).
    record listing { objects = after } ≡ with_progress item.iri (Claimed item.found) listing)
claimed_by iri (Waiting found) listing after e = ap (λ objects. record listing { objects = objects }) e
claimed_by iri (Claimed found) listing after e = tt
claimed_by iri (Done o) listing after e = tt

-- the object, claimed
abbrev pub claimed_object : ListedObject → ListedObject
claimed_object object = progressed (claimed_progress object.progress) object

-- The listing whose first waiting object is claimed.
pub claimed_is : (listing : Listing) (i : ℕ) (d : ListedObject) → IsAscending object_cmp listing.objects
    → position is_waiting listing.objects ≡ Some i
    → IfSome (first_waiting listing) (λ item.
    record listing { objects = set listing.objects i (claimed_object (get_or listing.objects i d)) }
    ≡ with_progress item.iri (Claimed item.found) listing)
claimed_is listing i d up e =
    let there = waiting_at listing i d e in
    let object = get_or listing.objects i d in
    let after = set listing.objects i (claimed_object object) in
    subst (λ o. IfSome o (λ item. record listing { objects = after }
    ≡ with_progress item.iri (Claimed item.found) listing))
    (sym (ap (option_and_then (λ (x : ListedObject). option_map (λ found. record { iri = x.iri; found = found })
    (waits_at x.progress))) there.1))
    (claimed_by object.iri object.progress listing after
    (progress_is_upserted listing.objects i d (claimed_progress object.progress) up there.0))

claimed_waits_not : (iri : List ℕ) (progress : Progress)
    → is_waiting (record { iri = iri; progress = claimed_progress progress }) ≡ false
claimed_waits_not iri (Waiting found) = refl
claimed_waits_not iri (Claimed found) = refl
claimed_waits_not iri (Done o) = refl

-- No object waits up to one that is claimed first.
pub claimed_through : (listing : Listing) (i : ℕ) (d : ListedObject) → position is_waiting listing.objects ≡ Some i
    → NoneWaitsBefore (i + 1) (set listing.objects i (claimed_object (get_or listing.objects i d)))
claimed_through listing i d e =
    let object = get_or listing.objects i d in
    none-through is_waiting listing.objects i (claimed_object object) e
    (claimed_waits_not object.iri object.progress)

-- ---- an object by its IRI

-- equal IRIs
iri_same : (a b : List ℕ) → is_eq (slice_cmp nat_cmp a b) ≡ true → a ≡ b
iri_same a b e = (bytes_eq-Decides a b).0 (sym (is_eq-slice_cmp a b) ∙ e)

-- the test of an object for this IRI
abbrev pub is_object_at : List ℕ → ListedObject → Bool
is_object_at iri object = is_eq (object_at iri object)

-- An object is found by its IRI just where one of the objects has it.
pub found-any : (iri : List ℕ) (objects : List ListedObject)
    → is_some (found (object_at iri) objects) ≡ list_any (λ object. bytes_eq object.iri iri) objects
found-any iri [] = refl
found-any iri (x ∷ xs) =
    by (is_eq (object_at iri x)) (bytes_eq x.iri iri) (is_eq-slice_cmp x.iri iri) (found-any iri xs)
  where
    by : (b c : Bool) → b ≡ c → is_some (found (object_at iri) xs) ≡ list_any (λ object. bytes_eq object.iri iri) xs
        → is_some (cond b (Some x) (found (object_at iri) xs))
        ≡ (c || list_any (λ object. bytes_eq object.iri iri) xs)
    by true true e rest = refl
    by true false e rest = absurd (cc)
    by false true e rest = absurd (cc)
    by false false e rest = rest

-- The listing whose object of this IRI is done.
pub done_is : (listing : Listing) (iri : List ℕ) (i : ℕ) (d : ListedObject) (o : Outcome)
    → IsAscending object_cmp listing.objects → position (is_object_at iri) listing.objects ≡ Some i
    → set listing.objects i (progressed (Done o) (get_or listing.objects i d))
    ≡ upserted object_cmp (record { iri = iri; progress = Done o }) listing.objects
done_is listing iri i d o up e =
    let object = get_or listing.objects i d in
    let lt = (position-some (is_object_at iri) listing.objects i e).1 in
    let same : object.iri ≡ iri =
    iri_same object.iri iri (passes-position (is_object_at iri) listing.objects i d e) in
    progress_is_upserted listing.objects i d (Done o) up lt
    ∙ ap (λ name. upserted object_cmp (record { iri = name; progress = Done o }) listing.objects) same

-- An object that isn't done is there.
pub unsettled_is_there : (listing : Listing) (iri : List ℕ) → is_unsettled iri listing ≡ true
    → position (is_object_at iri) listing.objects ≡ None → ⊥
unsettled_is_there listing iri unsettled none =
    let nothing : found (object_at iri) listing.objects ≡ None =
    find-no_position (is_object_at iri) listing.objects none in
    let settled : false ≡ true =
    sym (ap (λ o. option_map_or (λ object. not (is_done object)) o false) nothing) ∙ unsettled in
    absurd (cc)

-- The first waiting object after one is done: another, if that was the first,
pub done_through : (listing : Listing) (i : ℕ) (d : ListedObject) (o : Outcome)
    → position is_waiting listing.objects ≡ Some i
    → NoneWaitsBefore (i + 1) (set listing.objects i (progressed (Done o) (get_or listing.objects i d)))
done_through listing i d o e =
    none-through is_waiting listing.objects i (progressed (Done o) (get_or listing.objects i d)) e refl

-- and otherwise the same one.
pub done_past : (listing : Listing) (i : ℕ) (d : ListedObject) (o : Outcome) → i < length listing.objects
    → (position is_waiting listing.objects ≡ Some i → ⊥)
    → position is_waiting (set listing.objects i (progressed (Done o) (get_or listing.objects i d)))
    ≡ position is_waiting listing.objects
done_past listing i d o lt other =
    position-past is_waiting listing.objects i (progressed (Done o) (get_or listing.objects i d)) lt refl other

-- ---- what a changed listing is

-- an item of a list that has one
some_item : {X : Type 0} (xs : List X) (i : ℕ) → i < length xs → X
some_item [] i lt = absurd (omega (arith, lt))
some_item (x ∷ xs) i lt = x

listing_is : (a b : Listing) → a.objects ≡ b.objects → a.unnamed ≡ b.unnamed → a ≡ b
listing_is a b objects unnamed = λ j. record { objects = objects j; unnamed = unnamed j }

-- what the object at an index is changed to
changed_at : (listing after : Listing) (i : ℕ) (d : ListedObject) (change : ListedObject → ListedObject)
    → i < length listing.objects
    → IfSome (slice_get listing.objects i) (λ object. after.objects ≡ set listing.objects i (change object))
    → after.objects ≡ set listing.objects i (change (get_or listing.objects i d))
changed_at listing after i d change lt changed =
    subst (λ o. IfSome o (λ object. after.objects ≡ set listing.objects i (change object)))
    (slice_get-get_or listing.objects i d lt) changed

module _ (listing after : Listing) (i : ℕ) (up : IsAscending object_cmp listing.objects)
    (at : position is_waiting listing.objects ≡ Some i)
    (changed : IfSome (slice_get listing.objects i) (λ object. after.objects
    ≡ set listing.objects i (record object { progress = claimed_progress object.progress })))
    (unnamed : after.unnamed ≡ listing.unnamed) where
  claimed_lt : i < length listing.objects
  claimed_lt = (position-some is_waiting listing.objects i at).1

  claimed_d : ListedObject
  claimed_d = some_item listing.objects i claimed_lt

  claimed_objects : after.objects ≡ set listing.objects i (claimed_object (get_or listing.objects i claimed_d))
  claimed_objects = changed_at listing after i claimed_d claimed_object claimed_lt changed

  pub claim_passed : NoneWaitsBefore (i + 1) after.objects
  claim_passed = subst (NoneWaitsBefore (i + 1)) (sym claimed_objects) (claimed_through listing i claimed_d at)

  pub claim_is : IfSome (first_waiting listing) (λ item.
      after ≡ with_progress item.iri (Claimed item.found) listing)
  claim_is =
      subst (λ l. IfSome (first_waiting listing) (λ item. l ≡ with_progress item.iri (Claimed item.found) listing))
      (sym (listing_is after (record listing {
        objects = set listing.objects i (claimed_object (get_or listing.objects i claimed_d));
      }) claimed_objects unnamed))
      (claimed_is listing i claimed_d up at)

  pub claim_ascends : IsAscending object_cmp after.objects
  claim_ascends =
      subst (IsAscending object_cmp) (sym (claimed_objects
      ∙ progress_is_upserted listing.objects i claimed_d (claimed_progress (get_or listing.objects i claimed_d).progress)
      up claimed_lt))
      (progress_ascends (get_or listing.objects i claimed_d).iri
      (claimed_progress (get_or listing.objects i claimed_d).progress) listing up)

module _ (listing after : Listing) (iri : List ℕ) (o : Outcome) (i : ℕ) (up : IsAscending object_cmp listing.objects)
    (at : position (is_object_at iri) listing.objects ≡ Some i)
    (changed : IfSome (slice_get listing.objects i) (λ object. after.objects
    ≡ set listing.objects i (record object { progress = Done o })))
    (unnamed : after.unnamed ≡ listing.unnamed) where
  done_lt : i < length listing.objects
  done_lt = (position-some (is_object_at iri) listing.objects i at).1

  done_d : ListedObject
  done_d = some_item listing.objects i done_lt

  done_objects : after.objects ≡ set listing.objects i (progressed (Done o) (get_or listing.objects i done_d))
  done_objects = changed_at listing after i done_d (progressed (Done o)) done_lt changed

  pub settle_passed : position is_waiting listing.objects ≡ Some i → NoneWaitsBefore (i + 1) after.objects
  settle_passed first =
      subst (NoneWaitsBefore (i + 1)) (sym done_objects) (done_through listing i done_d o first)

  pub settle_same : (position is_waiting listing.objects ≡ Some i → ⊥)
      → position is_waiting listing.objects ≡ position is_waiting after.objects
  settle_same other =
      sym (ap (position is_waiting) done_objects ∙ done_past listing i done_d o done_lt other)

  pub settle_is : after ≡ with_progress iri (Done o) listing
  settle_is =
      listing_is after (with_progress iri (Done o) listing)
      (done_objects ∙ done_is listing iri i done_d o up at) unnamed

-- ---- what the objects came to

-- Outcomes that pass a test are as many as objects that came to one.
pub outcomes_counted : (test : Outcome → Bool) (objects : List ListedObject)
    → count_by test (filter_map (λ object. outcome_if_done object.progress) objects)
    ≡ count_by (came_to test) objects
outcomes_counted test [] = refl
outcomes_counted test (object ∷ objects) =
    by (outcome_if_done object.progress) (outcomes_counted test objects)
    ∙ sym (sum_by-cons (λ x. cond (came_to test x) 1 0) object objects)
  where
    by : (o : Option Outcome)
        → count_by test (filter_map (λ x. outcome_if_done x.progress) objects) ≡ count_by (came_to test) objects
        → count_by test (cons_option o (filter_map (λ x. outcome_if_done x.progress) objects))
        ≡ cond (option_map_or test o false) 1 0 + count_by (came_to test) objects
    by None rest = rest ∙ omega arith
    by (Some o) rest =
        sum_by-cons (λ x. cond (test x) 1 0) o (filter_map (λ x. outcome_if_done x.progress) objects)
        ∙ ap (λ n. cond (test o) 1 0 + n) rest

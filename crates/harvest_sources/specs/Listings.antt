-- What the catalogue of a running job lists, and how far its objects are.
use Rattle.std.specs.Prelude.{ℕ, Bool, true, false, ◌&&◌, List, [], ◌∷◌, map, Option, Some, None, find, is_some}
use Rattle.std.specs.Prelude.{◌≡◌, ◌<◌, option_and_then, option_map, position, slice_index_or}
use Rattle.std.specs.declared.cmp.Ordering.{Ordering}
use Rattle.std.specs.List.{count_by, filter_map, list_any}
use Rattle.std.specs.Option.{option_map_or}
use Rattle.std.specs.Ordering.{is_lt, nat_cmp}
use Rattle.std.specs.Cmp.Lexicographic.{slice_cmp}
use Rattle.std.specs.Str.{bytes_eq}
use Rattle.std.specs.Cmp.{IsTotalOrder}
use Rattle.std.proofs.lemmas.Cmp.{on_total, nat_list_cmp_total}
use Rattle.portal_base.specs.Ordered.{IsKey, IsKey-field, IsMonotone, IsMonotone-field, upserted}
use Rattle.harvest_records.specs.Names.{harvested_name}
use Rattle.harvest_sources.specs.declared.cause.Cause.{Cause}
use Rattle.harvest_sources.specs.declared.cause.Cause.TheVariants.{SameName}
use Rattle.harvest_sources.specs.declared.job.JobState.TheVariants.{Finished}
use Rattle.harvest_sources.specs.declared.job.SourceReport.{SourceReport}
use Rattle.harvest_sources.specs.declared.listing.ListedObject.{ListedObject}
use Rattle.harvest_sources.specs.declared.listing.Listing.{Listing}
use Rattle.harvest_sources.specs.declared.listing.Outcome.{Outcome}
use Rattle.harvest_sources.specs.declared.listing.Outcome.TheVariants as outcome
use Rattle.harvest_sources.specs.declared.listing.Progress.{Progress}
use Rattle.harvest_sources.specs.declared.listing.Progress.TheVariants.{Waiting, Claimed, Done}
use Rattle.harvest_sources.specs.declared.step.Found.{Found}
use Rattle.harvest_sources.specs.declared.step.Item.{Item}

-- ---- a listing

-- by the bytes of the IRI
abbrev pub item_cmp : Item → Item → Ordering
item_cmp x y = slice_cmp nat_cmp x.iri y.iri

-- the items ascending by IRI, each IRI once, with its first item
abbrev pub first_items : List Item → List Item
first_items [] = []
first_items (item ∷ items) = upserted item_cmp item (first_items items)

-- the item's dataset has the name that one of a lesser IRI has
abbrev pub has_lesser_namesake : List ℕ → List Item → Item → Bool
has_lesser_namesake source items item =
    list_any (λ other. is_lt (item_cmp other item)
    && bytes_eq (harvested_name source other.iri) (harvested_name source item.iri)) items

-- An object waits, unless it has a lesser namesake. Then it is done at once.
abbrev pub first_progress : Bool → Found → Progress
first_progress true found = Done (outcome.Bad SameName)
first_progress false found = Waiting found

abbrev pub object_of : List ℕ → List Item → Item → ListedObject
object_of source items item = record {
  iri = item.iri;
  progress = first_progress (has_lesser_namesake source items item) item.found;
}

-- the listing of the source's catalogue with these items and so many objects that have no IRI
abbrev pub listing_of : List ℕ → List Item → ℕ → Listing
listing_of source items unnamed = record {
  objects = map (object_of source (first_items items)) (first_items items);
  unnamed = unnamed;
}

-- ---- objects

-- one of the listed objects has the IRI
abbrev pub has_object : List ℕ → Listing → Bool
has_object iri listing = list_any (λ object. bytes_eq object.iri iri) listing.objects

-- by the bytes of the IRI
abbrev pub object_cmp : ListedObject → ListedObject → Ordering
object_cmp x y = slice_cmp nat_cmp x.iri y.iri

-- the order of an object's IRI against this one
abbrev pub object_at : List ℕ → ListedObject → Ordering
object_at iri object = slice_cmp nat_cmp object.iri iri

pub object_cmp_total : IsTotalOrder object_cmp
object_cmp_total = on_total (λ object. object.iri) nat_list_cmp_total

-- an IRI is a key of objects
pub IsKey-object_at : (iri : List ℕ) → IsKey object_cmp (object_at iri)
IsKey-object_at iri = IsKey-field (λ object. object.iri) nat_list_cmp_total iri

pub IsMonotone-object_at : (iri : List ℕ) → IsMonotone object_cmp (object_at iri)
IsMonotone-object_at iri = IsMonotone-field (λ object. object.iri) nat_list_cmp_total iri

-- where the object is described, if it waits
abbrev pub waits_at : Progress → Option Found
waits_at (Waiting found) = Some found
waits_at (Claimed found) = None
waits_at (Done o) = None

-- the object as an item, if it waits
abbrev pub waiting_item : ListedObject → Option Item
waiting_item object = option_map (λ found. record { iri = object.iri; found = found }) (waits_at object.progress)

-- the first waiting object
abbrev pub first_waiting : Listing → Option Item
first_waiting listing = option_and_then waiting_item (find (λ object. is_some (waiting_item object)) listing.objects)

abbrev pub is_waiting : ListedObject → Bool
is_waiting object = is_some (waiting_item object)

-- the index of the first waiting object
abbrev pub waiting_index : Option Listing → Option ℕ
waiting_index listing = option_and_then (λ listing. position is_waiting listing.objects) listing

-- none of the first so many objects waits
abbrev pub NoneWaitsBefore : ℕ → List ListedObject → Type 0
NoneWaitsBefore count objects =
    (k : ℕ) (d : ListedObject) → k < count → is_waiting (slice_index_or objects k d) ≡ false

-- what the object came to, if it is done
abbrev pub outcome_if_done : Progress → Option Outcome
outcome_if_done (Waiting found) = None
outcome_if_done (Claimed found) = None
outcome_if_done (Done o) = Some o

abbrev pub is_done : ListedObject → Bool
is_done object = is_some (outcome_if_done object.progress)

-- ---- changes

-- the listing, with the object of this IRI so far
abbrev pub with_progress : List ℕ → Progress → Listing → Listing
with_progress iri progress listing =
    record listing { objects = upserted object_cmp (record { iri = iri; progress = progress }) listing.objects }

-- a waiting object is claimed
abbrev pub claimed_progress : Progress → Progress
claimed_progress (Waiting found) = Claimed found
claimed_progress (Claimed found) = Claimed found
claimed_progress (Done o) = Done o

-- a claimed object waits again
abbrev pub released : Progress → Progress
released (Waiting found) = Waiting found
released (Claimed found) = Waiting found
released (Done o) = Done o

abbrev pub released_object : ListedObject → ListedObject
released_object object = record object { progress = released object.progress }

-- the listing whose claimed objects wait again
abbrev pub with_all_released : Listing → Listing
with_all_released listing =
    record listing { objects = map released_object listing.objects }

-- ---- what it comes to

abbrev pub is_added : Outcome → Bool
is_added outcome.Added = true
is_added outcome.Updated = false
is_added outcome.Unchanged = false
is_added (outcome.Bad cause) = false

abbrev pub is_updated : Outcome → Bool
is_updated outcome.Added = false
is_updated outcome.Updated = true
is_updated outcome.Unchanged = false
is_updated (outcome.Bad cause) = false

abbrev pub is_unchanged : Outcome → Bool
is_unchanged outcome.Added = false
is_unchanged outcome.Updated = false
is_unchanged outcome.Unchanged = true
is_unchanged (outcome.Bad cause) = false

abbrev pub cause_of : Outcome → Option Cause
cause_of outcome.Added = None
cause_of outcome.Updated = None
cause_of outcome.Unchanged = None
cause_of (outcome.Bad cause) = Some cause

-- the object is done, and came to what passes the test
abbrev pub came_to : (Outcome → Bool) → ListedObject → Bool
came_to test object = option_map_or test (outcome_if_done object.progress) false

-- the outcomes of the objects that are done
abbrev pub outcomes : Listing → List Outcome
outcomes listing = filter_map (λ object. outcome_if_done object.progress) listing.objects

-- the IRI with the cause, if the object gave no dataset
abbrev pub bad_object : ListedObject → Option (List ℕ × Cause)
bad_object object =
    option_map (λ cause. (object.iri, cause)) (option_and_then cause_of (outcome_if_done object.progress))

-- the report on a finished job of the source, with so many datasets deleted
abbrev pub finished_report : List ℕ → Listing → ℕ → SourceReport
finished_report source listing deleted = record {
  source = source;
  state = Finished;
  added = count_by is_added (outcomes listing);
  updated = count_by is_updated (outcomes listing);
  unchanged = count_by is_unchanged (outcomes listing);
  deleted = deleted;
  unnamed = listing.unnamed;
  bad = filter_map bad_object listing.objects;
}

-- The shelf can take a change that is fit and claims nothing that is in use.
use Rattle.std.proofs.Common.{◌≡◌, ℕ, Bool, true, false, ◌||◌, List, [], ◌∷◌, map, Option, Some, None, is_some, refl}
use Rattle.std.proofs.Common.{sym, ap, ◌∙◌, inl, inr, subst}
use Rattle.std.specs.Prelude.{find}
use Rattle.std.specs.List.{list_any}
use Rattle.std.specs.Option.{option_map}
use Rattle.std.specs.Str.{bytes_eq}
use Rattle.std.proofs.lemmas.Slice.Eq.{bytes_eq-Decides}
use Rattle.portal_base.proofs.Filtered.{is_some-find_any}
use Rattle.portal_base.proofs.Inserted.{list_any-ascending}
use Rattle.portal_base.proofs.Upserted.{All-IsIn}
use Rattle.portal_base.proofs.Unique.{IsIn, IsIn-Contains}
use Rattle.portal_base.specs.Name.{is_name}
use Rattle.portal_base.specs.Ordered.{ascending}
use Rattle.org_roles.specs.Order.{user_cmp, org_cmp, membership_cmp}
use Rattle.packages.specs.Named.{is_named}
use Rattle.packages.specs.Order.{dataset_cmp}
use Rattle.packages.specs.Shelf.{ShelfState, IsValidShelf, package_at, number_in, datasets_of}
use Rattle.packages.specs.Texts.{longest_name}
use Rattle.packages.specs.declared.package.Package.{Package}
use Rattle.facets.specs.Counters as counters
use Rattle.search_index.specs.Index as index
use Rattle.packages.proofs.FindLemmas.{IsIn-find, find-none, list_any-map}
use Rattle.packages.proofs.EntryLemmas.{IsIn-package_at, package_at-IsIn}
use Rattle.packages.proofs.ShelfLemmas.{number_of_member}
use Rattle.portal_calls.specs.declared.call.Call.{Call}
use Rattle.datastore_answers.specs.Summaries.{summaries_of}
use Rattle.datastore_answers.specs.Tables.{without_room, tables_of}
use Rattle.dataset_answers.specs.Changed.{has_name, has_id}
use Rattle.dataset_answers.specs.Fit.{IsFitDataset}
use Rattle.dataset_answers.specs.Sound.{IsSound, IsId}
use Rattle.dataset_answers.specs.declared.change.DatasetChange.{DatasetChange}
use Rattle.dataset_answers.specs.declared.change.DatasetChange.TheVariants as dataset
use Rattle.harvest_stages.specs.Stages.{sources_in}
use Rattle.portal_state.specs.Answer.{call_view_of}
use Rattle.portal_state.specs.Planned.{PlannedChange, People, Datasets, Tables, Sources, claims_of}
use Rattle.portal_state.specs.Changed.{AreUnused, is_in_use}
use Rattle.portal_state.specs.Fit.{IsFit}
use Rattle.portal_state.specs.Opened.{opened, is_opening}
use Rattle.portal_state.specs.Parts.{state_of, IsConsistent, IsFree, IsOnShelf, IsTakenBy, IsUnrefused}
use Rattle.portal_state.specs.Valid.{IsSoundAmong, IsValid}
use Rattle.portal_state.specs.declared.change.Claim.TheVariants.{DatasetName, DatasetId}
use Rattle.portal_state.specs.declared.parts.Parts.{Parts}
use Rattle.portal_state.specs.declared.opening.Opening.{Opening}
use Rattle.portal_base.proofs.IdForms.{id_is_no_name}
use Rattle.portal_state.proofs.Keeping.{first_unused, unfaulted, opened_valid, source-taken}

-- ---- names and ids

unequal : (a b : List ℕ) → (a ≡ b → ⊥) → bytes_eq a b ≡ false
unequal a b differ = by (bytes_eq a b) refl
  where
    by : (c : Bool) → bytes_eq a b ≡ c → c ≡ false
    by false is = refl
    by true is = absurd (differ ((bytes_eq-Decides a b).0 is))

-- a name is no id
pub name_is_no_id : (name id : List ℕ) → is_name name longest_name ≡ true → IsId id → bytes_eq id name ≡ false
name_is_no_id name id named formed =
    unequal id name
    (λ same. let not_named : is_name name longest_name ≡ false =
    ap (λ (t : List ℕ). is_name t longest_name) (sym same ∙ formed.1) ∙ id_is_no_name formed.0 longest_name in
    cc)

turned : (a b : List ℕ) → bytes_eq a b ≡ false → bytes_eq b a ≡ false
turned a b other =
    unequal b a (λ same. let is : bytes_eq a b ≡ true = (bytes_eq-Decides a b).1 (sym same) in cc)

-- ---- what is in use

list_any-within : {X : Type 0} (p q : X → Bool) (xs : List X) → ((x : X) → IsIn x xs → p x ≡ q x)
    → list_any p xs ≡ list_any q xs
list_any-within p q [] same = refl
list_any-within p q (x ∷ xs) same =
    ap (λ b. b || list_any p xs) (same x (inl refl))
    ∙ ap (λ b. q x || b) (list_any-within p q xs (λ z m. same z (inr m)))

is_some-map : {X Y : Type 0} (f : X → Y) (o : Option X) → is_some (option_map f o) ≡ is_some o
is_some-map f None = refl
is_some-map f (Some x) = refl

-- a text leads to a number exactly where it names one of the datasets
pub leads_is : (shelf : ShelfState) (key : List ℕ)
    → is_some (number_in key shelf) ≡ list_any (is_named key) (datasets_of shelf)
leads_is shelf key =
    is_some-map (λ (e : ℕ × Package). e.0) (find (λ e. is_named key e.1) shelf.entries)
    ∙ is_some-find_any (λ (e : ℕ × Package). is_named key e.1) shelf.entries
    ∙ sym (list_any-map (λ (e : ℕ × Package). e.1) (is_named key) shelf.entries)
    ∙ sym (list_any-ascending dataset_cmp (is_named key) (map (λ (e : ℕ × Package). e.1) shelf.entries))

only_left : (a b : Bool) → b ≡ false → (a || b) ≡ a
only_left true b is = refl
only_left false b is = is

only_right : (a b : Bool) → a ≡ false → (a || b) ≡ b
only_right a b is = ap (λ c. c || b) is

twice : (a : Bool) → (a || a) ≡ a
twice true = refl
twice false = refl

-- The name of a made dataset is in use exactly where it leads to a number: no id of a made dataset is a name, and the id of
-- a harvested one is its own name.
pub name_used : (parts : Parts) (d : Package) → IsConsistent parts → IsSound parts.people.people d
    → is_some (number_in d.name parts.shelf) ≡ has_name d.name (datasets_of parts.shelf)
name_used parts d consistent sound =
    let each = All-IsIn (IsSoundAmong parts.people.people (sources_in parts.sources)) (datasets_of parts.shelf)
    consistent.valid.sound in
    leads_is parts.shelf d.name
    ∙ list_any-within (is_named d.name) (λ e. bytes_eq e.name d.name) (datasets_of parts.shelf)
    (λ e within. by e (each e within))
  where
    by : (e : Package) → IsSoundAmong parts.people.people (sources_in parts.sources) e
        → is_named d.name e ≡ bytes_eq e.name d.name
    by e (inl made) =
        only_right (bytes_eq e.id d.name) (bytes_eq e.name d.name) (name_is_no_id d.name e.id sound.name made.id)
    by e (inr from) =
        ap (λ (key : List ℕ). bytes_eq key d.name || bytes_eq e.name d.name) from.own.id_is_name
        ∙ twice (bytes_eq e.name d.name)

-- and so is its id
pub id_used : (parts : Parts) (d : Package) → IsConsistent parts → IsSound parts.people.people d
    → is_some (number_in d.id parts.shelf) ≡ has_id d.id (datasets_of parts.shelf)
id_used parts d consistent sound =
    let each = All-IsIn (IsSoundAmong parts.people.people (sources_in parts.sources)) (datasets_of parts.shelf)
    consistent.valid.sound in
    leads_is parts.shelf d.id
    ∙ list_any-within (is_named d.id) (λ e. bytes_eq e.id d.id) (datasets_of parts.shelf)
    (λ e within. by e (each e within))
  where
    by : (e : Package) → IsSoundAmong parts.people.people (sources_in parts.sources) e
        → is_named d.id e ≡ bytes_eq e.id d.id
    by e (inl made) =
        only_left (bytes_eq e.id d.id) (bytes_eq e.name d.id)
        (turned d.id e.name (name_is_no_id e.name d.id made.name sound.id))
    by e (inr from) =
        ap (λ (key : List ℕ). bytes_eq e.id d.id || bytes_eq key d.id) (sym from.own.id_is_name)
        ∙ twice (bytes_eq e.id d.id)

none_of : {X : Type 0} (o : Option X) → is_some o ≡ false → o ≡ None
none_of None is = refl
none_of (Some x) is = absurd (cc)

free : (parts : Parts) (call : Call) (d : Package) → IsConsistent parts → IsSound parts.people.people d
    → AreUnused (state_of parts) (claims_of (Datasets (dataset.Create d))) → IsFree parts.shelf d
free parts call d consistent sound unused =
    let unnamed = first_unused (is_in_use (state_of parts)) (DatasetName d.name) (DatasetId d.id ∷ []) unused in
    let unknown = first_unused (is_in_use (state_of parts)) (DatasetId d.id) [] unnamed.1 in
    record {
      id = none_of (number_in d.id parts.shelf) (id_used parts d consistent sound ∙ unknown.0);
      name = none_of (number_in d.name parts.shelf) (name_used parts d consistent sound ∙ unnamed.0);
    }

-- ---- what an id leads to

own_id : (d : Package) → is_named d.id d ≡ true
own_id d = ap (λ b. b || bytes_eq d.name d.id) ((bytes_eq-Decides d.id d.id).1 refl)

-- the id of a dataset leads to its number
led : (shelf : ShelfState) → IsValidShelf shelf → (d : Package) → IsIn d (datasets_of shelf)
    → (n : ℕ) × (number_in d.id shelf ≡ Some n) × (package_at n shelf ≡ Some d)
led shelf shelved d within =
    let place = number_of_member shelf shelved d within in
    (place.0, by place.0 place.1 (find (λ e. is_named d.id e.1) shelf.entries) refl, place.1)
  where
    by : (n : ℕ) → package_at n shelf ≡ Some d → (o : Option (ℕ × Package))
        → find (λ e. is_named d.id e.1) shelf.entries ≡ o → option_map (λ (e : ℕ × Package). e.0) o ≡ Some n
    by n stands None is =
        let named : is_named d.id d ≡ true = own_id d in
        let other : is_named d.id d ≡ false =
        find-none (λ (e : ℕ × Package). is_named d.id e.1) (n, d) shelf.entries is
        (IsIn-package_at n d shelf.entries stands) in
        absurd (cc)
    by n stands (Some e) is =
        let there = IsIn-find (λ (e : ℕ × Package). is_named d.id e.1) e shelf.entries is in
        ap Some
        (shelved.apart d.id e.0 n e.1 d (package_at-IsIn e.0 e.1 shelf.entries shelved.numbers there.0) stands there.1
        (own_id d))

on_shelf : (shelf : ShelfState) → IsValidShelf shelf → (d : Package) (id : List ℕ) → IsIn d (datasets_of shelf) → d.id ≡ id
    → IsOnShelf shelf id
on_shelf shelf shelved d id within is =
    let place = led shelf shelved d within in
    record {
      number = place.0;
      leads = ap (λ (key : List ℕ). number_in key shelf) (sym is) ∙ place.1;
      is_present = ap (option_map (λ (e : Package). e.id)) place.2 ∙ ap Some is;
    }

-- ---- changes

taken : (change : DatasetChange) (parts : Parts) (call : Call) → IsConsistent parts
    → IsFitDataset (call_view_of call (state_of parts)) (summaries_of (state_of parts).tables) change
    → AreUnused (state_of parts) (claims_of (Datasets change))
    → IsTakenBy change parts.shelf
unfolding on_shelf led
taken (dataset.Create d) parts call consistent fit unused = free parts call d consistent fit.sound unused
taken (dataset.Replace d) parts call consistent fit unused =
    let within = IsIn-Contains fit.old (datasets_of parts.shelf) fit.is_present in
    let place = led parts.shelf consistent.shelved.valid fit.old within in
    record {
      on_shelf = on_shelf parts.shelf consistent.shelved.valid fit.old d.id within fit.id;
      name = ap (option_map (λ (e : Package). e.name)) place.2 ∙ ap Some fit.name;
    }
taken (dataset.Remove id) parts call consistent fit unused =
    on_shelf parts.shelf consistent.shelved.valid fit.old id (IsIn-Contains fit.old (datasets_of parts.shelf) fit.is_present)
    fit.id

-- What is fit, and claims nothing that is in use, is refused for nothing.
pub unrefused : (change : PlannedChange) (parts : Parts) (call : Call) → IsConsistent parts
    → IsFit call (state_of parts) change → AreUnused (state_of parts) (claims_of change) → IsUnrefused change parts
unrefused (People change) parts call consistent fit unused = unfaulted change call (state_of parts) fit unused
unrefused (Datasets change) parts call consistent fit unused = taken change parts call consistent fit unused
unrefused (Tables change) parts call consistent fit unused = tt
unrefused (Sources change) parts call consistent fit unused = source-taken change call (state_of parts) fit unused

-- ---- an opening

empty_shelved : (shelf : ShelfState) → shelf.entries ≡ [] → shelf.room ≡ None → IsValidShelf shelf
empty_shelved shelf none no_room =
    subst IsValidShelf same (record {
      numbers = tt;
      below = λ n d there. absurd (cc);
      apart = λ key m n d e there. absurd (cc);
      vacant = tt;
    })
  where
    empty : ShelfState
    empty = record { entries = []; room = None }

    same : empty ≡ shelf
    same = rw (none, no_room) refl

-- Parts with the people of an opening, nothing on the shelf, no source and nothing charged make up a valid state.
pub opened_consistent : (parts : Parts) (opening : Opening) → is_opening opening ≡ true
    → parts.people.people.users ≡ ascending user_cmp opening.users
    → parts.people.people.orgs ≡ ascending org_cmp opening.orgs
    → parts.people.people.roles ≡ ascending membership_cmp opening.roles
    → parts.shelf.entries ≡ [] → parts.shelf.room ≡ None → parts.indexes.index.entries ≡ []
    → parts.indexes.counters.entries ≡ [] → parts.tables.tables ≡ [] → sources_in parts.sources ≡ []
    → parts.quota_used.used ≡ [] → IsConsistent parts
opened_consistent parts opening fit users orgs roles none no_room no_terms no_counts no_table no_source no_charge =
    let datasets : datasets_of parts.shelf ≡ [] =
    ap (λ (es : List (ℕ × Package)). ascending dataset_cmp (map (λ (e : ℕ × Package). e.1) es)) none in
    let tables : tables_of parts.tables ≡ [] = ap (map without_room) no_table in
    let same : opened opening ≡ state_of parts = rw (users, orgs, roles, datasets, tables, no_source, no_charge) refl in
    record {
      valid = subst IsValid same (opened_valid opening fit);
      shelved = record {
        valid = empty_shelved parts.shelf none no_room;
        terms = no_terms ∙ sym (ap (map index.entry_of) none);
        counts = no_counts ∙ sym (ap (map counters.entry_of) datasets);
      };
    }

-- The address of a resource that an id names: its dataset on the shelf, and its number in the dataset.
use Rattle.std.proofs.Common.{◌≡◌, ◌∙◌, ℕ, ◌<◌, ◌^◌, ◌==◌, Bool, true, false, ◌||◌, cond, List, [], ◌∷◌, ◌++◌, ◌⊎◌, inl}
use Rattle.std.proofs.Common.{inr}
use Rattle.std.proofs.Common.{Option, Some, None, refl, sym, ap, ap₂, subst, Contains}
use Rattle.std.specs.Prelude.{decimal, slice_get}
use Rattle.std.specs.List.{find}
use Rattle.std.specs.Option.{option_and_then, option_map, option_or}
use Rattle.std.specs.Str.{bytes_eq}
use Rattle.std.proofs.lemmas.Bool.{eqb-true, or_cases}
use Rattle.std.proofs.lemmas.Option.{same_Some}
use Rattle.std.proofs.lemmas.Slice.Eq.{bytes_eq-Decides}
use Rattle.portal_base.proofs.Unique.{Contains-IsIn, IsIn, IsIn-Contains}
use Rattle.datastore_answers.specs.declared.address.Address.{Address}
use Rattle.datastore_answers.proofs.KeepLemmas.{number_is, number_itself}
use Rattle.datastore_query.proofs.FieldNameLemmas.{found_at, found_none}
use Rattle.datastore_table.proofs.ReferenceLemmas.{any-found, found-any}
use Rattle.packages.specs.Named.{Located, dataset_part, is_addressed, is_named, located_at, position_of}
use Rattle.packages.specs.Named.{resource_address}
use Rattle.packages.specs.Named.{resource_in}
use Rattle.packages.specs.Shelf.{IsValidShelf, ShelfState, datasets_of, number_in, package_at}
use Rattle.packages.specs.declared.package.Package.{Package}
use Rattle.packages.specs.declared.package.Resource.{Resource}
use Rattle.packages.proofs.Addresses.{decimal_undotted}
use Rattle.packages.proofs.DatasetLemmas.{IsIn-datasets}
use Rattle.packages.proofs.EntryLemmas.{IsIn-package_at}
use Rattle.packages.proofs.FindLemmas.{IsIn-find, find-none}
use Rattle.packages.proofs.ShelfInvariantLemmas.{id_named}
use Rattle.packages.proofs.ShelfLemmas.{find_named, named_alone}
use Rattle.visibility.specs.TableSummary.{is_among}
use Rattle.visibility.specs.Visibility.{is_harvested}
use Rattle.portal_core.specs.Restored.{IsAddressOf}

-- ---- what begins the id of a resource

undotted_part : (text : List ℕ) → (IsIn 46 text → ⊥) → dataset_part text ≡ None
undotted_part [] none = refl
undotted_part (c ∷ cs) none =
    rw (undotted_part cs (λ m. none (inr m))) (ap (λ b. cond b (Some []) None) (other (c == 46) refl))
  where
    other : (b : Bool) → (c == 46) ≡ b → b ≡ false
    other true is = absurd (none (inl (sym (eqb-true c 46 is))))
    other false is = refl

part_before : (key digits : List ℕ) → (IsIn 46 digits → ⊥) → dataset_part (key ++ 46 ∷ digits) ≡ Some key
part_before [] digits none = rw (undotted_part digits none) refl
part_before (c ∷ cs) digits none =
    ap (λ o. option_or (option_map (λ part. c ∷ part) o) (cond (c == 46) (Some []) None)) (part_before cs digits none)

-- It is the id of the resource's dataset.
pub part_of_id : (key : List ℕ) (number : ℕ) → dataset_part (resource_address key number) ≡ Some key
part_of_id key number = part_before key (decimal number) (decimal_undotted number)

-- ---- a dataset on the shelf

pub home_found : (shelf : ShelfState) (number : ℕ) (d : Package) → package_at number shelf ≡ Some d
    → Contains (datasets_of shelf) d
home_found shelf number d at =
    Contains-IsIn d (datasets_of shelf)
    (IsIn-datasets number d shelf.entries (IsIn-package_at number d shelf.entries at))

-- the dataset that a text names is the one at the number of the text
found_home : (shelf : ShelfState) → IsValidShelf shelf → (part : List ℕ) (o : Option ℕ) → number_in part shelf ≡ o
    → find (is_named part) (datasets_of shelf) ≡ option_and_then (λ n. package_at n shelf) o
found_home shelf valid part o is =
    find_named part shelf valid ∙ ap (option_and_then (λ n. package_at n shelf)) is

-- A dataset with this id is named by it.
named_by_part : (id part : List ℕ) (d : Package) → dataset_part id ≡ Some part → dataset_part id ≡ Some d.id
    → is_named part d ≡ true
named_by_part id part d is own =
    subst (λ (key : List ℕ). is_named key d ≡ true) (same_Some d.id part (sym own ∙ is)) (id_named d)

pub no_home : (shelf : ShelfState) → IsValidShelf shelf → (id part : List ℕ) → dataset_part id ≡ Some part
    → number_in part shelf ≡ None → (d : Package) → Contains (datasets_of shelf) d → dataset_part id ≡ Some d.id → ⊥
no_home shelf valid id part is none d among own =
    let named : is_named part d ≡ true = named_by_part id part d is own in
    let other : is_named part d ≡ false =
    find-none (is_named part) d (datasets_of shelf) (found_home shelf valid part None none)
    (IsIn-Contains d (datasets_of shelf) among) in
    absurd (cc)

-- A dataset whose id begins the id of a resource is the one at the number of that text.
pub one_home : (shelf : ShelfState) → IsValidShelf shelf → (id part : List ℕ) (number : ℕ) (e : Package)
    → dataset_part id ≡ Some part → number_in part shelf ≡ Some number → package_at number shelf ≡ Some e
    → (d : Package) → Contains (datasets_of shelf) d → dataset_part id ≡ Some d.id → d ≡ e
one_home shelf valid id part number e is leads at d among own =
    let there = IsIn-find (is_named part) e (datasets_of shelf)
    (found_home shelf valid part (Some number) leads ∙ at) in
    named_alone part shelf valid d e (IsIn-Contains d (datasets_of shelf) among) there.0
    (named_by_part id part d is own) there.1

pub other_home : (shelf : ShelfState) → IsValidShelf shelf → (id part : List ℕ) (number : ℕ) (e : Package)
    → dataset_part id ≡ Some part → number_in part shelf ≡ Some number → package_at number shelf ≡ Some e
    → (e.id ≡ part → ⊥) → (d : Package) → Contains (datasets_of shelf) d → dataset_part id ≡ Some d.id → ⊥
other_home shelf valid id part number e is leads at other d among own =
    other (ap (λ (x : Package). x.id) (sym (one_home shelf valid id part number e is leads at d among own))
    ∙ same_Some d.id part (sym own ∙ is))

-- ---- a resource of the dataset

found_resource : (id : List ℕ) (d : Package)
    → option_map (λ (l : Located). l.resource) (resource_in id d) ≡ find (is_addressed id d) d.resources
found_resource id d = by (position_of id d) refl
  where
    at : (i : ℕ) (o : Option Resource) → slice_get d.resources i ≡ o
        → option_map (λ (l : Located). l.resource)
        (option_map (λ resource. record { dataset = d; position = i; resource = resource }) o)
        ≡ slice_get d.resources i
    at i None is = sym is
    at i (Some r) is = sym is

    by : (o : Option ℕ) → position_of id d ≡ o
        → option_map (λ (l : Located). l.resource) (option_and_then (located_at d) o)
        ≡ find (is_addressed id d) d.resources
    by None is = found_none (is_addressed id d) d.resources is
    by (Some i) is = at i (slice_get d.resources i) refl ∙ found_at (is_addressed id d) d.resources i is

-- The resource that is found has this id.
pub number_found : (id : List ℕ) (d : Package) (l : Located) → dataset_part id ≡ Some d.id → resource_in id d ≡ Some l
    → (resource_address d.id l.resource.number ≡ id) × (is_among d.resources l.resource.number ≡ true)
number_found id d l part is =
    let there = IsIn-find (is_addressed id d) l.resource d.resources
    (sym (found_resource id d) ∙ ap (option_map (λ (x : Located). x.resource)) is) in
    let number : ℕ = l.resource.number in (
      by (or_cases (bytes_eq (resource_address d.id number) id) (bytes_eq (resource_address d.name number) id) there.1),
      found-any (λ (r : Resource). r.number == number) l.resource d.resources there.0 (number_itself number),
    )
  where
    by_name : resource_address d.name l.resource.number ≡ id → resource_address d.id l.resource.number ≡ id
    by_name named =
        let same : d.name ≡ d.id =
        same_Some d.name d.id (sym (part_of_id d.name l.resource.number) ∙ ap dataset_part named ∙ part) in
        ap (λ (key : List ℕ). resource_address key l.resource.number) (sym same) ∙ named

    by : (bytes_eq (resource_address d.id l.resource.number) id ≡ true)
        ⊎ (bytes_eq (resource_address d.name l.resource.number) id ≡ true)
        → resource_address d.id l.resource.number ≡ id
    by (inl own) = (bytes_eq-Decides (resource_address d.id l.resource.number) id).0 own
    by (inr named) = by_name ((bytes_eq-Decides (resource_address d.name l.resource.number) id).0 named)

pub number_missing : (id : List ℕ) (d : Package) → resource_in id d ≡ None → (number : ℕ)
    → resource_address d.id number ≡ id → is_among d.resources number ≡ true → ⊥
number_missing id d none number own among =
    let r = any-found (λ (x : Resource). x.number == number) d.resources among in
    let same : r.0.number ≡ number = number_is r.0.number number r.2 in
    let is : resource_address d.id r.0.number ≡ id = ap (resource_address d.id) same ∙ own in
    let passes : is_addressed id d r.0 ≡ true =
    ap (λ b. b || bytes_eq (resource_address d.name r.0.number) id)
    ((bytes_eq-Decides (resource_address d.id r.0.number) id).1 is) in
    let fails : is_addressed id d r.0 ≡ false =
    find-none (is_addressed id d) r.0 d.resources
    (sym (found_resource id d) ∙ ap (option_map (λ (x : Located). x.resource)) none) r.1 in
    absurd (cc)

-- ---- addresses

pub address_found : (datasets : List Package) (id : List ℕ) (d : Package) (number : ℕ) (address : Address)
    → Contains datasets d → is_harvested d ≡ false → number < 2 ^ 32 → resource_address d.id number ≡ id
    → is_among d.resources number ≡ true → address.dataset ≡ d.id → address.number ≡ number
    → IsAddressOf datasets id address
address_found datasets id d number address present made small own among dataset_same number_same = record {
  same = ap₂ resource_address dataset_same number_same ∙ own;
  number = subst (λ (n : ℕ). n < 2 ^ 32) (sym number_same) small;
  dataset = d;
  is_present = present;
  own = sym dataset_same;
  made = made;
  resource = ap (is_among d.resources) number_same ∙ among;
}

-- the id begins with the dataset's id
pub address_part : (datasets : List Package) (id : List ℕ) (address : Address) (is : IsAddressOf datasets id address)
    → dataset_part id ≡ Some is.dataset.id
address_part datasets id address is =
    ap dataset_part (sym is.same)
    ∙ part_of_id address.dataset address.number
    ∙ ap Some (sym is.own)

-- Where the only dataset that may be the home has no such resource, the id is of no resource of a made dataset.
pub no_address : (datasets : List Package) (id : List ℕ) (d : Package)
    → ((e : Package) → Contains datasets e → dataset_part id ≡ Some e.id → e ≡ d)
    → ((number : ℕ) → resource_address d.id number ≡ id → is_among d.resources number ≡ true → ⊥)
    → (address : Address) → IsAddressOf datasets id address → ⊥
no_address datasets id d alone none address is =
    let same : is.dataset ≡ d = alone is.dataset is.is_present (address_part datasets id address is) in
    none address.number
    (ap (λ (e : Package). resource_address e.id address.number) (sym same)
    ∙ ap (λ (key : List ℕ). resource_address key address.number) is.own ∙ is.same)
    (ap (λ (e : Package). is_among e.resources address.number) (sym same) ∙ is.resource)

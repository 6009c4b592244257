-- What the end of a job leaves, when all objects of its listing are done.
use Rattle.std.proofs.Common.{◌≡◌, ℕ, Bool, true, false, not, ◌&&◌, ◌||◌, cond, List, [], ◌∷◌, map, Option, Some, None}
use Rattle.std.proofs.Common.{refl}
use Rattle.std.proofs.Common.{sym, ap, ◌∙◌, subst, inl, inr, true≢false}
use Rattle.std.specs.Prelude.{filter, is_some, option_and_then, option_map}
use Rattle.std.specs.Bool.{then_some}
use Rattle.std.specs.declared.cmp.Ordering.{Ordering}
use Rattle.std.specs.declared.cmp.Ordering.TheVariants.{Less, Equal, Greater}
use Rattle.std.specs.Cmp.{IsTotalOrder}
use Rattle.std.specs.Cmp.Lexicographic.{nat_list_cmp_total, slice_cmp}
use Rattle.std.specs.List.{find, list_all, list_any}
use Rattle.std.specs.Ordering.{is_eq, is_lt, nat_cmp}
use Rattle.std.specs.Str.{bytes_eq}
use Rattle.std.proofs.lemmas.Bool.{and_parts}
use Rattle.std.proofs.lemmas.Cmp.{on_total}
use Rattle.std.proofs.lemmas.Map.Text.{is_eq-slice_cmp}
use Rattle.std.proofs.lemmas.Slice.Eq.{bytes_eq-Decides}
use Rattle.portal_base.specs.Ordered.{IsAscending, IsBelowAll, dropped, inserted, upserted}
use Rattle.portal_base.proofs.Filtered.{IsAscending-filter, IsIn-filter, list_all-IsIn}
use Rattle.portal_base.proofs.Inserted.{list_any-inserted}
use Rattle.portal_base.proofs.Unique.{IsIn}
use Rattle.portal_base.proofs.Upserted.{IsAscending-upserted}
use Rattle.packages.specs.Order.{dataset_cmp}
use Rattle.packages.specs.declared.package.Package.{Package}
use Rattle.packages.proofs.FindLemmas.{IsAlone, IsIn-find, IsIn-map, fails, find-kept_alone, find-none, list_any-map}
use Rattle.packages.proofs.FindLemmas.{map-IsIn}
use Rattle.packages.proofs.FindLemmas.{none-find}
use Rattle.harvest_records.specs.Names.{harvested_name}
use Rattle.harvest_records.specs.declared.record.HarvestRecord.{HarvestRecord}
use Rattle.harvest_sources.specs.Listings.{cause_of, first_items, is_done, item_cmp, outcome_if_done}
use Rattle.harvest_sources.specs.declared.cause.Cause.TheVariants.{SameName}
use Rattle.harvest_sources.specs.declared.listing.ListedObject.{ListedObject}
use Rattle.harvest_sources.specs.declared.listing.Listing.{Listing}
use Rattle.harvest_sources.specs.declared.listing.Outcome.{Outcome}
use Rattle.harvest_sources.specs.declared.reading.Reading.{Reading}
use Rattle.harvest_sources.specs.declared.reading.Reading.TheVariants.{Good, Bad}
use Rattle.harvest_sources.specs.declared.source.HarvestSource.{HarvestSource}
use Rattle.harvest_sources.specs.declared.step.Item.{Item}
use Rattle.harvest_results.specs.Histories.{Gathered, read_item, reading_of, reading_or_namesake}
use Rattle.harvest_results.specs.Harvested.{harvested_dataset}
use Rattle.harvest_results.specs.Readings.{ListedIri, iri_cmp, is_listed, item_name, items_by_iri, least_named}
use Rattle.harvest_results.specs.Results.{dataset_left, dataset_of_item, datasets_after, harvested_or, kept_dataset}
use Rattle.harvest_results.proofs.BalanceLemmas.{any-found}
use Rattle.harvest_results.proofs.ChangeLemmas.{filter-alike, lists}
use Rattle.harvest_results.proofs.CountLemmas.{list_any-IsIn}
use Rattle.harvest_results.proofs.ItemLemmas.{first-least}
use Rattle.harvest_results.proofs.LookupLemmas.{after-determined, name_cmp, name_cmp_total}
use Rattle.harvest_results.proofs.SettlingLemmas.{IsSettling, cause_in, dataset_named, expected, is_shadowed}
use Rattle.harvest_results.proofs.SettlingLemmas.{read_named}
use Rattle.harvest_results.proofs.SettlingLemmas.{read_of, settled_or, unshadowed-same}
use Rattle.harvest_results.proofs.SourceEntryLemmas.{find-map, same_bytes, same_member}

-- ---- the items of the reading

inserted-read : (settled : List ListedIri) (i : Item) (xs : List Item)
    → inserted iri_cmp (read_item settled i) (map (read_item settled) xs)
    ≡ map (read_item settled) (inserted item_cmp i xs)
inserted-read settled i [] = refl
inserted-read settled i (x ∷ xs) = by (is_lt (item_cmp x i)) (inserted-read settled i xs)
  where
    by : (b : Bool)
        → inserted iri_cmp (read_item settled i) (map (read_item settled) xs)
        ≡ map (read_item settled) (inserted item_cmp i xs)
        → cond b (read_item settled x ∷ inserted iri_cmp (read_item settled i) (map (read_item settled) xs))
        (read_item settled i ∷ read_item settled x ∷ map (read_item settled) xs)
        ≡ map (read_item settled) (cond b (x ∷ inserted item_cmp i xs) (i ∷ x ∷ xs))
    by true e = ap (λ l. read_item settled x ∷ l) e
    by false e = refl

dropped-read : (settled : List ListedIri) (i : Item) (xs : List Item)
    → dropped (λ (y : ListedIri). iri_cmp y (read_item settled i)) (map (read_item settled) xs)
    ≡ map (read_item settled) (dropped (λ (y : Item). item_cmp y i) xs)
dropped-read settled i [] = refl
dropped-read settled i (x ∷ xs) = by (not (is_eq (item_cmp x i))) (dropped-read settled i xs)
  where
    by : (b : Bool)
        → dropped (λ (y : ListedIri). iri_cmp y (read_item settled i)) (map (read_item settled) xs)
        ≡ map (read_item settled) (dropped (λ (y : Item). item_cmp y i) xs)
        → cond b
        (read_item settled x
        ∷ dropped (λ (y : ListedIri). iri_cmp y (read_item settled i)) (map (read_item settled) xs))
        (dropped (λ (y : ListedIri). iri_cmp y (read_item settled i)) (map (read_item settled) xs))
        ≡ map (read_item settled)
        (cond b (x ∷ dropped (λ (y : Item). item_cmp y i) xs) (dropped (λ (y : Item). item_cmp y i) xs))
    by true e = ap (λ l. read_item settled x ∷ l) e
    by false e = e

pub items_by_iri-read : (settled : List ListedIri) (items : List Item)
    → items_by_iri (map (read_item settled) items) ≡ map (read_item settled) (first_items items)
items_by_iri-read settled [] = refl
items_by_iri-read settled (i ∷ is) =
    ap (upserted iri_cmp (read_item settled i)) (items_by_iri-read settled is)
    ∙ ap (inserted iri_cmp (read_item settled i)) (dropped-read settled i (first_items is))
    ∙ inserted-read settled i (dropped (λ (y : Item). item_cmp y i) (first_items is))

pub item_cmp_total : IsTotalOrder item_cmp
item_cmp_total = on_total (λ (i : Item). i.iri) nat_list_cmp_total

pub IsAscending-first_items : (items : List Item) → IsAscending item_cmp (first_items items)
IsAscending-first_items [] = tt
IsAscending-first_items (i ∷ is) =
    IsAscending-upserted item_cmp item_cmp_total i (first_items is) (IsAscending-first_items is)

any-filter : {X : Type 0} (t q : X → Bool) (xs : List X) → ((x : X) → q x ≡ false → t x ≡ false)
    → list_any t (filter q xs) ≡ list_any t xs
any-filter t q [] apart = refl
any-filter {X} t q (x ∷ xs) apart = by (q x) refl (any-filter t q xs apart)
  where
    by : (b : Bool) → q x ≡ b → list_any t (filter q xs) ≡ list_any t xs
        → list_any t (cond b (x ∷ filter q xs) (filter q xs)) ≡ (t x || list_any t xs)
    by true is e = ap (λ r. t x || r) e
    by false is e = e ∙ sym (ap (λ b. b || list_any t xs) (apart x is))

is_like : (b : Bool) → not b ≡ false → b ≡ true
is_like true e = refl
is_like false e = absurd (cc)

-- The first items have the IRIs of all items.
any-first_items : (iri : List ℕ) (items : List Item)
    → list_any (λ (i : Item). bytes_eq i.iri iri) (first_items items)
    ≡ list_any (λ (i : Item). bytes_eq i.iri iri) items
any-first_items iri [] = refl
any-first_items iri (x ∷ xs) =
    list_any-inserted item_cmp (λ (i : Item). bytes_eq i.iri iri) x
    (dropped (λ (y : Item). item_cmp y x) (first_items xs))
    ∙ by (bytes_eq x.iri iri) refl (any-first_items iri xs)
  where
    by : (b : Bool) → bytes_eq x.iri iri ≡ b
        → list_any (λ (i : Item). bytes_eq i.iri iri) (first_items xs)
        ≡ list_any (λ (i : Item). bytes_eq i.iri iri) xs
        → (b || list_any (λ (i : Item). bytes_eq i.iri iri) (dropped (λ (y : Item). item_cmp y x) (first_items xs)))
        ≡ (b || list_any (λ (i : Item). bytes_eq i.iri iri) xs)
    by true is e = refl
    by false is e =
        any-filter (λ (i : Item). bytes_eq i.iri iri) (λ (y : Item). not (is_eq (item_cmp y x))) (first_items xs)
        (λ y gone. ap (λ (i : List ℕ). bytes_eq i iri)
        ((bytes_eq-Decides y.iri x.iri).0
        (sym (is_eq-slice_cmp y.iri x.iri) ∙ is_like (is_eq (item_cmp y x)) gone)) ∙ is)
        ∙ e

-- ---- searches

find-alike : {X : Type 0} (p q : X → Bool) (xs : List X) → ((x : X) → IsIn x xs → p x ≡ q x) → find p xs ≡ find q xs
find-alike p q [] same = refl
find-alike p q (x ∷ xs) same =
    ap (λ b. cond b (Some x) (find p xs)) (same x (inl refl))
    ∙ ap (λ o. cond (q x) (Some x) o) (find-alike p q xs (λ y m. same y (inr m)))

find-both : {X : Type 0} (p q : X → Bool) (xs : List X) → find (λ x. p x && q x) xs ≡ find p (filter q xs)
find-both p q [] = refl
find-both {X} p q (x ∷ xs) = by (p x) (q x) refl (find-both p q xs)
  where
    by : (a b : Bool) → p x ≡ a → find (λ y. p y && q y) xs ≡ find p (filter q xs)
        → cond (a && b) (Some x) (find (λ y. p y && q y) xs) ≡ find p (cond b (x ∷ filter q xs) (filter q xs))
    by true true is e = sym (ap (λ c. cond c (Some x) (find p (filter q xs))) is)
    by true false is e = e
    by false true is e = e ∙ sym (ap (λ c. cond c (Some x) (find p (filter q xs))) is)
    by false false is e = e

pub alone-name : (name : List ℕ) (ds : List Package) → IsAscending name_cmp ds
    → IsAlone (λ (d : Package). bytes_eq d.name name) ds
alone-name name ds up d e m n p q =
    same_member name_cmp name_cmp_total d e ds up m n
    (same_bytes d.name e.name ((bytes_eq-Decides d.name name).0 p ∙ sym ((bytes_eq-Decides e.name name).0 q)))

IsBelowAll-by_name : (d : Package) (ds : List Package) → d.id ≡ d.name → ((e : Package) → IsIn e ds → e.id ≡ e.name)
    → IsBelowAll dataset_cmp d ds → IsBelowAll name_cmp d ds
IsBelowAll-by_name d [] same all below = tt
IsBelowAll-by_name d (e ∷ es) same all below = (
  ap (λ (n : List ℕ). slice_cmp nat_cmp n e.name) (sym same)
      ∙ ap (slice_cmp nat_cmp d.id) (sym (all e (inl refl)))
      ∙ below.0,
  IsBelowAll-by_name d es same (λ f m. all f (inr m)) below.1,
)

-- Datasets whose ids are their names ascend by name.
pub IsAscending-by_name : (ds : List Package) → ((d : Package) → IsIn d ds → d.id ≡ d.name)
    → IsAscending dataset_cmp ds → IsAscending name_cmp ds
IsAscending-by_name [] all up = tt
IsAscending-by_name (d ∷ ds) all up = (
  IsBelowAll-by_name d ds (all d (inl refl)) (λ e m. all e (inr m)) up.0,
  IsAscending-by_name ds (λ e m. all e (inr m)) up.1,
)

-- The first item of a name has no lesser namesake.
pub first-free : (source : HarvestSource) (items : List Item) (name : List ℕ) (item : Item)
    → find (λ (i : Item). bytes_eq (harvested_name source.name i.iri) name) (first_items items) ≡ Some item
    → is_shadowed source.name items item.iri ≡ false
first-free source items name item is = fails (is_shadowed source.name items item.iri) (λ shadowed.
    let test : Item → Bool = λ i. bytes_eq (harvested_name source.name i.iri) name in
    let there = IsIn-find test item (first_items items) is in
    let w = any-found (λ (other : Item). is_lt (slice_cmp nat_cmp other.iri item.iri)
    && bytes_eq (harvested_name source.name other.iri) (harvested_name source.name item.iri))
    (first_items items) shadowed in
    let parts = and_parts (is_lt (slice_cmp nat_cmp w.0.iri item.iri))
    (bytes_eq (harvested_name source.name w.0.iri) (harvested_name source.name item.iri)) w.2 in
    first-least item_cmp item_cmp_total test item w.0 (first_items items) (IsAscending-first_items items) is w.1
    ((bytes_eq-Decides (harvested_name source.name w.0.iri) name).1
    ((bytes_eq-Decides (harvested_name source.name w.0.iri) (harvested_name source.name item.iri)).0 parts.1
    ∙ (bytes_eq-Decides (harvested_name source.name item.iri) name).0 there.1))
    (is_less (item_cmp w.0 item) parts.0))
  where
    is_less : (r : Ordering) → is_lt r ≡ true → r ≡ Less
    is_less Less e = refl
    is_less Equal e = absurd (cc)
    is_less Greater e = absurd (cc)

-- The least item of a name is the first.
pub least-read : (source : HarvestSource) (g : Gathered) (name : List ℕ)
    → least_named source (map (read_item g.settled) g.items) name
    ≡ option_map (read_item g.settled)
    (find (λ (i : Item). bytes_eq (harvested_name source.name i.iri) name) (first_items g.items))
least-read source g name =
    ap (find (λ (r : ListedIri). bytes_eq (item_name source r) name)) (items_by_iri-read g.settled g.items)
    ∙ find-map (read_item g.settled) (λ (r : ListedIri). bytes_eq (item_name source r) name)
    (λ (i : Item). bytes_eq (harvested_name source.name i.iri) name) (λ i. refl) (first_items g.items)

-- ---- what is left

module _ (sure : Type 0) (source : HarvestSource) (old : List Package) (g : Gathered) (listing : Listing)
    (ds : List Package) (so : IsSettling sure source old g listing ds) (done : list_all is_done listing.objects ≡ true)
    (up_old : IsAscending name_cmp old) (up : IsAscending name_cmp ds)
    (named : (d : Package) → IsIn d ds → d.name ≡ harvested_name source.name d.iri) where
  lists-listed : (iri : List ℕ) → lists listing iri ≡ is_listed (map (read_item g.settled) g.items) iri
  lists-listed iri =
      sym (list_any-map (λ (o : ListedObject). o.iri) (λ (x : List ℕ). bytes_eq x iri) listing.objects)
      ∙ ap (list_any (λ (x : List ℕ). bytes_eq x iri)) so.iris
      ∙ list_any-map (λ (i : Item). i.iri) (λ (x : List ℕ). bytes_eq x iri) (first_items g.items)
      ∙ any-first_items iri g.items
      ∙ sym (list_any-map (read_item g.settled) (λ (r : ListedIri). bytes_eq r.iri iri) g.items)

  lists-first : (iri : List ℕ) → lists listing iri ≡ list_any (λ (i : Item). bytes_eq i.iri iri) (first_items g.items)
  lists-first iri =
      sym (list_any-map (λ (o : ListedObject). o.iri) (λ (x : List ℕ). bytes_eq x iri) listing.objects)
      ∙ ap (list_any (λ (x : List ℕ). bytes_eq x iri)) so.iris
      ∙ list_any-map (λ (i : Item). i.iri) (λ (x : List ℕ). bytes_eq x iri) (first_items g.items)

  left-now : (name : List ℕ)
      → dataset_named (filter (λ (d : Package). lists listing d.iri) ds) name
      ≡ option_and_then (λ (d : Package). then_some (lists listing d.iri) d)
      (settled_or (dataset_named old name) source (read_named source g.settled name))
  left-now name =
      find-kept_alone (λ (d : Package). bytes_eq d.name name) (λ (d : Package). lists listing d.iri) ds
      (alone-name name ds up)
      ∙ ap (option_and_then (λ (d : Package). then_some (lists listing d.iri) d)) (so.looks name)

  kept-old : (name : List ℕ)
      → kept_dataset old (map (read_item g.settled) g.items) name
      ≡ option_and_then (λ (d : Package). then_some (lists listing d.iri) d) (dataset_named old name)
  kept-old name =
      find-both (λ (d : Package). bytes_eq d.name name)
      (λ (d : Package). is_listed (map (read_item g.settled) g.items) d.iri) old
      ∙ ap (λ (l : List Package). dataset_named l name)
      (filter-alike (λ (d : Package). is_listed (map (read_item g.settled) g.items) d.iri)
      (λ (d : Package). lists listing d.iri) old (λ d m. sym (lists-listed d.iri)))
      ∙ find-kept_alone (λ (d : Package). bytes_eq d.name name) (λ (d : Package). lists listing d.iri) old
      (alone-name name old up_old)

  -- nothing is left of a name that no item has
  none-left : (name : List ℕ)
      → find (λ (i : Item). bytes_eq (harvested_name source.name i.iri) name) (first_items g.items) ≡ None
      → dataset_named (filter (λ (d : Package). lists listing d.iri) ds) name ≡ None
  none-left name none =
      none-find (λ (d : Package). bytes_eq d.name name) (filter (λ (d : Package). lists listing d.iri) ds)
      (λ d m. fails (bytes_eq d.name name) (λ like.
      let here = IsIn-filter (λ (e : Package). lists listing e.iri) d ds m in
      let w = any-found (λ (i : Item). bytes_eq i.iri d.iri) (first_items g.items)
      (sym (lists-first d.iri) ∙ here.1) in
      let iri : w.0.iri ≡ d.iri = (bytes_eq-Decides w.0.iri d.iri).0 w.2 in
      let alike : harvested_name source.name w.0.iri ≡ name =
      ap (harvested_name source.name) iri ∙ sym (named d here.0) ∙ (bytes_eq-Decides d.name name).0 like in
      true≢false (sym ((bytes_eq-Decides (harvested_name source.name w.0.iri) name).1 alike)
      ∙ find-none (λ (i : Item). bytes_eq (harvested_name source.name i.iri) name) w.0 (first_items g.items) none
      w.1)))

  -- it was settled
  was-read : (item : Item) → IsIn item (first_items g.items) → is_shadowed source.name g.items item.iri ≡ false
      → (read : ListedIri) × (read_of g.settled item.iri ≡ Some read)
  was-read item m unshadowed =
      let w = map-IsIn (λ (o : ListedObject). o.iri) item.iri listing.objects
      (subst (IsIn item.iri) (sym so.iris) (IsIn-map (λ (i : Item). i.iri) item (first_items g.items) m)) in
      by (read_of g.settled item.iri) (outcome_if_done w.0.progress) refl
      (list_all-IsIn is_done listing.objects done w.0 w.1)
      (so.objects w.0 w.1
      ∙ ap (expected source.name g) (sym w.2)
      ∙ ap (λ (b : Bool). cond b (Some (Some SameName))
      (option_map (λ (r : ListedIri). cause_in r.reading) (read_of g.settled item.iri))) unshadowed)
    where
      by : (o : Option ListedIri) (p : Option Outcome) → read_of g.settled item.iri ≡ o → is_some p ≡ true
          → option_map cause_of p
          ≡ option_map (λ (r : ListedIri). cause_in r.reading) o
          → (read : ListedIri) × (read_of g.settled item.iri ≡ Some read)
      by (Some read) p is some e = (read, is)
      by None None is some e = absurd (cc)
      by None (Some outcome) is some e = absurd (cc)

  named-read : (name : List ℕ) (item : Item) → IsIn item (first_items g.items)
      → harvested_name source.name item.iri ≡ name → is_shadowed source.name g.items item.iri ≡ false
      → read_named source g.settled name ≡ read_of g.settled item.iri
  named-read name item m alike unshadowed =
      find-alike (λ (r : ListedIri). bytes_eq (item_name source r) name) (λ (r : ListedIri). bytes_eq r.iri item.iri)
      g.settled (λ r n. by r n (bytes_eq r.iri item.iri) refl)
    where
      by : (r : ListedIri) → IsIn r g.settled → (b : Bool) → bytes_eq r.iri item.iri ≡ b
          → bytes_eq (item_name source r) name ≡ b
      by r n true like =
          (bytes_eq-Decides (item_name source r) name).1
          (ap (harvested_name source.name) ((bytes_eq-Decides r.iri item.iri).0 like) ∙ alike)
      by r n false unlike = fails (bytes_eq (item_name source r) name) (λ like.
          let facts = so.settled r n in
          let same : r.iri ≡ item.iri = unshadowed-same source.name g.items r.iri item.iri facts.0
          (IsIn-map (λ (i : Item). i.iri) item (first_items g.items) m) facts.1 unshadowed
          ((bytes_eq-Decides (item_name source r) name).0 like ∙ sym alike) in
          true≢false (sym ((bytes_eq-Decides r.iri item.iri).1 same) ∙ unlike))

  -- a harvested dataset is listed
  keeps-harvested : (read : ListedIri) (r : HarvestRecord) → lists listing read.iri ≡ true
      → then_some (lists listing (harvested_dataset source read.iri r).iri) (harvested_dataset source read.iri r)
      ≡ Some (harvested_dataset source read.iri r)
  unfolding harvested_dataset
  keeps-harvested read r listed =
      ap (λ (b : Bool). then_some b (harvested_dataset source read.iri r)) listed

  of_item : (name : List ℕ) (item : Item)
      → find (λ (i : Item). bytes_eq (harvested_name source.name i.iri) name) (first_items g.items) ≡ Some item
      → dataset_named (filter (λ (d : Package). lists listing d.iri) ds) name
      ≡ harvested_or (kept_dataset old (map (read_item g.settled) g.items) name) source item.iri
      (reading_or_namesake (read_of g.settled item.iri))
  of_item name item is =
      let there = IsIn-find (λ (i : Item). bytes_eq (harvested_name source.name i.iri) name) item (first_items g.items)
      is in
      let alike = (bytes_eq-Decides (harvested_name source.name item.iri) name).0 there.1 in
      let unshadowed = first-free source g.items name item is in
      let w = was-read item there.0 unshadowed in
      let iri : w.0.iri ≡ item.iri =
      (bytes_eq-Decides w.0.iri item.iri).0
      (IsIn-find (λ (r : ListedIri). bytes_eq r.iri item.iri) w.0 g.settled w.1).1 in
      let listed : lists listing w.0.iri ≡ true =
      lists-first w.0.iri
      ∙ list_any-IsIn (λ (i : Item). bytes_eq i.iri w.0.iri) item (first_items g.items) there.0
      ((bytes_eq-Decides item.iri w.0.iri).1 (sym iri)) in
      left-now name
      ∙ ap (λ (o : Option ListedIri). option_and_then (λ (d : Package). then_some (lists listing d.iri) d)
      (settled_or (dataset_named old name) source o)) (named-read name item there.0 alike unshadowed ∙ w.1)
      ∙ by w.0 w.0.reading listed
      ∙ ap (λ (i : List ℕ). harvested_or (kept_dataset old (map (read_item g.settled) g.items) name) source i
      w.0.reading) iri
      ∙ ap (λ (o : Option ListedIri). harvested_or (kept_dataset old (map (read_item g.settled) g.items) name) source
      item.iri (reading_or_namesake o)) (sym w.1)
    where
      by : (read : ListedIri) (reading : Reading) → lists listing read.iri ≡ true
          → option_and_then (λ (d : Package). then_some (lists listing d.iri) d)
          (harvested_or (dataset_named old name) source read.iri reading)
          ≡ harvested_or (kept_dataset old (map (read_item g.settled) g.items) name) source read.iri reading
      by read (Good r) listed = keeps-harvested read r listed
      by read (Bad cause) listed = sym (kept-old name)

  look-up : (name : List ℕ)
      → dataset_named (filter (λ (d : Package). lists listing d.iri) ds) name
      ≡ dataset_left old source (map (read_item g.settled) g.items) name
  look-up name =
      by (find (λ (i : Item). bytes_eq (harvested_name source.name i.iri) name) (first_items g.items)) refl
      ∙ sym (ap (dataset_of_item (kept_dataset old (map (read_item g.settled) g.items) name) source)
      (least-read source g name))
    where
      by : (o : Option Item)
          → find (λ (i : Item). bytes_eq (harvested_name source.name i.iri) name) (first_items g.items) ≡ o
          → dataset_named (filter (λ (d : Package). lists listing d.iri) ds) name
          ≡ dataset_of_item (kept_dataset old (map (read_item g.settled) g.items) name) source
          (option_map (read_item g.settled) o)
      by None is = none-left name is
      by (Some item) is = of_item name item is

  -- The listed datasets are what the reading leaves.
  pub settled-after : filter (λ (d : Package). lists listing d.iri) ds ≡ datasets_after old (reading_of source g)
  settled-after =
      after-determined old source (map (read_item g.settled) g.items) g.unnamed
      (filter (λ (d : Package). lists listing d.iri) ds)
      (IsAscending-filter name_cmp (λ (d : Package). lists listing d.iri) ds up) look-up

-- The listed items: by IRI, by the names of their datasets, and the least of a name.
use Rattle.std.proofs.Common.{◌≡◌, ℕ, Bool, true, false, List, [], ◌∷◌, Option, Some, None, refl, sym, ap, ◌∙◌}
use Rattle.std.proofs.Common.{inl, inr, ◌||◌, ◌⊎◌, cond, subst, ◌≢◌, Contains}
use Rattle.std.specs.Prelude.{All, IfSome}
use Rattle.std.specs.declared.cmp.Ordering.{Ordering}
use Rattle.std.specs.declared.cmp.Ordering.TheVariants.{Less}
use Rattle.std.specs.Ordering.{is_eq, nat_cmp, ordering_reverse}
use Rattle.std.specs.Cmp.{IsTotalOrder}
use Rattle.std.specs.Cmp.Lexicographic.{slice_cmp, nat_list_cmp_total}
use Rattle.std.specs.List.{find}
use Rattle.std.specs.Str.{bytes_eq}
use Rattle.std.proofs.lemmas.Bool.{or_right}
use Rattle.std.proofs.lemmas.Cmp.{on_total}
use Rattle.std.proofs.lemmas.Map.Text.{is_eq-slice_cmp}
use Rattle.std.proofs.lemmas.Slice.Eq.{bytes_eq-Decides}
use Rattle.portal_base.specs.Ordered.{IsAscending}
use Rattle.portal_base.proofs.Unique.{IsIn, Contains-IsIn, below_in, not_below_itself}
use Rattle.portal_base.proofs.Upserted.{All-each, IsAscending-upserted, IsIn-upserted, upserted-IsIn, upserted-IsIn_other}
use Rattle.packages.proofs.FindLemmas.{IsIn-find, find-none}
use Rattle.harvest_records.specs.Names.{harvested_name}
use Rattle.harvest_results.specs.Readings.{ListedIri, is_listed, iri_cmp, item_name, items_by_iri, least_named}
use Rattle.harvest_results.specs.Readings.{listed_names}
use Rattle.harvest_sources.specs.declared.source.HarvestSource.{HarvestSource}

pub items_by_iri-IsIn : (z : ListedIri) (items : List ListedIri) → IsIn z (items_by_iri items) → IsIn z items
items_by_iri-IsIn z [] m = m
items_by_iri-IsIn z (item ∷ items) m =
    by (IsIn-upserted iri_cmp item z (items_by_iri items) m) (items_by_iri-IsIn z items)
  where
    by : (z ≡ item) ⊎ (IsIn z (items_by_iri items) × (is_eq (iri_cmp z item) ≡ false))
        → (IsIn z (items_by_iri items) → IsIn z items) → IsIn z (item ∷ items)
    by (inl same) go = inl same
    by (inr n) go = inr (go n.0)

pub IsAscending-listed_names : (source : HarvestSource) (items : List ListedIri)
    → IsAscending (slice_cmp nat_cmp) (listed_names source items)
IsAscending-listed_names source [] = tt
IsAscending-listed_names source (item ∷ items) =
    IsAscending-upserted (slice_cmp nat_cmp) nat_list_cmp_total (item_name source item) (listed_names source items)
    (IsAscending-listed_names source items)

-- The name of each item's dataset is among the names.
pub IsIn-listed_names : (source : HarvestSource) (item : ListedIri) (items : List ListedIri) → IsIn item items
    → IsIn (item_name source item) (listed_names source items)
IsIn-listed_names source item [] m = absurd m
IsIn-listed_names source item (i ∷ is) (inl same) =
    subst (λ (n : List ℕ). IsIn n (listed_names source (i ∷ is))) (sym (ap (item_name source) same))
    (upserted-IsIn (slice_cmp nat_cmp) (item_name source i) (listed_names source is))
IsIn-listed_names source item (i ∷ is) (inr m) =
    by (bytes_eq (item_name source item) (item_name source i)) refl (IsIn-listed_names source item is m)
  where
    by : (b : Bool) → bytes_eq (item_name source item) (item_name source i) ≡ b
        → IsIn (item_name source item) (listed_names source is)
        → IsIn (item_name source item) (listed_names source (i ∷ is))
    by true like n =
        subst (λ (n : List ℕ). IsIn n (listed_names source (i ∷ is)))
        (sym ((bytes_eq-Decides (item_name source item) (item_name source i)).0 like))
        (upserted-IsIn (slice_cmp nat_cmp) (item_name source i) (listed_names source is))
    by false unlike n =
        upserted-IsIn_other (slice_cmp nat_cmp) (item_name source i) (item_name source item) (listed_names source is) n
        (is_eq-slice_cmp (item_name source item) (item_name source i) ∙ unlike)

pub IsIn-listed : (item : ListedIri) (items : List ListedIri) → IsIn item items → is_listed items item.iri ≡ true
IsIn-listed item [] m = absurd m
IsIn-listed item (i ∷ is) (inl same) =
    ap (λ b. b || is_listed is item.iri) ((bytes_eq-Decides i.iri item.iri).1 (ap (λ (j : ListedIri). j.iri) (sym same)))
IsIn-listed item (i ∷ is) (inr m) = or_right (bytes_eq i.iri item.iri) _ (IsIn-listed item is m)

-- An item is found only under the name of its dataset.
pub found-name : (source : HarvestSource) (items : List ListedIri) (name : List ℕ) (item : ListedIri)
    → least_named source items name ≡ Some item → IsIn item items × (item_name source item ≡ name)
found-name source items name item is =
    let there = IsIn-find (λ (i : ListedIri). bytes_eq (item_name source i) name) item (items_by_iri items) is in
    (items_by_iri-IsIn item items there.0, (bytes_eq-Decides (item_name source item) name).0 there.1)

-- ---- the least item of a name

iri_cmp_total : IsTotalOrder iri_cmp
iri_cmp_total = on_total (λ (i : ListedIri). i.iri) nat_list_cmp_total

pub IsAscending-items_by_iri : (items : List ListedIri) → IsAscending iri_cmp (items_by_iri items)
IsAscending-items_by_iri [] = tt
IsAscending-items_by_iri (item ∷ items) =
    IsAscending-upserted iri_cmp iri_cmp_total item (items_by_iri items) (IsAscending-items_by_iri items)

-- Each IRI has its item.
IsIn-items_by_iri : (z : ListedIri) (items : List ListedIri) → IsIn z items
    → (w : ListedIri) × IsIn w (items_by_iri items) × (w.iri ≡ z.iri)
IsIn-items_by_iri z [] m = absurd m
IsIn-items_by_iri z (i ∷ is) (inl same) =
    (i, upserted-IsIn iri_cmp i (items_by_iri is), ap (λ (j : ListedIri). j.iri) (sym same))
IsIn-items_by_iri z (i ∷ is) (inr m) = let w = IsIn-items_by_iri z is m in by w (bytes_eq w.0.iri i.iri) refl
  where
    by : (w : (v : ListedIri) × IsIn v (items_by_iri is) × (v.iri ≡ z.iri)) (b : Bool) → bytes_eq w.0.iri i.iri ≡ b
        → (v : ListedIri) × IsIn v (items_by_iri (i ∷ is)) × (v.iri ≡ z.iri)
    by w true like =
        (i, upserted-IsIn iri_cmp i (items_by_iri is), sym ((bytes_eq-Decides w.0.iri i.iri).0 like) ∙ w.2)
    by w false unlike =
        (w.0, upserted-IsIn_other iri_cmp i w.0 (items_by_iri is) w.1 (is_eq-slice_cmp w.0.iri i.iri ∙ unlike), w.2)

-- No item is below one that is below it.
not_both : {X : Type 0} (cmp : X → X → Ordering) (o : IsTotalOrder cmp) (x y : X) → cmp x y ≡ Less → cmp y x ≡ Less → ⊥
not_both cmp o x y less more =
    let back : cmp x y ≡ ordering_reverse (cmp y x) = o.antisymm x y in
    let greater = back ∙ ap ordering_reverse more in absurd (cc)

-- The first item that passes is the least.
pub first-least : {X : Type 0} (cmp : X → X → Ordering) (o : IsTotalOrder cmp) (p : X → Bool) (x y : X) (xs : List X)
    → IsAscending cmp xs → find p xs ≡ Some x → IsIn y xs → p y ≡ true → cmp y x ≡ Less → ⊥
first-least cmp o p x y [] up found m passes below = absurd m
first-least {X} cmp o p x y (z ∷ zs) up found m passes below =
    by (p z) refl found m (first-least cmp o p x y zs up.1)
  where
    by : (b : Bool) → p z ≡ b → cond b (Some z) (find p zs) ≡ Some x → IsIn y (z ∷ zs)
        → (find p zs ≡ Some x → IsIn y zs → p y ≡ true → cmp y x ≡ Less → ⊥) → ⊥
    by true is e (inl same) go =
        let first : z ≡ x = cc in
        not_below_itself cmp o x (subst (λ (v : X). cmp v x ≡ Less) (same ∙ first) below)
    by true is e (inr n) go =
        let first : z ≡ x = cc in
        let above : cmp x y ≡ Less = subst (λ (v : X). cmp v y ≡ Less) first (below_in cmp z y zs up.0 n) in
        not_both cmp o x y above below
    by false is e (inl same) go =
        let no : p y ≡ false = ap p same ∙ is in absurd (cc)
    by false is e (inr n) go = go e n passes below

-- An item of the name isn't below the found one.
pub none-below : (source : HarvestSource) (items : List ListedIri) (name : List ℕ) (item other : ListedIri)
    → least_named source items name ≡ Some item → IsIn other items → item_name source other ≡ name
    → iri_cmp other item ≢ Less
none-below source items name item other found m named below =
    let w = IsIn-items_by_iri other items m in
    let test : ListedIri → Bool = λ i. bytes_eq (item_name source i) name in
    let passes : test w.0 ≡ true =
    (bytes_eq-Decides (item_name source w.0) name).1 (ap (harvested_name source.name) w.2 ∙ named) in
    first-least iri_cmp iri_cmp_total test item w.0 (items_by_iri items) (IsAscending-items_by_iri items) found w.1
    passes
    (ap (λ (iri : List ℕ). slice_cmp nat_cmp iri item.iri) w.2 ∙ below)

pub least-found : (source : HarvestSource) (items : List ListedIri) (name : List ℕ)
    → IfSome (least_named source items name) (λ item. Contains items item × (item_name source item ≡ name))
least-found source items name = by (least_named source items name) refl
  where
    by : (o : Option ListedIri) → least_named source items name ≡ o
        → IfSome o (λ item. Contains items item × (item_name source item ≡ name))
    by None e = tt
    by (Some item) e =
        let there = found-name source items name item e in (Contains-IsIn item items there.0, there.1)

pub least-below : (source : HarvestSource) (items : List ListedIri) (name : List ℕ)
    → IfSome (least_named source items name)
    (λ item. All (λ other. item_name source other ≡ name → iri_cmp other item ≢ Less) items)
least-below source items name = by (least_named source items name) refl
  where
    by : (o : Option ListedIri) → least_named source items name ≡ o
        → IfSome o (λ item. All (λ other. item_name source other ≡ name → iri_cmp other item ≢ Less) items)
    by None e = tt
    by (Some item) e =
        All-each (λ other. item_name source other ≡ name → iri_cmp other item ≢ Less) items
        (λ other m named. none-below source items name item other e m named)

pub least-none : (source : HarvestSource) (items : List ListedIri) (name : List ℕ)
    → least_named source items name ≡ None → All (λ other. item_name source other ≢ name) items
least-none source items name none =
    All-each (λ other. item_name source other ≢ name) items
    (λ other m named. let w = IsIn-items_by_iri other items m in
    let test : ListedIri → Bool = λ i. bytes_eq (item_name source i) name in
    let no : test w.0 ≡ false = find-none test w.0 (items_by_iri items) none w.1 in
    let yes : test w.0 ≡ true =
    (bytes_eq-Decides (item_name source w.0) name).1 (ap (harvested_name source.name) w.2 ∙ named) in
    absurd (cc))

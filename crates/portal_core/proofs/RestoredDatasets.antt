-- Datasets that may stand on one shelf.
use Rattle.std.proofs.Common.{◌≡◌, ◌∙◌, Bool, true, false, ◌||◌, not, List, [], ◌∷◌, All, Option, Some, None, inl, inr}
use Rattle.std.proofs.Common.{refl, sym, ap, subst, Contains, IfOk, IfSome, IfNone, true≢false}
use Rattle.std.specs.Prelude.{Result, Ok, Err, is_some}
use Rattle.std.specs.Str.{bytes_eq}
use Rattle.std.proofs.lemmas.Slice.Eq.{bytes_eq-Decides}
use Rattle.portal_base.specs.Ordered.{IsAscending, ascending}
use Rattle.portal_base.proofs.Unique.{IsIn, IsIn-Contains}
use Rattle.portal_base.proofs.Upserted.{All-IsIn, All-each, ascending-same}
use Rattle.org_roles.specs.PeopleLists.{PeopleLists}
use Rattle.datastore_answers.proofs.KeepLemmas.{none-passes}
use Rattle.datastore_table.proofs.RowLemmas.{both_hold}
use Rattle.harvest_results.proofs.SourceEntryLemmas.{same_bytes, same_member}
use Rattle.harvest_sources.specs.Sources.{SourceState}
use Rattle.packages.specs.Named.{is_named}
use Rattle.packages.specs.Numbered.{AreNumbered}
use Rattle.packages.specs.Order.{dataset_cmp, dataset_cmp_total}
use Rattle.packages.specs.Restored.{have_unique_keys, is_free, is_in_use}
use Rattle.packages.specs.Shelf.{ShelfState, datasets_of}
use Rattle.packages.specs.declared.package.Package.{Package}
use Rattle.packages.proofs.RestoreLemmas.{valid-unique}
use Rattle.portal_core.specs.Restored.{AreShelvable}
use Rattle.portal_state.specs.Valid.{IsSoundAmong}
use Rattle.portal_state.proofs.Shelving.{name_is_no_id}
use Rattle.portal_core.proofs.SoundAmong.{among-numbered}

-- A dataset whose name is an id is the one of that id: no made dataset has such a name, and a harvested one has its own name
-- as its id.
names_and_ids : (people : PeopleLists) (sources : List SourceState) (datasets : List Package)
    → IsAscending dataset_cmp datasets → AreShelvable people sources datasets → (d e : Package) → Contains datasets d
    → Contains datasets e → d.name ≡ e.id → d ≡ e
names_and_ids people sources datasets up is d e among also same =
    by (All-IsIn (IsSoundAmong people sources) datasets is.sound d (IsIn-Contains d datasets among))
    (All-IsIn (IsSoundAmong people sources) datasets is.sound e (IsIn-Contains e datasets also))
  where
    by : IsSoundAmong people sources d → IsSoundAmong people sources e → d ≡ e
    by (inl one) (inl other) =
        absurd
        (true≢false (sym ((bytes_eq-Decides e.id d.name).1 (sym same)) ∙ name_is_no_id d.name e.id one.name other.id))
    by (inl one) (inr other) = is.names d e among also (same ∙ other.own.id_is_name)
    by (inr one) other =
        same_member dataset_cmp dataset_cmp_total d e datasets up (IsIn-Contains d datasets among)
        (IsIn-Contains e datasets also) (same_bytes d.id e.id (one.own.id_is_name ∙ same))

pub shelvable-unique : (people : PeopleLists) (sources : List SourceState) (datasets : List Package)
    → IsAscending dataset_cmp datasets → AreShelvable people sources datasets → have_unique_keys datasets ≡ true
shelvable-unique people sources datasets up is =
    valid-unique datasets up is.names (names_and_ids people sources datasets up is)

-- Where keys are unique, no two datasets have one name.
unique-names : (datasets : List Package) → have_unique_keys datasets ≡ true → (d e : Package) → IsIn d datasets
    → IsIn e datasets → d.name ≡ e.name → d ≡ e
unique-names [] one d e m n same = absurd m
unique-names (x ∷ xs) one d e m n same =
    let parts = both_hold (is_free x xs) (have_unique_keys xs) one in
    by (both_hold (not (is_in_use x.id xs)) (not (is_in_use x.name xs)) parts.0).1 m n
    (unique-names xs parts.1 d e)
  where
    false_of : (b : Bool) → not b ≡ true → b ≡ false
    false_of true h = absurd (cc)
    false_of false h = refl

    called : (y : Package) → y.name ≡ x.name → is_named x.name y ≡ true
    called y is = or_right (bytes_eq y.id x.name) (bytes_eq y.name x.name) ((bytes_eq-Decides y.name x.name).1 is)
      where
        or_right : (a b : Bool) → b ≡ true → (a || b) ≡ true
        or_right true b h = refl
        or_right false b h = h

    alone : not (is_in_use x.name xs) ≡ true → (y : Package) → IsIn y xs → y.name ≡ x.name → ⊥
    alone free y k is =
        true≢false (sym (called y is)
        ∙ none-passes (is_named x.name) xs (false_of (is_in_use x.name xs) free) y k)

    by : not (is_in_use x.name xs) ≡ true → IsIn d (x ∷ xs) → IsIn e (x ∷ xs)
        → (IsIn d xs → IsIn e xs → d.name ≡ e.name → d ≡ e) → d ≡ e
    by free (inl first) (inl second) go = first ∙ sym second
    by free (inl first) (inr k) go =
        absurd (alone free e k (sym same ∙ ap (λ (y : Package). y.name) first))
    by free (inr k) (inl second) go =
        absurd (alone free d k (same ∙ ap (λ (y : Package). y.name) second))
    by free (inr k) (inr j) go = go k j same

unique-shelvable : (people : PeopleLists) (sources : List SourceState) (datasets : List Package)
    → All (IsSoundAmong people sources) datasets → have_unique_keys datasets ≡ true
    → AreShelvable people sources datasets
unique-shelvable people sources datasets sound one = record {
  sound = sound;
  names = λ d e among also same.
      unique-names datasets one d e (IsIn-Contains d datasets among) (IsIn-Contains e datasets also) same;
}

pub restored-shelvable : {E : Type 0} (r : Result (Option ShelfState) E) (people : PeopleLists)
    (sources : List SourceState) (datasets : List Package) → All (IsSoundAmong people sources) datasets
    → IfOk r (λ o. is_some o ≡ have_unique_keys datasets)
    → IfOk r (λ o. IfSome o (λ shelf. AreShelvable people sources datasets))
restored-shelvable (Err e) people sources datasets sound exact = tt
restored-shelvable (Ok None) people sources datasets sound exact = tt
restored-shelvable (Ok (Some shelf)) people sources datasets sound exact =
    unique-shelvable people sources datasets sound (sym exact)

pub restored-datasets : {E : Type 0} (r : Result (Option ShelfState) E) (datasets : List Package)
    → IsAscending dataset_cmp datasets
    → IfOk r (λ o. IfSome o (λ shelf. datasets_of shelf ≡ ascending dataset_cmp datasets))
    → IfOk r (λ o. IfSome o (λ shelf. datasets_of shelf ≡ datasets))
restored-datasets (Err e) datasets up is = tt
restored-datasets (Ok None) datasets up is = tt
restored-datasets (Ok (Some shelf)) datasets up is =
    is ∙ ascending-same dataset_cmp dataset_cmp_total datasets up

pub unrestored-shelf : {E : Type 0} (r : Result (Option ShelfState) E) (people : PeopleLists)
    (sources : List SourceState) (datasets : List Package) → IsAscending dataset_cmp datasets
    → IfOk r (λ o. is_some o ≡ have_unique_keys datasets)
    → IfOk r (λ o. IfNone o (AreShelvable people sources datasets → ⊥))
unrestored-shelf (Err e) people sources datasets up exact = tt
unrestored-shelf (Ok (Some shelf)) people sources datasets up exact = tt
unrestored-shelf (Ok None) people sources datasets up exact =
    λ is. true≢false (sym (shelvable-unique people sources datasets up is) ∙ sym exact)

pub shelvable-numbered : (people : PeopleLists) (sources : List SourceState) (datasets listed : List Package)
    → AreShelvable people sources datasets → listed ≡ datasets → All AreNumbered listed
shelvable-numbered people sources datasets listed is same =
    subst (All AreNumbered) (sym same)
    (All-each AreNumbered datasets (λ d m.
    among-numbered people sources d (All-IsIn (IsSoundAmong people sources) datasets is.sound d m)))

-- What a step puts and drops, in the datasets of a source.
use Rattle.std.proofs.Common.{◌≡◌, ◌≢◌, ℕ, Bool, true, false, not, ◌&&◌, cond, List, [], ◌∷◌, Some, refl, sym, ap}
use Rattle.std.proofs.Common.{◌∙◌, inl, inr, true≢false}
use Rattle.std.specs.Prelude.{filter}
use Rattle.std.specs.declared.cmp.Ordering.TheVariants.{Equal}
use Rattle.std.specs.List.{find, list_any}
use Rattle.std.specs.Ordering.{is_eq}
use Rattle.std.specs.Str.{bytes_eq}
use Rattle.std.proofs.lemmas.Bool.{and_parts}
use Rattle.std.proofs.lemmas.Map.Text.{is_eq-slice_cmp}
use Rattle.std.proofs.lemmas.Slice.Eq.{bytes_eq-Decides}
use Rattle.portal_base.specs.Ordered.{IsAscending, dropped, upserted}
use Rattle.portal_base.proofs.Filtered.{IsIn-filter, filter-IsIn, filter-all, filter-filter}
use Rattle.portal_base.proofs.Inserted.{find-inserted_found, find-inserted_other}
use Rattle.portal_base.proofs.Unique.{IsIn}
use Rattle.portal_base.proofs.Upserted.{IsIn-dropped, filter-upserted, filter-upserted_hidden}
use Rattle.packages.specs.Order.{dataset_cmp, dataset_cmp_total}
use Rattle.packages.specs.declared.package.Package.{Package}
use Rattle.packages.proofs.FindLemmas.{fails, none-list_any}
use Rattle.harvest_sources.specs.declared.listing.ListedObject.{ListedObject}
use Rattle.harvest_sources.specs.declared.listing.Listing.{Listing}
use Rattle.harvest_sources.specs.declared.source.HarvestSource.{HarvestSource}
use Rattle.harvest_results.specs.Effects.{is_of_source, is_unlisted, with_put, without}
use Rattle.harvest_results.proofs.CountLemmas.{list_any-IsIn}
use Rattle.harvest_results.proofs.SourceEntryLemmas.{same_bytes, same_member}

pub without-none : (ds : List Package) → without [] ds ≡ ds
without-none ds = filter-all (λ (d : Package). true) ds (λ d m. refl)

pub filter-alike : {X : Type 0} (p q : X → Bool) (xs : List X) → ((x : X) → IsIn x xs → p x ≡ q x)
    → filter p xs ≡ filter q xs
filter-alike p q [] same = refl
filter-alike p q (x ∷ xs) same =
    ap (λ b. cond b (x ∷ filter p xs) (filter p xs)) (same x (inl refl))
    ∙ ap (λ l. cond (q x) (x ∷ l) l) (filter-alike p q xs (λ y m. same y (inr m)))

same_dataset : (ds : List Package) (d e : Package) → IsAscending dataset_cmp ds → IsIn d ds → IsIn e ds
    → bytes_eq d.id e.id ≡ true → d ≡ e
same_dataset ds d e up m n like =
    same_member dataset_cmp dataset_cmp_total d e ds up m n (same_bytes d.id e.id ((bytes_eq-Decides d.id e.id).0 like))

-- ---- a dataset that is put

-- A dataset of another source leaves the source's datasets, if none of these has its id.
pub put-apart : (source : HarvestSource) (d : Package) (ds : List Package) → IsAscending dataset_cmp ds
    → d.source ≢ source.name → ((e : Package) → IsIn e ds → e.id ≡ d.id → e.source ≢ source.name)
    → filter (is_of_source source.name) (with_put (Some d) ds) ≡ filter (is_of_source source.name) ds
put-apart source d ds up other apart =
    filter-upserted_hidden dataset_cmp dataset_cmp_total (is_of_source source.name) d ds up
    (fails (is_of_source source.name d) (λ is. other ((bytes_eq-Decides d.source source.name).0 is)))
    (λ e m like. fails (is_of_source source.name e)
    (λ is. apart e m (ids e like) ((bytes_eq-Decides e.source source.name).0 is)))
  where
    ids : (e : Package) → dataset_cmp e d ≡ Equal → e.id ≡ d.id
    ids e like =
        (bytes_eq-Decides e.id d.id).0
        (sym (is_eq-slice_cmp e.id d.id) ∙ ap is_eq like)

-- A dataset of the source is put among its datasets.
pub put-own : (source : HarvestSource) (d : Package) (ds : List Package) → IsAscending dataset_cmp ds
    → d.source ≡ source.name
    → filter (is_of_source source.name) (with_put (Some d) ds)
    ≡ upserted dataset_cmp d (filter (is_of_source source.name) ds)
put-own source d ds up own =
    let p = is_of_source source.name in
    filter-upserted dataset_cmp dataset_cmp_total p d ds up
    ∙ ap (λ (b : Bool). cond b (upserted dataset_cmp d (filter p ds))
    (filter (λ (e : Package). not (is_eq (dataset_cmp e d))) (filter p ds)))
    ((bytes_eq-Decides d.source source.name).1 own)

pub find-kept : {X : Type 0} (test p : X → Bool) (xs : List X) → ((x : X) → IsIn x xs → p x ≡ false → test x ≡ false)
    → find test (filter p xs) ≡ find test xs
find-kept test p [] apart = refl
find-kept {X} test p (x ∷ xs) apart = by (p x) refl (find-kept test p xs (λ y m. apart y (inr m)))
  where
    by : (b : Bool) → p x ≡ b → find test (filter p xs) ≡ find test xs
        → find test (cond b (x ∷ filter p xs) (filter p xs)) ≡ find test (x ∷ xs)
    by true is rest = ap (λ o. cond (test x) (Some x) o) rest
    by false is rest = rest ∙ sym (ap (λ b. cond b (Some x) (find test xs)) (apart x (inl refl) is))

-- Among datasets whose ids are their names, a dataset that is put is found under its name, and the others as before.
pub put-named : (d : Package) (ds : List Package) (name : List ℕ) → d.id ≡ d.name
    → ((e : Package) → IsIn e ds → e.id ≡ e.name)
    → find (λ (e : Package). bytes_eq e.name name) (upserted dataset_cmp d ds)
    ≡ cond (bytes_eq d.name name) (Some d) (find (λ (e : Package). bytes_eq e.name name) ds)
put-named d ds name own all = by (bytes_eq d.name name) refl
  where
    test : Package → Bool
    test e = bytes_eq e.name name

    rest : List Package
    rest = dropped (λ (e : Package). dataset_cmp e d) ds

    alike : (e : Package) → IsIn e ds → e.name ≡ d.name → is_eq (dataset_cmp e d) ≡ true
    alike e m same = ap is_eq (same_bytes e.id d.id (all e m ∙ same ∙ sym own))

    was_like : (b : Bool) → not b ≡ false → b ≡ true
    was_like true e = refl
    was_like false e = absurd (cc)

    by : (b : Bool) → bytes_eq d.name name ≡ b
        → find test (upserted dataset_cmp d ds) ≡ cond b (Some d) (find test ds)
    by true is =
        find-inserted_found dataset_cmp test d rest is
        (none-list_any test rest (λ e n.
        let there = IsIn-dropped (λ (f : Package). dataset_cmp f d) e ds n in
        fails (test e) (λ like. true≢false (sym (alike e there.0
        ((bytes_eq-Decides e.name name).0 like ∙ sym ((bytes_eq-Decides d.name name).0 is))) ∙ there.1))))
    by false is =
        find-inserted_other dataset_cmp test d rest is
        ∙ find-kept test (λ (e : Package). not (is_eq (dataset_cmp e d))) ds
        (λ e m gone. fails (test e) (λ like.
        let ids : e.id ≡ d.id = (bytes_eq-Decides e.id d.id).0
        (sym (is_eq-slice_cmp e.id d.id) ∙ was_like (is_eq (dataset_cmp e d)) gone) in
        let names : e.name ≡ d.name = sym (all e m) ∙ ids ∙ own in
        true≢false (sym ((bytes_eq-Decides d.name name).1 (sym names ∙ (bytes_eq-Decides e.name name).0 like)) ∙ is)))

-- ---- datasets that are dropped

both_true : (a b : Bool) → a ≡ true → b ≡ true → (a && b) ≡ true
both_true true true p q = refl
both_true true false p q = q
both_true false b p q = p

-- Dropped datasets of another source leave those of the source.
pub gone-apart : (source : HarvestSource) (other : List ℕ) (listing : Listing) (ds : List Package)
    → IsAscending dataset_cmp ds → other ≢ source.name
    → filter (is_of_source source.name) (without (filter (is_unlisted other listing) ds) ds)
    ≡ filter (is_of_source source.name) ds
gone-apart source other listing ds up apart =
    let gone = filter (is_unlisted other listing) ds in
    filter-filter (is_of_source source.name)
    (λ (d : Package). not (list_any (λ (e : Package). bytes_eq e.id d.id) gone)) ds
    ∙ filter-all (λ (d : Package). not (list_any (λ (e : Package). bytes_eq e.id d.id) gone))
    (filter (is_of_source source.name) ds)
    (λ d m. ap not (none-list_any (λ (e : Package). bytes_eq e.id d.id) gone (λ e n. unlike d m e n)))
  where
    unlike : (d : Package) → IsIn d (filter (is_of_source source.name) ds) → (e : Package)
        → IsIn e (filter (is_unlisted other listing) ds) → bytes_eq e.id d.id ≡ false
    unlike d m e n = fails (bytes_eq e.id d.id) (λ like.
        let there = IsIn-filter (is_unlisted other listing) e ds n in
        let here = IsIn-filter (is_of_source source.name) d ds m in
        let of_other = (and_parts (is_of_source other e)
        (not (list_any (λ (o : ListedObject). bytes_eq o.iri e.iri) listing.objects)) there.1).0 in
        apart (sym ((bytes_eq-Decides e.source other).0 of_other)
        ∙ ap (λ (f : Package). f.source) (same_dataset ds e d up there.0 here.0 like)
        ∙ (bytes_eq-Decides d.source source.name).0 here.1))

-- the listing has the IRI
abbrev pub lists : Listing → List ℕ → Bool
lists listing iri = list_any (λ (o : ListedObject). bytes_eq o.iri iri) listing.objects

-- Of the source's datasets the listed ones are left.
pub gone-own : (source : HarvestSource) (listing : Listing) (ds : List Package) → IsAscending dataset_cmp ds
    → filter (is_of_source source.name) (without (filter (is_unlisted source.name listing) ds) ds)
    ≡ filter (λ (d : Package). lists listing d.iri) (filter (is_of_source source.name) ds)
gone-own source listing ds up =
    filter-filter (is_of_source source.name) kept ds
    ∙ filter-alike kept (λ (d : Package). lists listing d.iri) (filter (is_of_source source.name) ds)
    (λ d m. let here = IsIn-filter (is_of_source source.name) d ds m in
    by d here.0 here.1 (lists listing d.iri) refl)
  where
    gone : List Package
    gone = filter (is_unlisted source.name listing) ds

    kept : Package → Bool
    kept d = not (list_any (λ (e : Package). bytes_eq e.id d.id) gone)

    unlike : (d : Package) → IsIn d ds → lists listing d.iri ≡ true → (e : Package) → IsIn e gone
        → bytes_eq e.id d.id ≡ false
    unlike d m listed e n = fails (bytes_eq e.id d.id) (λ like.
        let there = IsIn-filter (is_unlisted source.name listing) e ds n in
        let parts = and_parts (is_of_source source.name e) (not (lists listing e.iri)) there.1 in
        let same : e ≡ d = same_dataset ds e d up there.0 m like in
        true≢false (sym parts.1 ∙ ap (λ (f : Package). not (lists listing f.iri)) same ∙ ap not listed))

    by : (d : Package) → IsIn d ds → is_of_source source.name d ≡ true → (b : Bool) → lists listing d.iri ≡ b
        → kept d ≡ b
    by d m own true listed =
        ap not (none-list_any (λ (e : Package). bytes_eq e.id d.id) gone (λ e n. unlike d m listed e n))
    by d m own false unlisted =
        ap not
        (list_any-IsIn (λ (e : Package). bytes_eq e.id d.id) d gone
        (filter-IsIn (is_unlisted source.name listing) d ds m
        (both_true (is_of_source source.name d) (not (lists listing d.iri)) own (ap not unlisted)))
        ((bytes_eq-Decides d.id d.id).1 refl))

-- Datasets that ascend by name are determined by their look-ups.
use Rattle.std.proofs.Common.{◌≡◌, ℕ, Bool, true, false, cond, List, [], ◌∷◌, Some, refl, sym, ap, ◌∙◌}
use Rattle.std.proofs.Common.{inl, inr}
use Rattle.std.specs.declared.cmp.Ordering.{Ordering}
use Rattle.std.specs.declared.cmp.Ordering.TheVariants.{Less}
use Rattle.std.specs.Ordering.{nat_cmp}
use Rattle.std.specs.Cmp.{IsTotalOrder}
use Rattle.std.specs.Cmp.Lexicographic.{slice_cmp, nat_list_cmp_total}
use Rattle.std.specs.List.{find}
use Rattle.std.specs.Str.{bytes_eq}
use Rattle.std.proofs.lemmas.Cmp.{on_total}
use Rattle.std.proofs.lemmas.Slice.Eq.{bytes_eq-Decides}
use Rattle.portal_base.specs.Ordered.{IsAscending}
use Rattle.portal_base.proofs.Unique.{IsIn, below_in, not_below_itself, unique}
use Rattle.packages.specs.declared.package.Package.{Package}
use Rattle.packages.proofs.FindLemmas.{IsIn-find}
use Rattle.harvest_results.specs.Readings.{ListedIri}
use Rattle.harvest_results.specs.Readings.CatalogueReading.{Listed}
use Rattle.harvest_results.specs.Results.{dataset_left, datasets_after}
use Rattle.harvest_sources.specs.declared.source.HarvestSource.{HarvestSource}
use Rattle.harvest_results.proofs.ResultLemmas.{after-ascending, find-after}

-- by the bytes of the name
abbrev pub name_cmp : Package → Package → Ordering
name_cmp d e = slice_cmp nat_cmp d.name e.name

pub name_cmp_total : IsTotalOrder name_cmp
name_cmp_total = on_total (λ (d : Package). d.name) nat_list_cmp_total

-- A dataset is found under its own name.
found-own : (d : Package) (ds : List Package) → IsAscending name_cmp ds → IsIn d ds
    → find (λ (e : Package). bytes_eq e.name d.name) ds ≡ Some d
found-own d [] up m = absurd m
found-own d (e ∷ es) up (inl same) =
    ap (λ b. cond b (Some e) (find (λ (f : Package). bytes_eq f.name d.name) es))
    ((bytes_eq-Decides e.name d.name).1 (ap (λ (f : Package). f.name) (sym same)))
    ∙ ap Some (sym same)
found-own d (e ∷ es) up (inr m) = by (bytes_eq e.name d.name) refl (found-own d es up.1 m)
  where
    by : (b : Bool) → bytes_eq e.name d.name ≡ b → find (λ (f : Package). bytes_eq f.name d.name) es ≡ Some d
        → cond b (Some e) (find (λ (f : Package). bytes_eq f.name d.name) es) ≡ Some d
    by true like go =
        let below : name_cmp e d ≡ Less = below_in name_cmp e d es up.0 m in
        absurd (not_below_itself name_cmp name_cmp_total d
        (ap (λ (name : List ℕ). slice_cmp nat_cmp name d.name) (sym ((bytes_eq-Decides e.name d.name).0 like)) ∙ below))
    by false unlike go = go

in-other : (ds es : List Package) → IsAscending name_cmp ds
    → ((name : List ℕ) → find (λ (d : Package). bytes_eq d.name name) ds
    ≡ find (λ (d : Package). bytes_eq d.name name) es)
    → (d : Package) → IsIn d ds → IsIn d es
in-other ds es up same d m =
    (IsIn-find (λ (e : Package). bytes_eq e.name d.name) d es (sym (same d.name) ∙ found-own d ds up m)).0

same-look_ups : (ds es : List Package) → IsAscending name_cmp ds → IsAscending name_cmp es
    → ((name : List ℕ) → find (λ (d : Package). bytes_eq d.name name) ds
    ≡ find (λ (d : Package). bytes_eq d.name name) es) → ds ≡ es
same-look_ups ds es up_d up_e same =
    unique name_cmp name_cmp_total ds es up_d up_e (in-other ds es up_d same)
    (in-other es ds up_e (λ name. sym (same name)))

pub after-determined : (old : List Package) (source : HarvestSource) (items : List ListedIri) (unnamed : ℕ)
    (datasets : List Package) → IsAscending name_cmp datasets
    → ((name : List ℕ) → find (λ (d : Package). bytes_eq d.name name) datasets ≡ dataset_left old source items name)
    → datasets ≡ datasets_after old (Listed source items unnamed)
after-determined old source items unnamed datasets up looks =
    same-look_ups datasets (datasets_after old (Listed source items unnamed)) up
    (after-ascending old source items unnamed)
    (λ name. looks name ∙ sym (find-after old source items unnamed name))

-- The dictionary and the errors of a dataset in the view, given all tables and given those of the view.
use Rattle.std.proofs.Common.{◌≡◌, inl, inr, ℕ, ◌+◌, ◌==◌, zero, suc, Bool, true, false, not, ◌||◌, List, []}
use Rattle.std.proofs.Common.{◌∷◌, ◌++◌, arith, map, Option, Some, None, set, slice_get, refl, sym, ap, ◌∙◌, subst}
use Rattle.std.specs.Prelude.{codes}
use Rattle.std.specs.List.{All, Contains, list_any}
use Rattle.std.specs.Str.{bytes_eq}
use Rattle.std.proofs.lemmas.Slice.Eq.{bytes_eq-Decides}
use Rattle.portal_base.specs.KeyErrors.{error_if}
use Rattle.portal_base.specs.declared.json_value.Json.{Json}
use Rattle.portal_base.proofs.Unique.{IsIn, IsIn-Contains}
use Rattle.org_roles.specs.PeopleLists.{PeopleLists}
use Rattle.packages.specs.Errors.{message_unless}
use Rattle.packages.specs.declared.package.Package.{Package}
use Rattle.packages.specs.declared.package.Resource.{Resource}
use Rattle.visibility.specs.TableSummary.{TableSummary, summaries_seen, is_among, breaks_references}
use Rattle.visibility.proofs.TableSummaryLemmas.{IsIdAmong, has_table_seen, breaks_references_seen}
use Rattle.dataset_answers.specs.Dictionary.{package_dictionary, resource_dictionaries}
use Rattle.dataset_answers.specs.Dictionary.{resource_dictionary}
use Rattle.dataset_answers.specs.Fit.{KeepsResources}
use Rattle.dataset_answers.specs.Bodies.{lost_table_error, change_errors, dataset_errors}

-- ---- datasets in the view

-- the id of a dataset is among their ids
pub id-among : (d : Package) (datasets : List Package) → Contains datasets d → IsIdAmong d.id datasets
id-among d datasets is_present = by datasets (IsIn-Contains d datasets is_present)
  where
    or_true : (b : Bool) → (b || true) ≡ true
    or_true true = refl
    or_true false = refl

    by : (ds : List Package) → IsIn d ds → IsIdAmong d.id ds
    by [] m = absurd m
    by (e ∷ es) (inl same) =
        ap (λ b. b || list_any (λ (f : Package). bytes_eq d.id f.id) es)
        (subst (λ (f : Package). bytes_eq d.id f.id ≡ true) same ((bytes_eq-Decides d.id d.id).1 refl))
    by (e ∷ es) (inr m) = ap (λ b. bytes_eq d.id e.id || b) (by es m) ∙ or_true (bytes_eq d.id e.id)

-- ---- dictionaries

pub resource-view : (datasets : List Package) (summaries : List TableSummary) (id : List ℕ) (position : ℕ) (resource : Resource)
    → IsIdAmong id datasets
    → resource_dictionary summaries id position resource ≡ resource_dictionary (summaries_seen datasets summaries) id position resource
resource-view datasets summaries id position resource among =
    rw (has_table_seen datasets summaries id resource.number among) refl

resources-view : (datasets : List Package) (summaries : List TableSummary) (id : List ℕ) (position : ℕ)
    (resources : List Resource) → IsIdAmong id datasets
    → resource_dictionaries summaries id position resources
    ≡ resource_dictionaries (summaries_seen datasets summaries) id position resources
resources-view datasets summaries id position [] among = refl
resources-view datasets summaries id position (r ∷ rs) among =
    ap (λ (j : Json). j ∷ resource_dictionaries summaries id (position + 1) rs)
    (resource-view datasets summaries id position r among)
    ∙ ap (λ (l : List Json). resource_dictionary (summaries_seen datasets summaries) id position r ∷ l)
    (resources-view datasets summaries id (position + 1) rs among)

pub package-view : (people : PeopleLists) (datasets : List Package) (summaries : List TableSummary) (d : Package)
    → IsIdAmong d.id datasets
    → package_dictionary people summaries d ≡ package_dictionary people (summaries_seen datasets summaries) d
package-view people datasets summaries d among = rw (resources-view datasets summaries d.id 0 d.resources among) refl

-- The dictionaries of datasets in the view tell of no table but those of the view.
pub packages_view : (people : PeopleLists) (datasets : List Package) (summaries : List TableSummary) (ds : List Package)
    → All (Contains datasets) ds → map (package_dictionary people summaries) ds
    ≡ map (package_dictionary people (summaries_seen datasets summaries)) ds
packages_view people datasets summaries [] all = refl
packages_view people datasets summaries (d ∷ ds) all =
    ap (λ (j : Json). j ∷ map (package_dictionary people summaries) ds)
    (package-view people datasets summaries d (id-among d datasets (all 0 d (omega arith))))
    ∙ ap (λ (l : List Json). package_dictionary people (summaries_seen datasets summaries) d ∷ l)
    (packages_view people datasets summaries ds (λ k e lt. all (suc k) e (omega (lt, arith))))

-- ---- errors

pub lost_table_error-view : (datasets : List Package) (summaries : List TableSummary) (d : Package) → IsIdAmong d.id datasets
    → lost_table_error summaries d ≡ lost_table_error (summaries_seen datasets summaries) d
lost_table_error-view datasets summaries d among =
    ap (λ (b : Bool). message_unless (not b) (codes "A table of another resource refers to it"))
    (sym (breaks_references_seen datasets summaries d.id d.resources among))

pub change_errors-view : (people : PeopleLists) (datasets : List Package) (summaries : List TableSummary) (body : Json)
    (dataset changed : Package) → IsIdAmong changed.id datasets
    → change_errors people summaries body dataset changed
    ≡ change_errors people (summaries_seen datasets summaries) body dataset changed
change_errors-view people datasets summaries body dataset changed among =
    ap (λ (error : Option (List ℕ)). error_if (codes "resources") error (dataset_errors people body (Some dataset)))
    (lost_table_error-view datasets summaries changed among)

-- without an error no referenced table is lost
pub no_table_lost : (summaries : List TableSummary) (d : Package) → lost_table_error summaries d ≡ None
    → breaks_references summaries d.id d.resources ≡ false
no_table_lost summaries d none = by (breaks_references summaries d.id d.resources) none
  where
    by : (b : Bool) → message_unless (not b) (codes "A table of another resource refers to it") ≡ None → b ≡ false
    by true n = absurd (cc)
    by false n = refl

-- ---- resources that stay

pub all-keep : (d : Package) → KeepsResources d d
all-keep d = λ number among. among

or_more : (a b c : Bool) → (b ≡ true → c ≡ true) → (a || b) ≡ true → (a || c) ≡ true
or_more true b c more holds = refl
or_more false b c more holds = more holds

among-more : (rs : List Resource) (r : Resource) (number : ℕ) → is_among rs number ≡ true
    → is_among (rs ++ r ∷ []) number ≡ true
among-more [] r number among = absurd (cc)
among-more (s ∷ ss) r number among = or_more (s.number == number) _ _ (among-more ss r number) among

-- one more resource
pub more-keep : (old new : Package) (r : Resource) → new.resources ≡ old.resources ++ r ∷ [] → KeepsResources old new
more-keep old new r is = λ number among.
    subst (λ (rs : List Resource). is_among rs number ≡ true) (sym is) (among-more old.resources r number among)

among-set : (rs : List Resource) (position : ℕ) (old new : Resource) → slice_get rs position ≡ Some old
    → new.number ≡ old.number → (number : ℕ) → is_among rs number ≡ true → is_among (set rs position new) number ≡ true
among-set [] position old new there same number among = absurd (cc)
among-set (r ∷ rs) zero old new there same number among =
    let first : r ≡ old = cc in
    let kept : new.number ≡ r.number = same ∙ ap (λ (s : Resource). s.number) (sym first) in
    ap (λ (n : ℕ). (n == number) || is_among rs number) kept ∙ among
among-set (r ∷ rs) (suc position) old new there same number among =
    or_more (r.number == number) _ _ (among-set rs position old new there same number) among

-- a resource in place of one with its number
pub position-keeps : (old new : Package) (position : ℕ) (was is : Resource)
    → slice_get old.resources position ≡ Some was
    → is.number ≡ was.number → new.resources ≡ set old.resources position is → KeepsResources old new
position-keeps old new position was is there same made = λ number among.
    subst (λ (rs : List Resource). is_among rs number ≡ true) (sym made)
    (among-set old.resources position was is there same number among)

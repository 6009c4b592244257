-- A dataset that a harvest reads as the portal has it: its put leaves the datasets and their rows, so that none is left to be
-- put.
use Rattle.std.proofs.Common.{◌≡◌, Bool, true, false, if◌then◌else◌, List, [], Option, Some, None, refl, sym, ap, ◌∙◌, subst}
use Rattle.std.specs.Prelude.{find, option_map}
use Rattle.std.specs.Cmp.Lexicographic.{nat_list_cmp_total}
use Rattle.std.specs.Str.{bytes_eq}
use Rattle.portal_base.specs.Ordered.{IsAscending, IsKey-field, inserted, upserted}
use Rattle.portal_base.proofs.Removed.{inserted-removed}
use Rattle.portal_base.proofs.Unique.{IsIn}
use Rattle.portal_base.proofs.Upserted.{dropped-removed}
use Rattle.packages.specs.Order.{dataset_cmp, dataset_cmp_total}
use Rattle.packages.specs.declared.package.Package.{Package}
use Rattle.packages.proofs.FindLemmas.{IsIn-find}
use Rattle.dataset_answers.specs.Changed.{dataset_at_id}
use Rattle.dataset_rows.specs.Rows.{row_text}
use Rattle.harvest_results.specs.Effects.{HarvestState, effect_of, effect_of_put, effect_over, put_by, with_put}
use Rattle.harvest_results.specs.Equality.{equal_datasets}
use Rattle.harvest_results.proofs.EqualityLemmas.{Decides-dataset}
use Rattle.harvest_sources.specs.declared.step.Effect.{Effect}
use Rattle.harvest_sources.specs.declared.step.Effect.TheVariants.{Plain, Added, Updated, Unchanged, Deleted}
use Rattle.harvest_sources.specs.declared.step.Step.{Step}
use Rattle.harvest_sources.specs.declared.step.Step.TheVariants.{NewRound, Begin, List as list, Break, Claim, Settle, End}
use Rattle.portal_keeper.specs.declared.row.RowKind.TheVariants as kind
use Rattle.portal_state.specs.ChangedRows.{changes_between, changes_of_put}
use Rattle.portal_state.specs.Harvest.{harvest_of}
use Rattle.portal_state.specs.Parts.{IsConsistent, state_of}
use Rattle.portal_state.specs.State.{State}
use Rattle.portal_state.specs.Stepped.{AreFound, IsPuttableIf, unless_unchanged}
use Rattle.portal_state.specs.Valid.{IsValid}
use Rattle.portal_state.specs.declared.harvest.StepDatasets.{StepDatasets}
use Rattle.portal_state.specs.declared.parts.Parts.{Parts}
use Rattle.portal_state.proofs.DatasetRows.{found-id}
use Rattle.portal_state.proofs.HarvestNames.{step-puttable}
use Rattle.portal_state.proofs.StepRows.{same-between}

-- ---- a dataset that changes nothing

equal-so : (b : Bool) → (if b then Unchanged else Updated) ≡ Unchanged → b ≡ true
equal-so true is = refl
equal-so false is = absurd (cc)

-- If the dataset changes nothing, it is one of the datasets: the one that has its name equals it.
equal-in : (datasets : List Package) (d : Package) → effect_of_put datasets (Some d) ≡ Unchanged → IsIn d datasets
equal-in datasets d is = by (find (λ (old : Package). bytes_eq old.name d.name) datasets) refl is
  where
    by : (o : Option Package) → find (λ (old : Package). bytes_eq old.name d.name) datasets ≡ o
        → effect_over d o ≡ Unchanged → IsIn d datasets
    by None finds same = absurd (cc)
    by (Some old) finds same =
        subst (λ (e : Package). IsIn e datasets)
        ((Decides-dataset old d).0 (equal-so (equal_datasets old d) same))
        (IsIn-find (λ (e : Package). bytes_eq e.name d.name) old datasets finds).0

-- So is the dataset of a step.
unchanged-in : (step : Step) (state : HarvestState) (d : Package) → effect_of step state ≡ Unchanged
    → put_by step state ≡ Some d → IsIn d state.datasets
unchanged-in NewRound state d is puts = absurd (cc)
unchanged-in Begin state d is puts = absurd (cc)
unchanged-in (list job items unnamed) state d is puts = absurd (cc)
unchanged-in (Break job cause) state d is puts = absurd (cc)
unchanged-in Claim state d is puts = absurd (cc)
unchanged-in (Settle job iri reading) state d is puts =
    equal-in state.datasets d (ap (effect_of_put state.datasets) (sym puts) ∙ is)
unchanged-in (End job) state d is puts = absurd (cc)

-- ---- the put of a dataset that is there

-- It leaves the datasets,
put-again : (d : Package) (datasets : List Package) → IsAscending dataset_cmp datasets → IsIn d datasets
    → upserted dataset_cmp d datasets ≡ datasets
put-again d datasets up m =
    ap (inserted dataset_cmp d)
    (dropped-removed dataset_cmp dataset_cmp_total (dataset_at_id d.id)
    (IsKey-field (λ (e : Package). e.id) nat_list_cmp_total d.id) datasets up)
    ∙ inserted-removed dataset_cmp dataset_cmp_total (dataset_at_id d.id) d datasets up (found-id d.id d datasets up m refl)

-- and it changes no row.
no-changes : (d : Package) (datasets : List Package) → IsAscending dataset_cmp datasets → IsIn d datasets
    → changes_of_put (Some d) datasets ≡ []
no-changes d datasets up m =
    ap (λ (o : Option Package). changes_between kind.Set d.id (option_map row_text o) (Some (row_text d)))
    (found-id d.id d datasets up m refl)
    ∙ same-between kind.Set d.id (row_text d) (row_text d) refl

-- ---- what is left to be put

-- What is left of a step's put does what the put does, if the put of a dataset that is there does nothing.
left-like : {X : Type 0} (does : Option Package → X) (step : Step) (state : State) (found : StepDatasets)
    (put : Option Package) → AreFound step (harvest_of state) found → put ≡ unless_unchanged found.effect found.put
    → ((d : Package) → IsIn d state.datasets → does (Some d) ≡ does None)
    → does put ≡ does (put_by step (harvest_of state))
left-like does step state found put is left nothing =
    ap does
    (left
    ∙ ap (λ (effect : Effect). unless_unchanged effect found.put) is.effect
    ∙ ap (unless_unchanged (effect_of step (harvest_of state))) is.put)
    ∙ by (effect_of step (harvest_of state)) refl
  where
    none : effect_of step (harvest_of state) ≡ Unchanged → (o : Option Package) → put_by step (harvest_of state) ≡ o
        → does None ≡ does o
    none same None puts = refl
    none same (Some d) puts = sym (nothing d (unchanged-in step (harvest_of state) d same puts))

    by : (effect : Effect) → effect_of step (harvest_of state) ≡ effect
        → does (unless_unchanged effect (put_by step (harvest_of state))) ≡ does (put_by step (harvest_of state))
    by Plain same = refl
    by Added same = refl
    by Updated same = refl
    by Unchanged same = none same (put_by step (harvest_of state)) refl
    by (Deleted count) same = refl

-- It leaves the datasets that the step's put leaves,
pub left-with : (step : Step) (state : State) (found : StepDatasets) (put : Option Package) → IsValid state
    → AreFound step (harvest_of state) found → put ≡ unless_unchanged found.effect found.put
    → with_put put state.datasets ≡ with_put (put_by step (harvest_of state)) state.datasets
left-with step state found put valid is left =
    left-like (λ (o : Option Package). with_put o state.datasets) step state found put is left
    (λ d m. put-again d state.datasets valid.datasets m)

-- it changes the same rows,
pub left-changes : (step : Step) (state : State) (found : StepDatasets) (put : Option Package) → IsValid state
    → AreFound step (harvest_of state) found → put ≡ unless_unchanged found.effect found.put
    → changes_of_put put state.datasets ≡ changes_of_put (put_by step (harvest_of state)) state.datasets
left-changes step state found put valid is left =
    left-like (λ (o : Option Package). changes_of_put o state.datasets) step state found put is left
    (λ d m. no-changes d state.datasets valid.datasets m)

-- and the shelf can take it.
pub left-puttable : (step : Step) (parts : Parts) (found : StepDatasets) (put : Option Package) → IsConsistent parts
    → AreFound step (harvest_of (state_of parts)) found → put ≡ unless_unchanged found.effect found.put
    → IsPuttableIf parts.shelf put
left-puttable step parts found put consistent is left =
    subst (IsPuttableIf parts.shelf) (sym left) (by found.effect)
  where
    takes : IsPuttableIf parts.shelf found.put
    takes = step-puttable step parts found.put consistent is.put

    by : (effect : Effect) → IsPuttableIf parts.shelf (unless_unchanged effect found.put)
    by Plain = takes
    by Added = takes
    by Updated = takes
    by Unchanged = tt
    by (Deleted count) = takes

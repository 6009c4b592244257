-- A load by the schema that was fetched.
use Rattle.std.proofs.Common.{◌≡◌, ◌≤◌, ℕ, List, length, subst, inr}
use Rattle.portal_base.specs.Outside.{HoldsAt}
use Rattle.portal_base.specs.declared.caller.Caller.TheVariants.{Named}
use Rattle.portal_state.specs.State.{State}
use Rattle.portal_serve.specs.Run.{DeviceTrace}
use Rattle.portal_words.specs.declared.command.LoadOptions.{LoadOptions}
use Rattle.portal_load.specs.Load.{LoadsWith, ReportsSchema, load_task}
use Rattle.portal_load.specs.SchemaFile.{LoadsFrom}
use Rattle.portal_status.specs.Fetch.{FetchTrace}
use Rattle.portal_status.specs.declared.status.Status.{Status}
use Rattle.portal_status.specs.declared.fetch.TheConstants.{LONGEST_FILE}

pub loads_fetched : (trace : FetchTrace) (options : LoadOptions) (state after : State) (old new : DeviceTrace)
    (status : Status) (location bytes schema resource : List ℕ) → HoldsAt trace.held location bytes
    → length bytes ≤ LONGEST_FILE → location ≡ options.schema → schema ≡ bytes → resource ≡ options.resource
    → ReportsSchema schema old new status
    → LoadsWith (load_task (Named options.caller) schema resource) state after old new status
    → LoadsFrom trace options state after old new status
loads_fetched trace options state after old new status location bytes schema resource holds within is_location
    is_schema is_resource reports loads = inr (
      bytes,
      subst (λ (l : List ℕ). HoldsAt trace.held l bytes) is_location holds,
      within,
      (
        subst (λ (s : List ℕ). ReportsSchema s old new status) is_schema reports,
        subst (λ (r : List ℕ). LoadsWith (load_task (Named options.caller) bytes r) state after old new status)
            is_resource
            (subst (λ (s : List ℕ). LoadsWith (load_task (Named options.caller) s resource) state after old new status)
            is_schema loads),
      ),
    )

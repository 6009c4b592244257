-- What a load by a schema file did.
use Rattle.std.specs.Prelude.{◌≡◌, ◌⊎◌, ℕ, List}
use Rattle.portal_base.specs.declared.caller.Caller.TheVariants.{Named}
use Rattle.portal_state.specs.State.{State}
use Rattle.portal_load.specs.Load.{LoadsWith, ReportsSchema, load_task}
use Rattle.portal_status.specs.Fetch.{FailsToFetch, FetchTrace, HoldsFile}
use Rattle.portal_status.specs.declared.status.Status.{Status}
use Rattle.portal_serve.specs.Run.{DeviceTrace}
use Rattle.portal_words.specs.declared.command.LoadOptions.{LoadOptions}

-- The CSV on input was loaded by the schema with these bytes, to the end with this status.
abbrev pub LoadsBy : LoadOptions → State → State → DeviceTrace → DeviceTrace → Status → List ℕ → Type 0
LoadsBy options state after old new status schema =
    ReportsSchema schema old new status
    × LoadsWith (load_task (Named options.caller) schema options.resource) state after old new status

-- What a run of `load` did from a state, which it left as `after`, by its status: the schema can't be fetched, and nothing
-- passed the devices; or the CSV was loaded by the schema at its location.
abbrev pub LoadsFrom : FetchTrace → LoadOptions → State → State → DeviceTrace → DeviceTrace → Status → Type 0
LoadsFrom fetch_trace options state after old new status =
    (FailsToFetch fetch_trace options.schema status × (new ≡ old) × (after ≡ state))
    ⊎ HoldsFile fetch_trace options.schema (LoadsBy options state after old new status)

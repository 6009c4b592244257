-- A load fetches two files, so the fetcher has one trace over both.
use Rattle.std.proofs.Common.{◌≡◌, ◌≢◌, ◌≤◌, ℕ, List, Option, Some, None, Result, Ok, Err, subst, sym, inl, inr}
use Rattle.std.proofs.Common.{◌∙◌, length, get_or, slice_set, arith}
use Rattle.portal_base.specs.Outside.{Holdings, Rose}
use Rattle.portal_base.specs.declared.caller.Caller.TheVariants.{Named}
use Rattle.portal_state.specs.State.{State}
use Rattle.portal_serve.specs.Run.{DeviceTrace}
use Rattle.portal_words.specs.declared.command.LoadOptions.{LoadOptions}
use Rattle.portal_load.specs.Stop.{status_for_load}
use Rattle.portal_load.specs.declared.stop.LoadStop.{LoadStop}
use Rattle.portal_load.specs.declared.stop.LoadStop.TheVariants as stop
use Rattle.portal_load.specs.Load.{LoadTask, LoadsWith, load_task}
use Rattle.portal_load.specs.SchemaFile.{LoadsBy, LoadsFrom}
use Rattle.portal_state.specs.declared.opening.Opening.{Opening}
use Rattle.portal_serve.specs.Rounds.{faults_of_first, held_by_first}
use Rattle.portal_start.proofs.FirstFetcher.{faults_first, faults_same, faults_set, held_first, held_same}
use Rattle.portal_start.specs.Fetchers.{UsesFirst, first_fetch}
use Rattle.portal_start.specs.OverStore.{BeginsOver, FailsToOpen, StoreTrace, WorksOver}
use Rattle.portal_start.specs.Start.{Beginning, Begins, FailsToBegin}
use Rattle.portal_status.specs.Fetch.{FailsToFetch, FetchTrace, fetch_trace}
use Rattle.portal_status.specs.declared.status.Status.{Status}
use Rattle.portal_status.specs.declared.status.Status.TheVariants.{Words, ListenFault}

-- a count that rose since then rose since before
rose_from : (first before after : ℕ) → first ≤ before → Rose before after → Rose first after
rose_from first before after le (inl rose) = inl (omega arith)
rose_from first before after le (inr last) = inr last

-- The portal is that of the first fetch.
begins_on : (held : Holdings) (first before after : ℕ) (portal : Option (List ℕ)) (beginning : Beginning)
    → Begins (fetch_trace held first before) portal beginning → Begins (fetch_trace held first after) portal beginning
begins_on held first before after None beginning begins = begins
begins_on held first before after (Some location) beginning begins = begins

-- A fault of the second fetch is a fault of both.
fetches_not_on : (held : Holdings) (first before after : ℕ) (location : List ℕ) (status : Status) → first ≤ before
    → FailsToFetch (fetch_trace held before after) location status → FailsToFetch
    (fetch_trace held first after) location status
fetches_not_on held first before after location status le (inl memory) = inl memory
fetches_not_on held first before after location status le (inr (reported, inl rose)) =
    inr (reported, inl (rose_from first before after le rose))
fetches_not_on held first before after location status le (inr (reported, inr none)) = inr (reported, inr none)

loads_on : (held : Holdings) (first before after : ℕ) (options : LoadOptions) (state left : State) (old new : DeviceTrace)
    (status : Status) → first ≤ before → LoadsFrom (fetch_trace held before after) options state left old new status
    → LoadsFrom (fetch_trace held first after) options state left old new status
loads_on held first before after options state left old new status le (inl none) =
    inl (fetches_not_on held first before after options.schema status le none.0, none.1, none.2)
loads_on held first before after options state left old new status le (inr loads) = inr loads

works_on : (held : Holdings) (first before after : ℕ) (options : LoadOptions) (opening : Opening) (store : StoreTrace)
    (old new : DeviceTrace) (status : Status) → first ≤ before
    → WorksOver opening store status
    (λ state left. LoadsFrom (fetch_trace held before after) options state left old new status) (new ≡ old)
    → WorksOver opening store status
    (λ state left. LoadsFrom (fetch_trace held first after) options state left old new status) (new ≡ old)
works_on held first before after options opening store old new status le (inl opens) = inl (record {
  state = opens.state;
  begins = opens.begins;
  after = opens.after;
  valid = opens.valid;
  leaves = opens.leaves;
  does = loads_on held first before after options opens.state opens.after old new status le opens.does;
})
works_on held first before after options opening store old new status le (inr fails) = inr fails

-- A load of the portal that was begun with.
pub loads_begun : (held now : Holdings) (first before after : ℕ) (options : LoadOptions) (beginning : Beginning)
    (store : StoreTrace) (old new : DeviceTrace) (status : Status) → now ≡ held → first ≤ before
    → Begins (fetch_trace held first before) options.portal beginning
    → WorksOver beginning.opening store status
    (λ state left. LoadsFrom (fetch_trace now before after) options state left old new status) (new ≡ old)
    → BeginsOver (fetch_trace held first after) options.portal store status
    (λ b state left. LoadsFrom (fetch_trace held first after) options state left old new status) (new ≡ old)
loads_begun held now first before after options beginning store old new status same le begins loads = inl (
  beginning,
  begins_on held first before after options.portal beginning begins,
  works_on held first before after options beginning.opening store old new status le
      (subst (λ (h : Holdings). WorksOver beginning.opening store status
      (λ state left. LoadsFrom (fetch_trace h before after) options state left old new status) (new ≡ old)) same loads),
)

-- what a run of `load` did
abbrev pub LoadsBegun : FetchTrace → LoadOptions → StoreTrace → DeviceTrace → DeviceTrace → Status → Type 0
LoadsBegun trace options store old new status =
    BeginsOver trace options.portal store status
    (λ beginning state after. LoadsFrom trace options state after old new status) (new ≡ old)

-- The same for the first of the run's fetchers, which fetched both files.
pub loads_first : {F : Type 0} (held : F → Holdings) (faults : F → ℕ) (fetchers begun : List F) (before after : F)
    (options : LoadOptions) (beginning : Beginning) (store : StoreTrace) (old new : DeviceTrace) (status : Status)
    → 1 ≤ length fetchers → UsesFirst held faults options.portal fetchers begun → before ≡ get_or begun 0 before
    → Begins (first_fetch held faults fetchers begun) options.portal beginning
    → WorksOver beginning.opening store status
    (λ state left. LoadsFrom (fetch_trace (held before) (faults before) (faults after)) options state left old new status)
    (new ≡ old)
    → LoadsBegun (first_fetch held faults fetchers (slice_set begun 0 after)) options store old new status
loads_first held faults fetchers begun before after options beginning store old new status some uses same begins loads =
    subst (λ n. LoadsBegun (fetch_trace (held_by_first held fetchers) (faults_of_first faults fetchers) n) options store
    old new status) (faults_set held faults begun after more)
    (loads_begun (held_by_first held fetchers) (held before) (faults_of_first faults fetchers) (faults before)
    (faults after) options beginning store old new status
    (held_first held faults begun before more same ∙ held_same held faults fetchers begun some uses.same)
    (subst (λ n. faults_of_first faults fetchers ≤ n) (sym (faults_first held faults begun before more same))
    (faults_same held faults fetchers begun some uses.same))
    (begins_on (held_by_first held fetchers) (faults_of_first faults fetchers) (faults_of_first faults begun)
    (faults before) options.portal beginning begins) loads)
  where
    more : 1 ≤ length begun
    more = omega (arith, some, uses.same.count)

-- ---- the statuses of a run that loads

-- A status that is neither that of words which name no command nor that of a listener.
abbrev IsOfLoad : Status → Type 0
IsOfLoad status = (status ≢ Words) × (status ≢ ListenFault)

end_is : (end : Result Unit LoadStop) → IsOfLoad (status_for_load end)
end_is (Ok loaded) = (λ is. absurd (cc), λ is. absurd (cc))
end_is (Err stop.ReadFault) = (λ is. absurd (cc), λ is. absurd (cc))
end_is (Err stop.WriteFault) = (λ is. absurd (cc), λ is. absurd (cc))
end_is (Err stop.KeeperFault) = (λ is. absurd (cc), λ is. absurd (cc))
end_is (Err stop.OutOfMemory) = (λ is. absurd (cc), λ is. absurd (cc))
end_is (Err (stop.DataFault text)) = (λ is. absurd (cc), λ is. absurd (cc))
end_is (Err stop.Refused) = (λ is. absurd (cc), λ is. absurd (cc))

with_is : (task : LoadTask) (state after : State) (old new : DeviceTrace) (status : Status)
    → LoadsWith task state after old new status → IsOfLoad status
with_is task state after old new status (end, ends, loads) = subst IsOfLoad (sym ends) (end_is end)

loads_is : (options : LoadOptions) (state after : State) (old new : DeviceTrace) (status : Status) (schema : List ℕ)
    → LoadsBy options state after old new status schema → IsOfLoad status
loads_is options state after old new status schema (reports, loads) =
    with_is (load_task (Named options.caller) schema options.resource) state after old new status loads

fetch_is : (trace : FetchTrace) (location : List ℕ) (status : Status) → FailsToFetch trace location status
    → IsOfLoad status
fetch_is trace location status (inl memory) = (λ is. absurd (cc), λ is. absurd (cc))
fetch_is trace location status (inr (other, why)) = (λ is. absurd (cc), λ is. absurd (cc))

begin_is : (trace : FetchTrace) (portal : Option (List ℕ)) (status : Status) → FailsToBegin trace portal status
    → IsOfLoad status
begin_is trace None status memory = (λ is. absurd (cc), λ is. absurd (cc))
begin_is trace (Some location) status (inl fails) = fetch_is trace location status fails
begin_is trace (Some location) status (inr (bytes, held, within, inl memory)) =
    (λ is. absurd (cc), λ is. absurd (cc))
begin_is trace (Some location) status (inr (bytes, held, within, inr (why, is_so, named))) =
    (λ is. absurd (cc), λ is. absurd (cc))

opening_is : (store : StoreTrace) (status : Status) → FailsToOpen store status → IsOfLoad status
opening_is store status (inl memory, stays) = (λ is. absurd (cc), λ is. absurd (cc))
opening_is store status (inr (inl (failed, rose)), stays) = (λ is. absurd (cc), λ is. absurd (cc))
opening_is store status (inr (inr (rows, none)), stays) = (λ is. absurd (cc), λ is. absurd (cc))

load_is : (trace : FetchTrace) (options : LoadOptions) (store : StoreTrace) (old new : DeviceTrace) (status : Status)
    → LoadsBegun trace options store old new status → IsOfLoad status
load_is trace options store old new status (inl (beginning, begins, inl opens)) = by opens.does
  where
    by : LoadsFrom trace options opens.state opens.after old new status → IsOfLoad status
    by (inl (fails, same, kept)) = fetch_is trace options.schema status fails
    by (inr (bytes, held, within, loads)) = loads_is options opens.state opens.after old new status bytes loads
load_is trace options store old new status (inl (beginning, begins, inr (fails, same))) = opening_is store status fails
load_is trace options store old new status (inr (none, same)) = begin_is trace options.portal status none

-- The words name a command.
pub load_no_words : (trace : FetchTrace) (options : LoadOptions) (store : StoreTrace) (old new : DeviceTrace)
    (status : Status) → LoadsBegun trace options store old new status → status ≢ Words
load_no_words trace options store old new status loads = (load_is trace options store old new status loads).0

-- A load uses no listener.
pub load_no_listener : (trace : FetchTrace) (options : LoadOptions) (store : StoreTrace) (old new : DeviceTrace)
    (status : Status) → LoadsBegun trace options store old new status → status ≢ ListenFault
load_no_listener trace options store old new status loads = (load_is trace options store old new status loads).1

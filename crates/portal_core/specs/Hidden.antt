-- Which events are hidden from a caller.
use Rattle.std.specs.Prelude.{◌≡◌, ℕ, Bool, true, false, List}
use Rattle.std.specs.List.{All, Contains}
use Rattle.std.specs.Str.{bytes_eq}
use Rattle.portal_base.specs.declared.caller.Caller.{Caller}
use Rattle.portal_base.specs.declared.caller.Caller.TheVariants.{Anonymous, Named}
use Rattle.harvest_answers.specs.View.{sees_source}
use Rattle.harvest_sources.specs.Entries.{SourceEntry, PutSource, DropSource, PutJob, DropJob, PutListing}
use Rattle.harvest_sources.specs.Sources.{SourceState}
use Rattle.org_roles.specs.PeopleLists.{PeopleLists}
use Rattle.packages.specs.declared.package.Package.{Package}
use Rattle.visibility.specs.View.{administers, is_called, is_role_seen}
use Rattle.visibility.specs.Visibility.{sees_in}
use Rattle.portal_state.specs.Entries.{Entry, PutOrg, DropOrg, PutRole, DropRole, PutDataset, EditDataset}
use Rattle.portal_state.specs.Entries.{DropDataset, PutTable, DropTable, PutRow, DropRow, OfSources, state_after}
use Rattle.portal_state.specs.State.{State}
use Rattle.portal_state.specs.Step.{step_of}
use Rattle.portal_state.specs.View.{is_own_quota, is_table_seen}
use Rattle.portal_events.specs.declared.event.Event.{Event}
use Rattle.portal_events.specs.declared.event.Event.TheVariants.{Call as a_call, Harvest as a_step}

-- the two callers are one
abbrev pub is_caller : Caller → Caller → Bool
is_caller Anonymous Anonymous = true
is_caller Anonymous (Named other) = false
is_caller (Named user) Anonymous = false
is_caller (Named user) (Named other) = bytes_eq user other

-- the event is a call of the caller
abbrev pub is_call_of : Caller → Event → Bool
is_call_of caller (a_call call) = is_caller caller call.caller
is_call_of caller (a_step step) = false

-- Each item that is kept of the list before is in it after, and each item that is kept of it after was in it before. So
-- each item that was added, changed or removed is kept neither before nor after.
pub record IsHiddenChange {X : Type 0} (kept_before kept_after : X → Bool) (before after : List X) : Type 0 where
  pub stays : (x : X) → Contains before x → kept_before x ≡ true → Contains after x
  pub stood : (x : X) → Contains after x → kept_after x ≡ true → Contains before x

-- a view keeps every user's name and every organization
abbrev pub is_kept : {X : Type 0} → X → Bool
is_kept x = true

-- Between the two states each entry that was added, changed or removed is one that the caller's view keeps neither
-- before nor after.
pub record IsHiddenBetween (caller : Caller) (before after : State) : Type 0 where
  pub users : IsHiddenChange is_kept is_kept before.people.users after.people.users
  pub orgs : IsHiddenChange is_kept is_kept before.people.orgs after.people.orgs
  pub roles : IsHiddenChange (is_role_seen before.people caller) (is_role_seen after.people caller)
      before.people.roles after.people.roles
  pub datasets : IsHiddenChange (sees_in before.people caller) (sees_in after.people caller) before.datasets
      after.datasets
  pub tables : IsHiddenChange (is_table_seen caller before) (is_table_seen caller after) before.tables after.tables
  pub sources : IsHiddenChange (sees_source before.people caller) (sees_source after.people caller) before.sources
      after.sources
  pub quota_used : IsHiddenChange (is_own_quota caller) (is_own_quota caller) before.quota_used after.quota_used

-- The event is hidden from the caller: it is no call of the caller, and changes only what the caller's view doesn't
-- keep.
pub record IsHidden (caller : Caller) (state : State) (event : Event) : Type 0 where
  pub others : is_call_of caller event ≡ false
  pub between : IsHiddenBetween caller state (step_of state event).core

-- ---- what a caller doesn't see of an entry

-- the caller sees none of the datasets of that id
abbrev pub IsIdUnseen : Caller → State → List ℕ → Type 0
IsIdUnseen caller state id =
    (d : Package) → Contains state.datasets d → d.id ≡ id → sees_in state.people caller d ≡ false

-- the caller neither administers the organization nor is the user
pub record IsRoleUnseen (caller : Caller) (people : PeopleLists) (org user : List ℕ) : Type 0 where
  pub elsewhere : administers people caller org ≡ false
  pub others : is_called caller user ≡ false

-- the caller sees no source of that name
abbrev pub IsSourceUnseen : Caller → State → List ℕ → Type 0
IsSourceUnseen caller state name =
    (s : SourceState) → Contains state.sources s → s.source.name ≡ name → sees_source state.people caller s ≡ false

-- the name of the source that the entry is about
abbrev pub source_of_entry : SourceEntry → List ℕ
source_of_entry (PutSource source) = source.name
source_of_entry (DropSource name) = name
source_of_entry (PutJob job) = job.source
source_of_entry (DropJob name number) = name
source_of_entry (PutListing name listing) = name

-- The caller sees nothing in the state that has the entry's key. A view keeps every organization, and of a dataset that it
-- keeps it keeps all tables and their rows.
abbrev pub IsEntryUnseen : Caller → State → Entry → Type 0
IsEntryUnseen caller state (PutOrg org) = ⊥
IsEntryUnseen caller state (DropOrg name) = ⊥
IsEntryUnseen caller state (PutRole role) = IsRoleUnseen caller state.people role.org role.user
IsEntryUnseen caller state (DropRole org user) = IsRoleUnseen caller state.people org user
IsEntryUnseen caller state (PutDataset dataset) = IsIdUnseen caller state dataset.id
IsEntryUnseen caller state (EditDataset id edit) = IsIdUnseen caller state id
IsEntryUnseen caller state (DropDataset id) = IsIdUnseen caller state id
IsEntryUnseen caller state (PutTable head) = IsIdUnseen caller state head.address.dataset
IsEntryUnseen caller state (DropTable address) = IsIdUnseen caller state address.dataset
IsEntryUnseen caller state (PutRow address row) = IsIdUnseen caller state address.dataset
IsEntryUnseen caller state (DropRow address id) = IsIdUnseen caller state address.dataset
IsEntryUnseen caller state (OfSources entry) = IsSourceUnseen caller state (source_of_entry entry)

-- The caller sees nothing at the keys of these entries, neither in the state nor after them.
pub record AreUnseen (caller : Caller) (state : State) (entries : List Entry) : Type 0 where
  pub before : All (IsEntryUnseen caller state) entries
  pub after : All (IsEntryUnseen caller (state_after entries state)) entries

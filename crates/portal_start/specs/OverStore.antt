-- What a run did over the store that it was given.
use Rattle.std.specs.Prelude.{◌≡◌, ◌⊎◌, ◌≤◌, ℕ, List, Option, IfSome}
use Rattle.portal_base.specs.Outside.{Rose}
use Rattle.portal_state.specs.KeptRows.{kept_rows}
use Rattle.portal_state.specs.PortalValue.{AreOfNoState, IsOpenedOver}
use Rattle.portal_state.specs.State.{State}
use Rattle.portal_state.specs.Valid.{IsValid}
use Rattle.portal_state.specs.declared.opening.OpenFault.{OpenFault}
use Rattle.portal_state.specs.declared.opening.OpenFault.TheVariants as opening
use Rattle.portal_state.specs.declared.opening.Opening.{Opening}
use Rattle.portal_keeper.specs.Keeping.{Shows}
use Rattle.portal_keeper.specs.declared.row.KeptRow.{KeptRow}
use Rattle.portal_status.specs.Fetch.{FetchTrace}
use Rattle.portal_status.specs.declared.status.Status.{Status}
use Rattle.portal_status.specs.declared.status.Status.TheVariants as status
use Rattle.portal_start.specs.Start.{Beginning, BeginsAnd}

-- the trace of the store's keeper: the rows before and after a call, where they are observable, and the counts of
-- faults
pub record StoreTrace : Type 0 where
  pub rows : Option (List KeptRow)
  pub faults : ℕ
  pub rows_after : Option (List KeptRow)
  pub faults_after : ℕ

abbrev pub store_trace : Option (List KeptRow) → ℕ → Option (List KeptRow) → ℕ → StoreTrace
store_trace rows faults rows_after faults_after = record {
  rows = rows;
  faults = faults;
  rows_after = rows_after;
  faults_after = faults_after;
}

-- The store is as before.
abbrev pub IsUntouched : StoreTrace → Type 0
IsUntouched store = (store.rows_after ≡ store.rows) × (store.faults_after ≡ store.faults)

-- the status for a portal that isn't opened
abbrev pub status_for_opening : OpenFault → Status
status_for_opening opening.Keeper = status.KeeperFault
status_for_opening (opening.BadRows rows) = status.StoredRows
status_for_opening opening.OutOfMemory = status.OutOfMemory

-- Why no portal was opened, by the status: memory ran out, the keeper's count of faults rose, or the rows are those of
-- no state, where they are observable.
abbrev pub IsCauseOfNone : StoreTrace → Status → Type 0
IsCauseOfNone store ended =
    (ended ≡ status.OutOfMemory)
    ⊎ (((ended ≡ status.KeeperFault) × Rose store.faults store.faults_after)
    ⊎ ((ended ≡ status.StoredRows) × IfSome store.rows AreOfNoState))

-- No portal was opened, for the cause in the status, and the store's rows stay.
abbrev pub FailsToOpen : StoreTrace → Status → Type 0
FailsToOpen store ended =
    IsCauseOfNone store ended × IfSome store.rows (λ rows. Shows store.rows_after rows)

-- A portal was opened over the store, with the state whose rows the store has, or with that of the opening over a store
-- without rows. P holds of this state and of the state in the end, which is valid, and whose rows the store has then.
pub record OpensAnd (opening : Opening) (store : StoreTrace) (P : State → State → Type 0) : Type 0 where
  pub state : State
  pub begins : IfSome store.rows (λ rows. IsOpenedOver opening rows state)
  pub after : State
  pub valid : IsValid after
  pub leaves : Shows store.rows_after (kept_rows after)
  pub does : P state after

-- A portal was opened over the store, and then P holds. Or none was opened for the reason in the status, and the other
-- devices were left untouched.
abbrev pub WorksOver : Opening → StoreTrace → Status → (State → State → Type 0) → Type 0 → Type 0
WorksOver opening store ended P Untouched = OpensAnd opening store P ⊎ (FailsToOpen store ended × Untouched)

-- The same for the portal that a run begins with. If it begins with none, the store is untouched too.
abbrev pub BeginsOver : FetchTrace → Option (List ℕ) → StoreTrace → Status → (Beginning → State → State → Type 0) → Type 0
    → Type 0
BeginsOver fetch_trace portal store ended P Untouched =
    BeginsAnd fetch_trace portal ended (λ beginning. WorksOver beginning.opening store ended (P beginning) Untouched)
    (Untouched × IsUntouched store)

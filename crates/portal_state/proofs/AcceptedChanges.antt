-- The changes of rows that follow from an accepted change.
use Rattle.std.proofs.Common.{◌≡◌, ℕ, List, refl, sym, subst}
use Rattle.portal_base.specs.declared.caller.Caller.{Caller}
use Rattle.portal_base.specs.declared.caller.Caller.TheVariants.{Anonymous, Named}
use Rattle.portal_base.specs.declared.json_value.Json.{Json}
use Rattle.portal_calls.specs.declared.answer.Answer.TheVariants.{Accepted}
use Rattle.portal_calls.specs.declared.call.Call.{Call}
use Rattle.portal_state.specs.Alone.{AllDropAlone}
use Rattle.portal_state.specs.Change.{Change}
use Rattle.portal_state.specs.Changed.{AreUnused, IsUnused, applied, charged}
use Rattle.portal_state.specs.Entries.{Entry, state_after}
use Rattle.portal_state.specs.Fit.{IsFit}
use Rattle.portal_state.specs.Planned.{PlannedChange, claims_of, entries_of}
use Rattle.portal_state.specs.State.{State}
use Rattle.portal_state.specs.Step.{answer_in}
use Rattle.portal_state.specs.Valid.{IsValid}
use Rattle.portal_state.specs.View.{view_of}
use Rattle.portal_state.proofs.AloneEntries.{all-alone}
use Rattle.portal_state.proofs.Answering.{accepted_fit}
use Rattle.portal_state.proofs.ChangeEntries.{entries-in_state}
use Rattle.portal_state.proofs.Keeping.{changed_valid, fit_in_valid}
use Rattle.portal_state.proofs.Settling.{accepted-planned}
use Rattle.portal_keeper.specs.Changed.{rows_after}
use Rattle.portal_state.specs.KeptRows.{IsSized, kept_rows}
use Rattle.portal_state.specs.RowChanges.{effective_changes, row_changes}
use Rattle.portal_state.proofs.EffectiveChanges.{rows_after-effective}
use Rattle.portal_state.proofs.InOrder.{kept_rows-in_order}
use Rattle.portal_state.proofs.RowChanges.{rows_after-row_changes}

-- What the entries drop they drop alone, and the state after them is valid.
record LeavesValid (entries : List Entry) (state : State) : Type 0 where
  alone : AllDropAlone entries state
  valid : IsValid (state_after entries state)

planned-leaves : (planned : PlannedChange) (call : Call) (state : State) → IsValid state
    → IsFit call (view_of call.caller state) planned → AreUnused state (claims_of planned)
    → LeavesValid (entries_of planned (view_of call.caller state)) state
planned-leaves planned call state valid fit unused = record {
  alone = all-alone call state planned valid fit;
  valid = subst IsValid (sym (entries-in_state call state planned valid fit))
      (changed_valid planned call state valid (fit_in_valid planned call state valid fit) unused);
}

accepted-leaves : (call : Call) (state : State) (json : Json) (change : Change) → IsValid state
    → answer_in state call ≡ Accepted json change → IsUnused state change → LeavesValid change.entries state
accepted-leaves call state json change valid answers unused =
    let planned = accepted-planned call (view_of call.caller state) json change answers in
    let fit : IsFit call (view_of call.caller state) planned.0 =
    accepted_fit call (view_of call.caller state) json planned.0 (sym planned.1) in
    subst (λ (c : Change). LeavesValid c.entries state) (sym planned.2)
    (planned-leaves planned.0 call state valid fit (subst (λ (c : Change). IsUnused state c) planned.2 unused))

pub accepted-changes : (call : Call) (state : State) (json : Json) (change : Change) → IsValid state
    → answer_in state call ≡ Accepted json change → IsUnused state change → IsSized state
    → IsSized (state_after change.entries state)
    → rows_after (row_changes change.entries (state_after change.entries state)) (kept_rows state)
    ≡ kept_rows (state_after change.entries state)
accepted-changes call state json change valid answers unused sized also_sized =
    let leaves = accepted-leaves call state json change valid answers unused in
    rows_after-row_changes change.entries state valid.tables.ascending valid.sources leaves.alone
    (kept_rows-in_order state valid sized)
    (kept_rows-in_order (state_after change.entries state) leaves.valid also_sized)

pub accepted-effective : (call : Call) (state : State) (json : Json) (change : Change) → IsValid state
    → answer_in state call ≡ Accepted json change → IsUnused state change → IsSized state
    → IsSized (state_after change.entries state)
    → rows_after (effective_changes (kept_rows state)
    (row_changes change.entries (state_after change.entries state))) (kept_rows state)
    ≡ kept_rows (state_after change.entries state)
accepted-effective call state json change valid answers unused sized also_sized =
    let leaves = accepted-leaves call state json change valid answers unused in
    rows_after-effective change.entries state valid.tables.ascending valid.sources leaves.alone
    (kept_rows-in_order state valid sized)
    (kept_rows-in_order (state_after change.entries state) leaves.valid also_sized)

pub charged-rows : (caller : Caller) (size : ℕ) (state : State) → kept_rows (charged caller size state) ≡ kept_rows state
charged-rows Anonymous size state = refl
charged-rows (Named user) size state = refl

pub applied-rows : (call : Call) (change : Change) (state : State)
    → kept_rows (applied call change state) ≡ kept_rows (state_after change.entries state)
applied-rows call change state = charged-rows call.caller call.size (state_after change.entries state)

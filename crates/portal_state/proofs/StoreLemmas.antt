-- The store beside the parts: its rows stay those of the state.
use Rattle.std.proofs.Common.{◌≡◌, List, Option, Some, None, refl, sym, ap, ◌∙◌, subst}
use Rattle.packages.specs.Shelf.{ShelfState}
use Rattle.portal_state.specs.Indexes.{IsIndexed}
use Rattle.portal_base.specs.declared.caller.Caller.{Caller}
use Rattle.portal_base.specs.declared.caller.Caller.TheVariants.{Anonymous, Named}
use Rattle.portal_calls.specs.declared.call.Call.{Call}
use Rattle.harvest_sources.specs.declared.step.Step.{Step}
use Rattle.portal_keeper.specs.Changed.{rows_after}
use Rattle.portal_keeper.specs.Keeping.{ChangesRows, KeepsRows, Shows}
use Rattle.portal_keeper.specs.declared.change.Change.{Change}
use Rattle.portal_keeper.specs.declared.change.KeepFault.{KeepFault}
use Rattle.portal_keeper.specs.declared.change.KeepFault.TheVariants.{Failed, OutOfMemory}
use Rattle.portal_keeper.specs.declared.row.KeptRow.{KeptRow}
use Rattle.portal_state.specs.Changed.{AreUnused, changed, charge_of, charged, with_charge, with_planned}
use Rattle.portal_state.specs.Faults.{act_fault}
use Rattle.portal_state.specs.Fit.{IsFit}
use Rattle.portal_state.specs.Harvest.{state_after_step}
use Rattle.portal_state.specs.KeptRows.{IsSized, kept_rows}
use Rattle.portal_state.specs.Parts.{IsConsistent, planned_in, state_of, with_prepared}
use Rattle.portal_state.specs.Planned.{Datasets, People, PlannedChange, Sources, Tables, claims_of}
use Rattle.portal_state.specs.PortalValue.{AreKept}
use Rattle.portal_state.specs.RowChanges.{planned_row_changes, step_row_changes}
use Rattle.portal_state.specs.State.{State}
use Rattle.portal_state.specs.Valid.{IsValid}
use Rattle.portal_state.specs.View.{view_of}
use Rattle.portal_state.specs.declared.act_fault.ActFault.{ActFault}
use Rattle.portal_state.specs.declared.act_fault.ActFault.TheVariants.{Keeper}
use Rattle.portal_state.specs.declared.parts.Parts.{Parts}
use Rattle.portal_state.specs.declared.parts.Prepared.{Prepared}
use Rattle.portal_state.specs.declared.quota.QuotaUsed.{QuotaUsed}
use Rattle.portal_state.proofs.AcceptedChanges.{charged-rows}
use Rattle.portal_state.proofs.Keeping.{fit_in_valid}
use Rattle.portal_state.proofs.PlannedRows.{planned-follow}
use Rattle.portal_state.proofs.Settling.{applied_consistent, kept_consistent}
use Rattle.portal_state.proofs.StepKeeping.{stepped_valid}
use Rattle.portal_state.proofs.StepRows.{step-follow}

-- ---- a keeper's rows

-- Rows that stay are shown as they were.
pub shown_kept : (old new : Option (List KeptRow)) (rows : List KeptRow) → Shows old rows → KeepsRows old new
    → Shows new rows
shown_kept None None rows shown kept = tt
shown_kept None (Some after) rows shown kept = absurd (cc)
shown_kept (Some before) None rows shown kept = tt
shown_kept (Some before) (Some after) rows shown kept = let same : before ≡ after = cc in sym same ∙ shown

-- Rows that are changed are shown as they are after the changes.
pub shown_changed : (old new : Option (List KeptRow)) (changes : List Change) (rows after : List KeptRow)
    → Shows old rows → ChangesRows old changes new → rows_after changes rows ≡ after → Shows new after
shown_changed old None changes rows after shown made is = tt
shown_changed None (Some kept) changes rows after shown made is = absurd (made)
shown_changed (Some before) (Some kept) changes rows after shown made is =
    made ∙ ap (rows_after changes) shown ∙ is

-- ---- parts

-- Parts that make up the same state are kept as well.
pub same_kept : (rows : Option (List KeptRow)) (old new : Parts) → AreKept rows old → state_of new ≡ state_of old
    → IsIndexed new.shelf new.indexes → AreKept rows new
same_kept rows old new kept same shelved = record {
  consistent = kept_consistent old new kept.consistent same shelved;
  sized = subst IsSized (sym same) kept.sized;
  kept = subst (λ (s : State). Shows rows (kept_rows s)) (sym same) kept.kept;
}

pub decided_kept : (rows : Option (List KeptRow)) (old new : Parts) → AreKept rows old → state_of new ≡ state_of old
    → new.shelf ≡ old.shelf → new.indexes ≡ old.indexes → AreKept rows new
decided_kept rows old new kept same shelf indexes =
    same_kept rows old new kept same
    (subst (λ (s : ShelfState). IsIndexed s new.indexes) (sym shelf)
    (subst (IsIndexed old.shelf) (sym indexes) kept.consistent.shelved))

-- Only a keeper that failed gives the fault of a keeper.
pub failed_fault : (fault : KeepFault) (given : ActFault) → given ≡ act_fault fault → given ≡ Keeper → fault ≡ Failed
failed_fault Failed given is keeper = refl
failed_fault OutOfMemory given is keeper = absurd (cc)

-- Parts that make up the same state are kept where the keeper left the rows.
pub unmade_kept : (old new : Option (List KeptRow)) (before after : Parts) → AreKept old before
    → state_of after ≡ state_of before → IsIndexed after.shelf after.indexes → KeepsRows old new → AreKept new after
unmade_kept old new before after kept same shelved rows =
    let there = same_kept old before after kept same shelved in
    record {
      consistent = there.consistent;
      sized = there.sized;
      kept = shown_kept old new (kept_rows (state_of after)) there.kept rows;
    }

-- What is fit on the caller's view is fit on the state.
pub fit_there : (planned : PlannedChange) (call : Call) (parts : Parts) → IsConsistent parts
    → IsFit call (view_of call.caller (state_of parts)) planned → IsFit call (state_of parts) planned
fit_there planned call parts consistent fit = fit_in_valid planned call (state_of parts) consistent.valid fit

-- A change leaves what was accepted from each caller.
quota_used-changed : (planned : PlannedChange) (state : State) → (changed planned state).quota_used ≡ state.quota_used
quota_used-changed (People change) state = refl
quota_used-changed (Datasets change) state = refl
quota_used-changed (Tables change) state = refl
quota_used-changed (Sources change) state = refl

-- A prepared change that is made is the planned one, charged.
pub made_planned : (planned : PlannedChange) (call : Call) (prepared : Prepared) (state before after : State)
    → before ≡ state → planned_in prepared.change ≡ planned
    → prepared.charge ≡ charge_of call.caller call.size state.quota_used
    → after ≡ with_prepared prepared before → after ≡ with_planned call planned state
made_planned planned call prepared state before after same change charge made =
    made
    ∙ ap (with_prepared prepared) same
    ∙ ap (λ (p : PlannedChange). with_charge prepared.charge (changed p state)) change
    ∙ ap (λ (c : Option QuotaUsed). with_charge c (changed planned state))
    (charge ∙ ap (charge_of call.caller call.size) (sym (quota_used-changed planned state)))

-- Where the keeper refused, the parts are kept over its rows.
pub refused_kept : (old new : Option (List KeptRow)) (before after : Parts) → AreKept old before
    → state_of after ≡ state_of before → IsIndexed after.shelf after.indexes → KeepsRows old new → AreKept new after
refused_kept old new before after kept same shelved rows =
    let there = same_kept old before after kept same shelved in
    record {
      consistent = there.consistent;
      sized = there.sized;
      kept = shown_kept old new (kept_rows (state_of after)) there.kept rows;
    }

-- Where the keeper made the changes of rows, and the parts the change, they are kept again.
pub applied_kept : (planned : PlannedChange) (call : Call) (before after : Parts) (old new : Option (List KeptRow))
    → AreKept old before → IsFit call (view_of call.caller (state_of before)) planned
    → AreUnused (state_of before) (claims_of planned)
    → IsSized (changed planned (state_of before))
    → state_of after ≡ with_planned call planned (state_of before) → IsIndexed after.shelf after.indexes
    → ChangesRows old (planned_row_changes planned (state_of before)) new → AreKept new after
applied_kept planned call before after old new kept fit unused sized is shelved rows =
    let state : State = state_of before in
    let charged : kept_rows (with_planned call planned state) ≡ kept_rows (changed planned state) =
    charged-rows call.caller call.size (changed planned state) in
    record {
      consistent = applied_consistent planned call before after kept.consistent fit unused is shelved;
      sized = subst IsSized (sym is) (sized_charged planned call state sized);
      kept = subst (λ (s : State). Shows new (kept_rows s)) (sym is)
          (subst (Shows new) (sym charged)
          (shown_changed old new (planned_row_changes planned state) (kept_rows state)
          (kept_rows (changed planned state)) kept.kept rows
          (planned-follow planned call state kept.consistent.valid (fit_there planned call before kept.consistent fit)
          unused kept.sized sized)));
    }
  where
    sized_charged : (planned : PlannedChange) (call : Call) (state : State) → IsSized (changed planned state)
        → IsSized (with_planned call planned state)
    sized_charged planned call state sized = by call.caller
      where
        by : (caller : Caller) → IsSized (charged caller call.size (changed planned state))
        by Anonymous = sized
        by (Named user) = record { tables = sized.tables; next_jobs = sized.next_jobs }

-- Where the keeper made the changes of rows of a step of a harvest, and the parts the step, they are kept again.
pub stepped_kept : (step : Step) (before after : Parts) (old new : Option (List KeptRow)) → AreKept old before
    → IsSized (state_after_step step (state_of before)) → state_of after ≡ state_after_step step (state_of before)
    → IsIndexed after.shelf after.indexes → ChangesRows old (step_row_changes step (state_of before)) new
    → AreKept new after
stepped_kept step before after old new kept sized is shelved rows =
    let state : State = state_of before in
    record {
      consistent = record {
        valid = subst IsValid (sym is) (stepped_valid step state kept.consistent.valid);
        shelved = shelved;
      };
      sized = subst IsSized (sym is) sized;
      kept = subst (λ (s : State). Shows new (kept_rows s)) (sym is)
          (shown_changed old new (step_row_changes step state) (kept_rows state) (kept_rows (state_after_step step state))
          kept.kept rows (step-follow step state kept.consistent.valid kept.sized sized));
    }

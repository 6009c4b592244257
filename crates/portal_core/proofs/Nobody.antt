-- Calls of nobody, which change nothing.
use Rattle.std.proofs.Common.{◌≡◌, ℕ, false, List, Option, Some, None, refl, ap, sym, ◌∙◌}
use Rattle.portal_base.specs.declared.caller.Caller.{Caller}
use Rattle.portal_base.specs.declared.caller.Caller.TheVariants.{Anonymous}
use Rattle.org_roles.specs.declared.change.OrgChange.{OrgChange}
use Rattle.org_roles.specs.declared.change.OrgChange.TheVariants as org
use Rattle.dataset_answers.specs.Fit.{IsFitDataset}
use Rattle.dataset_answers.specs.declared.change.DatasetChange.{DatasetChange}
use Rattle.dataset_answers.specs.declared.change.DatasetChange.TheVariants as dataset
use Rattle.datastore_answers.specs.Changed.{TableChange}
use Rattle.datastore_answers.specs.Changed as table
use Rattle.datastore_answers.specs.Fit.{IsFitTable}
use Rattle.datastore_answers.specs.Summaries.{summaries_of}
use Rattle.datastore_answers.specs.TableAnswers.{map_answer}
use Rattle.harvest_answers.specs.Fit.{IsFitEdit, IsFitSource}
use Rattle.harvest_sources.specs.Entries.{fault_if_open}
use Rattle.harvest_sources.specs.Sources.{SourceState, source_named}
use Rattle.harvest_sources.specs.declared.change.SourceChange.{SourceChange}
use Rattle.harvest_sources.specs.declared.change.SourceChange.TheVariants as source
use Rattle.organization_answers.specs.Fit.{IsFitOrg}
use Rattle.organization_answers.specs.Owners.{owners_of}
use Rattle.portal_calls.specs.Answer.{AcceptsOnly}
use Rattle.portal_calls.specs.declared.answer.Answer.{Answer}
use Rattle.portal_calls.specs.declared.answer.Answer.TheVariants.{Shown, Refused, Accepted}
use Rattle.portal_calls.specs.declared.call.Call.{Call}
use Rattle.portal_state.specs.Answer.{call_view_of, planned_answer}
use Rattle.portal_state.specs.Fit.{IsFit}
use Rattle.portal_state.specs.Known.{is_known, known_call, known_caller}
use Rattle.portal_state.specs.Planned.{PlannedChange, People, Datasets, Tables, Sources, change_of}
use Rattle.portal_state.specs.State.{State}
use Rattle.portal_state.specs.Step.{call_step, known_step, outcome_of}
use Rattle.portal_state.specs.View.{view_of}
use Rattle.portal_state.proofs.Answering.{answer_fit}
use Rattle.portal_state.proofs.Knowing.{by_nobody, nobody_edits, unknown-call}

-- Nobody has the right to a change.
unfit-people : (change : OrgChange) (call : Call) (view : State)
    → IsFitOrg (call_view_of (by_nobody call) view) (owners_of view.sources) change → ⊥
unfit-people (org.Create o) call view fit = let is = fit.sysadmin in cc
unfit-people (org.Patch o) call view fit = let is = fit.administered in cc
unfit-people (org.Remove name) call view fit = let is = fit.own.administered in cc
unfit-people (org.SetRole name user role) call view fit = let is = fit.own.administered in cc
unfit-people (org.DropRole name user) call view fit = let is = fit.fit.own.administered in cc

unfit-datasets : (change : DatasetChange) (call : Call) (view : State)
    → IsFitDataset (call_view_of (by_nobody call) view) (summaries_of view.tables) change → ⊥
unfit-datasets (dataset.Create d) call view fit = nobody_edits view.people d fit.own
unfit-datasets (dataset.Replace d) call view fit = nobody_edits view.people fit.old fit.own
unfit-datasets (dataset.Remove id) call view fit = let is = fit.sysadmin in cc

unfit-tables : (change : TableChange) (call : Call) (view : State)
    → IsFitTable (call_view_of (by_nobody call) view) view.tables change → ⊥
unfit-tables (table.Create t) call view fit = nobody_edits view.people fit.own.placed.dataset fit.own.own
unfit-tables (table.Remove address) call view fit = nobody_edits view.people fit.own.placed.dataset fit.own.own
unfit-tables (table.Put address how records) call view fit = nobody_edits view.people fit.own.placed.dataset fit.own.own
unfit-tables (table.DeleteRows address ids) call view fit = nobody_edits view.people fit.own.placed.dataset fit.own.own

-- Nobody administers the organization of a source that is there.
unfit-source : (name : List ℕ) (change : SourceChange) (call : Call) (view : State)
    → fault_if_open (source_named view.sources name) ≡ None
    → IsFitEdit (call_view_of (by_nobody call) view) view.sources name change → ⊥
unfit-source name change call view possible fit = by (source_named view.sources name) refl
  where
    by : (o : Option SourceState) → source_named view.sources name ≡ o → ⊥
    by None is = let never : fault_if_open None ≡ None = sym (ap fault_if_open is) ∙ possible in cc
    by (Some s) is = let owned = fit.administered s is in cc

unfit-sources : (change : SourceChange) (call : Call) (view : State)
    → IsFitSource (call_view_of (by_nobody call) view) view.sources change → ⊥
unfit-sources (source.Create new) call view fit = let is = fit.administered in cc
unfit-sources (source.Update name title url) call view fit =
    unfit-source name (source.Update name title url) call view fit.possible fit
unfit-sources (source.Remove name) call view fit = unfit-source name (source.Remove name) call view fit.possible fit
unfit-sources (source.AddJob name created) call view fit =
    unfit-source name (source.AddJob name created) call view fit.possible fit

unfit : (planned : PlannedChange) (call : Call) (view : State) → IsFit (by_nobody call) view planned → ⊥
unfit (People change) call view fit = unfit-people change call view fit
unfit (Datasets change) call view fit = unfit-datasets change call view fit
unfit (Tables change) call view fit = unfit-tables change call view fit
unfit (Sources change) call view fit = unfit-sources change call view fit

refused : (answer : Answer PlannedChange) (call : Call) (state : State)
    → AcceptsOnly (IsFit (by_nobody call) (view_of Anonymous state)) answer
    → (outcome_of (map_answer (λ planned. change_of planned (view_of Anonymous state)) answer) (by_nobody call)
    state).is_accepted ≡ false
refused (Shown json) call state fit = refl
refused (Refused denial) call state fit = refl
refused (Accepted json planned) call state fit = absurd (unfit planned call (view_of Anonymous state) fit)

-- So no call of nobody is accepted as a change,
pub nobodys-refused : (state : State) (call : Call) → (known_step state (by_nobody call)).is_accepted ≡ false
nobodys-refused state call =
    refused (planned_answer (by_nobody call) (view_of Anonymous state)) call state
    (answer_fit (by_nobody call) (view_of Anonymous state))

-- and none of a caller whom no user has.
pub nobody-refused : (state : State) (call : Call) → is_known state.people call.caller ≡ false
    → (call_step state call).is_accepted ≡ false
nobody-refused state call unknown =
    ap (λ (c : Call). (known_step state c).is_accepted) (unknown-call state.people call unknown)
    ∙ nobodys-refused state call

pub nobody-unchanging : (state : State) (call : Call) → call.caller ≡ Anonymous
    → (call_step state call).is_accepted ≡ false
nobody-unchanging state call nobody =
    ap (λ (c : Call). (known_step state c).is_accepted) (by-nobody state call nobody) ∙ nobodys-refused state call
  where
    by-nobody : (state : State) (call : Call) → call.caller ≡ Anonymous → known_call state.people call ≡ by_nobody call
    by-nobody state call is = ap (λ (caller : Caller). record call { caller = known_caller state.people caller }) is

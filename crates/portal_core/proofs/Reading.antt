-- Calls of the actions that only read.
use Rattle.std.proofs.Common.{◌≡◌, true, false, List, refl}
use Rattle.portal_calls.specs.Action.{is_reading}
use Rattle.portal_calls.specs.Answer.{AcceptsNothing}
use Rattle.portal_calls.specs.Topic.{topic_of}
use Rattle.portal_calls.specs.declared.action.Action.{Action}
use Rattle.portal_calls.specs.declared.action.Action.TheVariants as action
use Rattle.portal_calls.specs.declared.answer.Answer.{Answer}
use Rattle.portal_calls.specs.declared.answer.Answer.TheVariants.{Shown, Refused, Accepted}
use Rattle.portal_calls.specs.declared.call.Call.{Call}
use Rattle.dataset_answers.proofs.Fitting.{show_only, list_only, resource_show_only}
use Rattle.dataset_answers.specs.declared.change.DatasetChange.{DatasetChange}
use Rattle.datastore_answers.proofs.FitLemmas.{info_only}
use Rattle.datastore_answers.specs.Changed.{TableChange}
use Rattle.datastore_answers.specs.Summaries.{summaries_of}
use Rattle.datastore_answers.specs.TableAnswers.{TableAcceptsOnly, map_answer}
use Rattle.datastore_answers.specs.declared.answer.TableAnswer.{TableAnswer}
use Rattle.datastore_answers.specs.declared.answer.TableAnswer.TheVariants.{NoTable, Answered}
use Rattle.datastore_answers.specs.declared.resource_table.ResourceTable.{ResourceTable}
use Rattle.harvest_answers.proofs.Fitting as harvest
use Rattle.harvest_sources.specs.Sources.{SourceState}
use Rattle.harvest_sources.specs.declared.change.SourceChange.{SourceChange}
use Rattle.org_roles.specs.declared.change.OrgChange.{OrgChange}
use Rattle.organization_answers.proofs.Fitting as organization
use Rattle.visibility.specs.CallView.{CallView}
use Rattle.portal_events.specs.declared.event.Event.TheVariants.{Call as a_call}
use Rattle.portal_state.proofs.Answering.{found_only, search_only}
use Rattle.portal_state.specs.Search.{search_outcome}
use Rattle.portal_state.proofs.Settling.{refused-same}
use Rattle.portal_state.specs.Answer.{answer_on, call_view_of, of_people, of_datasets, of_sources, of_tables, planned_answer}
use Rattle.portal_state.specs.Known.{known_call}
use Rattle.portal_state.specs.Planned.{PlannedChange, change_of}
use Rattle.portal_state.specs.State.{State}
use Rattle.portal_state.specs.Step.{call_step, outcome_of}
use Rattle.portal_state.specs.View.{view_of}

of_people-nothing : (answer : Answer OrgChange) → AcceptsNothing answer → AcceptsNothing (of_people answer)
of_people-nothing (Shown json) none = tt
of_people-nothing (Refused denial) none = tt
of_people-nothing (Accepted json change) none = absurd none

of_datasets-nothing : (answer : Answer DatasetChange) → AcceptsNothing answer → AcceptsNothing (of_datasets answer)
of_datasets-nothing (Shown json) none = tt
of_datasets-nothing (Refused denial) none = tt
of_datasets-nothing (Accepted json change) none = absurd none

of_tables-nothing : (answer : TableAnswer TableChange) → TableAcceptsOnly (λ change. ⊥) answer
    → AcceptsNothing (of_tables answer)
of_tables-nothing NoTable none = tt
of_tables-nothing (Answered (Shown json)) none = tt
of_tables-nothing (Answered (Refused denial)) none = tt
of_tables-nothing (Answered (Accepted json change)) none = absurd none

of_sources-nothing : (answer : Answer SourceChange) → AcceptsNothing answer → AcceptsNothing (of_sources answer)
of_sources-nothing (Shown json) none = tt
of_sources-nothing (Refused denial) none = tt
of_sources-nothing (Accepted json change) none = absurd none

by_action : (a : Action) (view : CallView) (tables : List ResourceTable) (sources : List SourceState)
    → is_reading a ≡ true → AcceptsNothing (answer_on (topic_of a) view tables sources)
by_action action.PackageCreate view tables sources reads = absurd (cc)
by_action action.PackageUpdate view tables sources reads = absurd (cc)
by_action action.PackagePatch view tables sources reads = absurd (cc)
by_action action.PackageDelete view tables sources reads = absurd (cc)
by_action action.DatasetPurge view tables sources reads = absurd (cc)
by_action action.PackageShow view tables sources reads =
    of_datasets-nothing _ (show_only (λ change. ⊥) view (summaries_of tables))
by_action action.PackageList view tables sources reads = of_datasets-nothing _ (list_only (λ change. ⊥) view)
by_action action.PackageSearch view tables sources reads =
    found_only (λ change. ⊥)
    (search_outcome view.call.request.body view.people view.datasets (summaries_of tables))
by_action action.ResourceCreate view tables sources reads = absurd (cc)
by_action action.ResourceUpdate view tables sources reads = absurd (cc)
by_action action.ResourceDelete view tables sources reads = absurd (cc)
by_action action.ResourceShow view tables sources reads =
    of_datasets-nothing _ (resource_show_only (λ change. ⊥) view (summaries_of tables))
by_action action.OrganizationCreate view tables sources reads = absurd (cc)
by_action action.OrganizationPatch view tables sources reads = absurd (cc)
by_action action.OrganizationDelete view tables sources reads = absurd (cc)
by_action action.OrganizationShow view tables sources reads =
    of_people-nothing _ (organization.show-only (λ change. ⊥) view)
by_action action.OrganizationList view tables sources reads =
    of_people-nothing _ (organization.list-only (λ change. ⊥) view)
by_action action.OrganizationListForUser view tables sources reads = tt
by_action action.OrganizationMemberCreate view tables sources reads = absurd (cc)
by_action action.OrganizationMemberDelete view tables sources reads = absurd (cc)
by_action action.MemberList view tables sources reads = of_people-nothing _ (organization.members-only (λ change. ⊥) view)
by_action action.UserList view tables sources reads = tt
by_action action.DatastoreCreate view tables sources reads = absurd (cc)
by_action action.DatastoreUpsert view tables sources reads = absurd (cc)
by_action action.DatastoreDelete view tables sources reads = absurd (cc)
by_action action.DatastoreSearch view tables sources reads = of_tables-nothing _ (search_only (λ change. ⊥) view tables)
by_action action.DatastoreInfo view tables sources reads = of_tables-nothing _ (info_only (λ change. ⊥) view tables)
by_action action.HarvestSourceCreate view tables sources reads = absurd (cc)
by_action action.HarvestSourceUpdate view tables sources reads = absurd (cc)
by_action action.HarvestSourceDelete view tables sources reads = absurd (cc)
by_action action.HarvestSourceShow view tables sources reads =
    of_sources-nothing _ (harvest.show-only (λ change. ⊥) view sources)
by_action action.HarvestSourceList view tables sources reads = tt
by_action action.HarvestJobCreate view tables sources reads = absurd (cc)
by_action action.HarvestJobShow view tables sources reads =
    of_sources-nothing _ (harvest.job-only (λ change. ⊥) view sources)

pub reading-nothing : (call : Call) (view : State) → is_reading call.request.action ≡ true
    → AcceptsNothing (planned_answer call view)
reading-nothing call view reads = by_action call.request.action (call_view_of call view) view.tables view.sources reads

nothing-same : (answer : Answer PlannedChange) (call : Call) (state : State) → AcceptsNothing answer
    → (outcome_of (map_answer (λ planned. change_of planned (view_of call.caller state)) answer) call state).is_accepted
    ≡ false
nothing-same (Shown json) call state none = refl
nothing-same (Refused denial) call state none = refl
nothing-same (Accepted json planned) call state none = absurd none

pub reading-same : (state : State) (call : Call) → is_reading call.request.action ≡ true
    → ((call_step state call).is_accepted ≡ false) × ((call_step state call).core ≡ state)
reading-same state call reads =
    let known : Call = known_call state.people call in
    let none : (call_step state call).is_accepted ≡ false =
    nothing-same (planned_answer known (view_of known.caller state)) known state
    (reading-nothing known (view_of known.caller state) reads) in
    (none, refused-same state (a_call call) none)

-- The answer to a call: a function of the call and of its caller's view.
use Rattle.std.specs.Prelude.{ℕ, ◌+◌, nat_le, List, Bool, true, false}
use Rattle.org_roles.specs.declared.change.OrgChange.{OrgChange}
use Rattle.dataset_answers.specs.Answers as dataset
use Rattle.dataset_answers.specs.declared.change.DatasetChange.{DatasetChange}
use Rattle.datastore_answers.specs.Answers as table
use Rattle.datastore_answers.specs.Changed.{TableChange}
use Rattle.datastore_answers.specs.Summaries.{summaries_of}
use Rattle.datastore_answers.specs.TableAnswers.{map_answer}
use Rattle.datastore_answers.specs.declared.answer.TableAnswer.{TableAnswer}
use Rattle.datastore_answers.specs.declared.answer.TableAnswer.TheVariants.{NoTable, Answered}
use Rattle.datastore_answers.specs.declared.resource_table.ResourceTable.{ResourceTable}
use Rattle.harvest_answers.specs.Answers as harvest
use Rattle.harvest_sources.specs.Sources.{SourceState}
use Rattle.harvest_sources.specs.declared.change.SourceChange.{SourceChange}
use Rattle.organization_answers.specs.Answers as organization
use Rattle.organization_answers.specs.Owners.{owners_of}
use Rattle.portal_calls.specs.Topic.{topic_of}
use Rattle.portal_calls.specs.declared.answer.Answer.{Answer}
use Rattle.portal_calls.specs.declared.answer.Answer.TheVariants.{Shown, Refused, Accepted}
use Rattle.portal_calls.specs.declared.answer.Denial.TheVariants.{NotFound}
use Rattle.portal_calls.specs.declared.answer.Kind.TheVariants.{Table}
use Rattle.portal_calls.specs.declared.answer.Quota.{Quota}
use Rattle.portal_calls.specs.declared.answer.Quota.TheVariants.{Left, UsedUp}
use Rattle.portal_calls.specs.declared.call.Call.{Call}
use Rattle.portal_calls.specs.declared.topic.Topic.{Topic}
use Rattle.portal_calls.specs.declared.topic.Topic.TheVariants as topic
use Rattle.visibility.specs.CallView.{CallView}
use Rattle.portal_state.specs.State.{State, accepted_bytes_of}
use Rattle.portal_state.specs.Change.{Change}
use Rattle.portal_state.specs.Planned.{PlannedChange, People, Datasets, Tables, Sources, change_of}
use Rattle.portal_state.specs.Queries.{answer_to_query}
use Rattle.portal_state.specs.Search.{answer_to_search}
use Rattle.portal_state.specs.declared.quota.QuotaUsed.{QuotaUsed}

-- ---- the call's view

-- the bytes that are accepted as changes from one user at most: 256 MiB
abbrev pub quota_bytes : ℕ
quota_bytes = 268435456

abbrev pub quota_if : Bool → Quota
quota_if true = Left
quota_if false = UsedUp

-- whether the call's size fits into its caller's quota of accepted bytes
abbrev pub quota_of : Call → List QuotaUsed → Quota
quota_of call quota_used = quota_if (nat_le (accepted_bytes_of call.caller quota_used + call.size) quota_bytes)

-- the call with its caller's view and quota
abbrev pub call_view_of : Call → State → CallView
call_view_of call view = record {
  caller = call.caller;
  call = call;
  quota = quota_of call view.quota_used;
  people = view.people;
  datasets = view.datasets;
}

-- ---- the answer

-- an answer on organizations as one on the portal
abbrev pub of_people : Answer OrgChange → Answer PlannedChange
of_people (Shown json) = Shown json
of_people (Refused denial) = Refused denial
of_people (Accepted json change) = Accepted json (People change)

-- an answer on datasets as one on the portal
abbrev pub of_datasets : Answer DatasetChange → Answer PlannedChange
of_datasets (Shown json) = Shown json
of_datasets (Refused denial) = Refused denial
of_datasets (Accepted json change) = Accepted json (Datasets change)

-- an answer on tables as one on the portal; where the resource has no table, it is NotFound
abbrev pub of_tables : TableAnswer TableChange → Answer PlannedChange
of_tables NoTable = Refused (NotFound Table)
of_tables (Answered (Shown json)) = Shown json
of_tables (Answered (Refused denial)) = Refused denial
of_tables (Answered (Accepted json change)) = Accepted json (Tables change)

-- an answer on sources of harvests as one on the portal
abbrev pub of_sources : Answer SourceChange → Answer PlannedChange
of_sources (Shown json) = Shown json
of_sources (Refused denial) = Refused denial
of_sources (Accepted json change) = Accepted json (Sources change)

-- the answer to an action, by what the action is about, where the view has these tables and sources
abbrev pub answer_on : Topic → CallView → List ResourceTable → List SourceState → Answer PlannedChange
answer_on (topic.Organizations action) view tables sources =
    of_people (organization.answer_to_action action view (owners_of sources))
answer_on (topic.Datasets action) view tables sources =
    of_datasets (dataset.answer_to_action action view (summaries_of tables))
answer_on topic.Search view tables sources = answer_to_search view (summaries_of tables)
answer_on (topic.Tables action) view tables sources = of_tables (table.answer_to_action action view tables)
answer_on (topic.Queries action) view tables sources = of_tables (answer_to_query action view tables)
answer_on (topic.Harvests action) view tables sources = of_sources (harvest.answer_to_action action view sources)

-- the answer to the call on the view, with the change that is planned
abbrev pub planned_answer : Call → State → Answer PlannedChange
planned_answer call view = answer_on (topic_of call.request.action) (call_view_of call view) view.tables view.sources

-- The answer to the call on the view. An accepted change is written out as entries, by what the caller sees.
abbrev pub answer_to : Call → State → Answer Change
answer_to call view = map_answer (λ planned. change_of planned view) (planned_answer call view)

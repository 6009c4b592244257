-- The answers to calls on sources of harvests and their jobs: functions of the call, of its caller's view, and of the
-- sources that the caller sees. The names of the actions are those of CKAN's ckanext-harvest.
use Rattle.std.specs.Prelude.{List, codes, Bool, map, Option, Some, None}
use Rattle.portal_base.specs.declared.caller.Caller.{Caller}
use Rattle.portal_base.specs.declared.json_value.Json as json
use Rattle.org_roles.specs.PeopleLists.{PeopleLists}
use Rattle.org_roles.specs.declared.entry.Org.{Org}
use Rattle.portal_calls.specs.Answer.{answer_if_authorized, answer_if_found, answer_if_valid}
use Rattle.portal_calls.specs.declared.answer.Answer.{Answer}
use Rattle.portal_calls.specs.declared.answer.Answer.TheVariants.{Shown, Accepted}
use Rattle.portal_calls.specs.declared.answer.Right.TheVariants.{AdministerOrganization}
use Rattle.portal_calls.specs.declared.topic.HarvestAction.{HarvestAction}
use Rattle.portal_calls.specs.declared.topic.HarvestAction.TheVariants.{HarvestSourceCreate, HarvestSourceUpdate}
use Rattle.portal_calls.specs.declared.topic.HarvestAction.TheVariants.{HarvestSourceDelete, HarvestSourceShow}
use Rattle.portal_calls.specs.declared.topic.HarvestAction.TheVariants.{HarvestSourceList, HarvestJobCreate}
use Rattle.portal_calls.specs.declared.topic.HarvestAction.TheVariants.{HarvestJobShow}
use Rattle.visibility.specs.CallView.{CallView}
use Rattle.visibility.specs.View.{administers}
use Rattle.harvest_sources.specs.Jobs.{new_job}
use Rattle.harvest_sources.specs.Sources.{SourceState}
use Rattle.harvest_sources.specs.declared.change.SourceChange.{SourceChange}
use Rattle.harvest_sources.specs.declared.change.SourceChange.TheVariants.{Create, Update, Remove, AddJob}
use Rattle.harvest_sources.specs.declared.job.Job.{Job}
use Rattle.harvest_sources.specs.declared.source.HarvestSource.{HarvestSource}
use Rattle.harvest_answers.specs.Bodies.{created_source, creation_errors, organization_given, unfinished_errors}
use Rattle.harvest_answers.specs.Bodies.{update_errors, edited_source}
use Rattle.harvest_answers.specs.Dictionary.{job_dictionary, source_dictionary}
use Rattle.harvest_answers.specs.Lookup.{administered_source, job_given, source_at}
use Rattle.harvest_answers.specs.View.{administers_somewhere}

-- ---- creation

-- who may create a source for an organization: who administers it; and without one, who administers any
abbrev pub can_create_for : PeopleLists → Caller → Option Org → Bool
can_create_for people caller None = administers_somewhere people caller
can_create_for people caller (Some org) = administers people caller org.name

abbrev pub may_create_source : CallView → Bool
may_create_source view =
    can_create_for view.people view.caller (organization_given view.people view.call.request.body)

-- the new source is accepted
abbrev pub accepted_creation : HarvestSource → Answer SourceChange
accepted_creation source = Accepted (source_dictionary source) (Create source)

abbrev pub answer_to_source_create : CallView → Answer SourceChange
answer_to_source_create view =
    answer_if_authorized (may_create_source view) AdministerOrganization
    (answer_if_valid view.quota (creation_errors view.people view.call.request.body)
    (accepted_creation (created_source view.call.request.body)))

-- ---- a source that the caller sees

-- the source gets the title and the location that it has here
abbrev pub accepted_update : HarvestSource → Answer SourceChange
accepted_update source = Accepted (source_dictionary source) (Update source.name source.title source.url)

abbrev pub answer_to_source_update : CallView → List SourceState → Answer SourceChange
answer_to_source_update view sources =
    answer_if_found (administered_source (codes "id") view sources)
    (λ s. answer_if_valid view.quota (update_errors s view.call.request.body)
    (accepted_update (edited_source view.call.request.body s.source)))

abbrev pub answer_to_source_delete : CallView → List SourceState → Answer SourceChange
answer_to_source_delete view sources =
    answer_if_found (administered_source (codes "id") view sources)
    (λ s. answer_if_valid view.quota (unfinished_errors (codes "id") s)
    (Accepted json.Null (Remove s.source.name)))

abbrev pub answer_to_source_show : CallView → List SourceState → Answer SourceChange
answer_to_source_show view sources =
    answer_if_found (source_at (codes "id") view sources) (λ s. Shown (source_dictionary s.source))

abbrev pub answer_to_source_list : List SourceState → Answer SourceChange
answer_to_source_list sources = Shown (json.List (map (λ s. source_dictionary s.source) sources))

-- ---- jobs

-- the job that the source gets at the call's moment
abbrev pub job_of_call : CallView → HarvestSource → Job
job_of_call view source = new_job source.name source.next_job view.call.moment

abbrev pub answer_to_job_create : CallView → List SourceState → Answer SourceChange
answer_to_job_create view sources =
    answer_if_found (administered_source (codes "source_id") view sources)
    (λ s. answer_if_valid view.quota (unfinished_errors (codes "source_id") s)
    (Accepted (job_dictionary (job_of_call view s.source)) (AddJob s.source.name view.call.moment)))

abbrev pub answer_to_job_show : CallView → List SourceState → Answer SourceChange
answer_to_job_show view sources = answer_if_found (job_given view sources) (λ job. Shown (job_dictionary job))

-- ---- every action

-- The answer to a call of this action. The sources are those that the caller sees, in the order of their names.
abbrev pub answer_to_action : HarvestAction → CallView → List SourceState → Answer SourceChange
answer_to_action HarvestSourceCreate view sources = answer_to_source_create view
answer_to_action HarvestSourceUpdate view sources = answer_to_source_update view sources
answer_to_action HarvestSourceDelete view sources = answer_to_source_delete view sources
answer_to_action HarvestSourceShow view sources = answer_to_source_show view sources
answer_to_action HarvestSourceList view sources = answer_to_source_list sources
answer_to_action HarvestJobCreate view sources = answer_to_job_create view sources
answer_to_action HarvestJobShow view sources = answer_to_job_show view sources

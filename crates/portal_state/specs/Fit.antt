-- Changes that the portal can make and that the caller has the right to, on a view.
use Rattle.dataset_answers.specs.Fit.{IsFitDataset}
use Rattle.organization_answers.specs.Fit.{IsFitOrg}
use Rattle.datastore_answers.specs.Fit.{IsFitTable}
use Rattle.datastore_answers.specs.Summaries.{summaries_of}
use Rattle.harvest_answers.specs.Fit.{IsFitSource}
use Rattle.harvest_sources.specs.Sources.{SourceState}
use Rattle.organization_answers.specs.Owners.{owners_of}
use Rattle.std.specs.Prelude.{List}
use Rattle.datastore_answers.specs.declared.resource_table.ResourceTable.{ResourceTable}
use Rattle.portal_calls.specs.declared.call.Call.{Call}
use Rattle.visibility.specs.CallView.{CallView}
use Rattle.portal_state.specs.Answer.{call_view_of}
use Rattle.portal_state.specs.Planned.{PlannedChange, People, Datasets, Tables, Sources}
use Rattle.portal_state.specs.State.{State}

abbrev pub IsFitAmong : CallView → List ResourceTable → List SourceState → PlannedChange → Type 0
IsFitAmong view tables sources (People change) = IsFitOrg view (owners_of sources) change
IsFitAmong view tables sources (Datasets change) = IsFitDataset view (summaries_of tables) change
IsFitAmong view tables sources (Tables change) = IsFitTable view tables change
IsFitAmong view tables sources (Sources change) = IsFitSource view sources change

-- the same on the view of the call's caller
abbrev pub IsFit : Call → State → PlannedChange → Type 0
IsFit call view change = IsFitAmong (call_view_of call view) view.tables view.sources change

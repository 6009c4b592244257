use Rattle.std.proofs.Common.{◌≡◌, map, take}
use Rattle.datastore_answers.specs.Summaries.{summaries_of}
use Rattle.datastore_answers.specs.Tables.{tables_of}
use Rattle.dataset_answers.specs.Dictionary.{package_dictionary}
use Rattle.visibility.specs.Viewer.{people_for}
use Rattle.portal_core.proofs.search.dictionaries_json.Given as goal

-- The dictionaries so far are those of the datasets so far.
abbrev pub invariant-loop-dataset : goal.invariant-loop-dataset
invariant-loop-dataset l =
    l.list.items ≡ map (package_dictionary (people_for l.fn.viewer) (summaries_of (tables_of l.fn.tables)))
    (take l.dataset-index l.fn.datasets)

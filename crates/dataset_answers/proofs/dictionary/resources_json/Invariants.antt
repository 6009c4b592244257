use Rattle.std.proofs.Common.{◌≡◌, ◌++◌, drop}
use Rattle.dataset_answers.specs.Dictionary.{resource_dictionaries}
use Rattle.dataset_answers.proofs.dictionary.resources_json.Given as goal

-- the dictionaries so far and those of the remaining resources are those of all
abbrev pub invariant-loop-position : goal.invariant-loop-position
invariant-loop-position g l =
    let summaries = g.H.TableLookup.summaries l.tables in
    l.list.items ++ resource_dictionaries summaries l.dataset l.position (drop l.position l.resources)
    ≡ resource_dictionaries summaries l.dataset 0 l.resources

use Rattle.std.proofs.Common.{◌≡◌, ◌≤◌}
use Rattle.datastore_answers.proofs.DropLemmas.{stays}
use Rattle.datastore_answers.proofs.RangeLemmas.{kept_from}
use Rattle.datastore_answers.proofs.tables.Tables.keep.Given as goal

abbrev pub invariant-loop-at : goal.invariant-loop-at
invariant-loop-at l =
    (l.from ≤ l.at)
    × (l.self-inside.tables.items
    ≡ kept_from (stays l.dataset l.resources) l.at l.initial.self-inside.tables.items)

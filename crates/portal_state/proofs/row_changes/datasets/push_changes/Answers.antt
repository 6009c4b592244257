-- The shelf has the dataset that is replaced.
use Rattle.std.proofs.Common.{inl, subst}
use Rattle.dataset_answers.specs.declared.change.DatasetChange.{DatasetChange}
use Rattle.portal_state.specs.Parts.{IsTakenBy}
use Rattle.portal_state.proofs.row_changes.datasets.push_changes.Goals as goal

pub push_put-requires-clause-placed : goal.push_put-requires-clause-placed
push_put-requires-clause-placed c =
    inl (subst (λ (change : DatasetChange). IsTakenBy change c.args.shelf.now) c.in-Replace.is c.requires.taken).on_shelf

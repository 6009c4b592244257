use Rattle.std.proofs.Common.{All, subst, sym, true≢false, ◌∙◌}
use Rattle.harvest_stages.specs.Stages.{sources_in}
use Rattle.portal_state.specs.Valid.{IsSoundAmong}
use Rattle.portal_core.proofs.RestoredDatasets.{restored-datasets, restored-shelvable, unrestored-shelf}
use Rattle.portal_core.proofs.restored_datasets.shelf_of_values.Goals as goal

pub returns-then-branch-clause-shelvable : goal.returns-then-branch-clause-shelvable
returns-then-branch-clause-shelvable c =
    restored-shelvable c.restore.result c.args.people.now.people (sources_in c.args.sources.now) c.args.datasets
    (subst (All (IsSoundAmong c.args.people.now.people (sources_in c.args.sources.now))) c.as_slice.ensures
    (c.in_ok-are_sound.ensures.sound c.if-branch.true))
    c.restore.ensures.exact

pub returns-then-branch-clause-datasets : goal.returns-then-branch-clause-datasets
returns-then-branch-clause-datasets c =
    restored-datasets c.restore.result c.args.datasets c.requires.ascend c.restore.ensures.datasets

pub returns-then-branch-clause-none : goal.returns-then-branch-clause-none
returns-then-branch-clause-none c =
    unrestored-shelf c.restore.result c.args.people.now.people (sources_in c.args.sources.now) c.args.datasets
    c.requires.ascend c.restore.ensures.exact

pub returns-else-branch-clause-none : goal.returns-else-branch-clause-none
returns-else-branch-clause-none c =
    λ is. c.in_ok-are_sound.ensures.unsound (λ sound. true≢false (sym sound ∙ c.if-branch.false))
    (subst (All (IsSoundAmong c.args.people.now.people (sources_in c.args.sources.now))) (sym c.as_slice.ensures)
    is.sound)

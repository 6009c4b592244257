-- The last dataset of the rest is put before those that were put, or it shares an id or a name with one of these.
use Rattle.std.proofs.Common.{[], ◌∷◌, ap, sym, ◌∙◌}
use Rattle.std.proofs.lemmas.List.{append-nil}
use Rattle.packages.specs.Restored.{have_unique_keys}
use Rattle.packages.proofs.RestoreLemmas.{IsRestored-none, IsRestored-put, moved-last, repeated-put}
use Rattle.packages.proofs.shelf.Shelf.restore.Goals as goal

pub loop-dataset-init : goal.loop-dataset-init
loop-dataset-init c = (
  [],
  append-nil c.into_vec-rest.result.items ∙ c.into_vec-rest.ensures,
  IsRestored-none c.new-shelf.result c.new-shelf.ensures.none c.new-shelf.ensures.room,
)

pub loop-dataset-preserved : goal.loop-dataset-preserved
loop-dataset-preserved c =
    let d = c.in-Some.dataset in
    let was = c.loop-dataset.invariant in (
      d ∷ was.0,
      moved-last c.args.datasets c.loop-dataset.rest.items c.pop.new.self.items was.0 d was.1 c.in-Some.ensures.items,
      IsRestored-put c.loop-dataset.shelf c.put_if_free.new.self d was.0 was.2
          (sym c.in_ok-put_if_free.ensures.exact ∙ c.if-not-branch.false)
          (c.in_ok-put_if_free.ensures.datasets c.if-not-branch.false)
          (c.in_ok-put_if_free.ensures.valid c.if-not-branch.false),
    )

pub returns-then-not-branch-clause-exact : goal.returns-then-not-branch-clause-exact
returns-then-not-branch-clause-exact c =
    let d = c.in-Some.dataset in
    let was = c.loop-dataset.invariant in
    sym (repeated-put c.loop-dataset.shelf d c.pop.new.self.items was.0 was.2
    (sym c.in_ok-put_if_free.ensures.exact ∙ c.if-not-branch.true))
    ∙ ap have_unique_keys
    (moved-last c.args.datasets c.loop-dataset.rest.items c.pop.new.self.items was.0 d was.1 c.in-Some.ensures.items)

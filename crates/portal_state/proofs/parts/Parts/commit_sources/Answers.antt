-- The datasets that go leave those of other sources.
use Rattle.std.proofs.Common.{refl}
use Rattle.packages.specs.Shelf.{datasets_of}
use Rattle.portal_state.proofs.Gone.{gone-left}
use Rattle.portal_state.proofs.IndexLemmas.{datasets-up}
use Rattle.portal_state.proofs.parts.Parts.commit_sources.Goals as goal

pub returns-clause-state : goal.returns-clause-state
returns-clause-state c =
    let datasets = datasets_of c.args.self.now.shelf in
    rw (
      c.remove_all.ensures.datasets,
      c.as_slice.ensures,
      c.requires.gone,
      gone-left c.args.change.change datasets (datasets-up c.args.self.now.shelf c.requires.shelved.valid),
      c.commit_change.ensures,
    ) refl

-- In a valid state each harvested dataset is public, and the counters give the counts of public datasets.
use Rattle.std.proofs.Common.{subst, sym}
use Rattle.facets.specs.Counters.{class_count}
use Rattle.facets.specs.declared.field.FacetField.TheVariants.{Organization}
use Rattle.organization_answers.specs.Dictionary.{AreCountsOf}
use Rattle.visibility.specs.Viewer.{ViewerState, datasets_for}
use Rattle.visibility.specs.declared.class.Class.TheVariants.{Public}
use Rattle.portal_state.proofs.Keeping.{harvested_open}
use Rattle.portal_core.proofs.PublicCounting.{counts_seen}
use Rattle.portal_core.proofs.decide.decide.Goals as goal
use Rattle.portal_state.specs.Parts.{state_of}

pub new-requires : goal.new-requires
new-requires c = harvested_open (state_of c.args.parts.now) c.requires.valid

pub answer-requires-clause-counts : goal.answer-requires-clause-counts
answer-requires-clause-counts c =
    let parts = c.args.parts.now in
    subst (λ (viewer : ViewerState). AreCountsOf (datasets_for viewer)
    (λ org. class_count Public Organization org parts.indexes.counters)) (sym c.new.ensures)
    (counts_seen c.counters_give_the_public_counts.ensures parts.indexes.counters c.args.call.now.caller
    (state_of parts) c.requires.valid c.requires.shelved.counts)

use Rattle.std.proofs.Common.{ap, sym, ◌∙◌}
use Rattle.harvest_sources.specs.Listings.{is_waiting}
use Rattle.harvest_sources.proofs.PlaceLemmas.{position_is, position_is_none}
use Rattle.harvest_sources.proofs.objects.waiting_index.Goals as goal

pub returns-then-is_waiting-clause-index : goal.returns-then-is_waiting-clause-index
returns-then-is_waiting-clause-index c =
    sym (position_is is_waiting c.args.objects.now c.loop-index.index c.index-objects-index.result
    c.loop-index-test.true c.loop-index.invariant
    (ap is_waiting (sym c.index-objects-index.is) ∙ sym c.is_waiting.ensures ∙ c.if-is_waiting.true))

pub returns-clause-index : goal.returns-clause-index
returns-clause-index c =
    sym (position_is_none is_waiting c.args.objects.now c.loop-index.index c.loop-index-test.false
    c.loop-index.invariant)

-- One id more removes its dataset.
use Rattle.std.proofs.Common.{◌∙◌, ap, sym}
use Rattle.packages.specs.Shelf.{datasets_of}
use Rattle.portal_state.proofs.IndexLemmas.{without_ids-next}
use Rattle.dataset_answers.specs.Changed.{dataset_at_id}
use Rattle.portal_base.specs.Ordered.{dropped}
use Rattle.portal_state.proofs.indexes.Indexes.remove_all.Goals as goal

pub loop-id-preserved : goal.loop-id-preserved
loop-id-preserved c = (
  c.remove_id.ensures.indexed,
  c.remove_id.ensures.datasets
      ∙ ap (dropped (dataset_at_id c.id-item.result)) c.loop-id.invariant.1
      ∙ sym (without_ids-next c.args.ids.now c.loop-id.id-index c.id-item.result (datasets_of c.args.shelf.now)
      c.loop-id-test.true c.id-item.is),
)

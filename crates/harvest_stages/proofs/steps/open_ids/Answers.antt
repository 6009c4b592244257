use Rattle.std.proofs.Common.{◌++◌, ◌∙◌, ap, sym}
use Rattle.std.specs.Prelude.{option_to_list}
use Rattle.harvest_stages.proofs.LocatedLemmas.{ids_more, open_id}
use Rattle.harvest_stages.proofs.steps.open_ids.Goals as goal

pub loop-source-preserved : goal.loop-source-preserved
loop-source-preserved c =
    c.in_ok-push_open_id.ensures
    ∙ ap (λ l. l ++ option_to_list (open_id c.source-item.result.state)) c.loop-source.invariant
    ∙ sym (ids_more c.args.sources.now c.loop-source.source-index c.source-item.result c.loop-source-test.true
    c.source-item.is)

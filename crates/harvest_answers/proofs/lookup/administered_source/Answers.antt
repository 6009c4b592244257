use Rattle.std.proofs.Common.{refl, subst, sym}
use Rattle.portal_calls.specs.Stop.{Finds}
use Rattle.visibility.specs.CallView.{context_view}
use Rattle.harvest_sources.specs.Sources.{SourceState, states}
use Rattle.harvest_answers.proofs.ViewLemmas.{administered_seen}
use Rattle.harvest_answers.specs.View.{seen_state}
use Rattle.harvest_answers.proofs.lookup.administered_source.Goals as goal

pub returns : goal.returns
returns c =
    let viewer = c.args.context.now.viewer in
    subst (Finds {X = SourceState} c.source_at.result (λ s. seen_state s.now))
    (sym (administered_seen c.args.key.now (context_view c.args.context.now) viewer.caller viewer.people
    (states c.args.sources.now) refl refl)) c.source_at.ensures

use Rattle.std.proofs.Common.{ap, sym, take, ◌++◌, ◌∙◌}
use Rattle.std.specs.List.{filter_map}
use Rattle.std.specs.Prelude.{option_to_list}
use Rattle.harvest_sources.specs.Listings.{bad_object}
use Rattle.harvest_sources.proofs.PlaceLemmas.{filter_map_more}
use Rattle.harvest_sources.proofs.objects.bad_objects.Goals as goal

pub loop-object-preserved : goal.loop-object-preserved
loop-object-preserved c =
    c.in_ok-push_bad.ensures
    ∙ ap (λ l. l ++ option_to_list (bad_object c.object-item.result)) c.loop-object.invariant
    ∙ sym (filter_map_more bad_object c.args.objects.now c.loop-object.object-index c.object-item.result
    c.loop-object-test.true
    ∙ ap (λ o. filter_map bad_object (take c.loop-object.object-index c.args.objects.now)
    ++ option_to_list (bad_object o)) (sym c.object-item.is))

use Rattle.std.proofs.Common.{◌∙◌, ap, refl, sym}
use Rattle.std.specs.Prelude.{option_map}
use Rattle.harvest_sources.specs.Sources.{SourceWithRoom, source_cmp, stored_cmp}
use Rattle.harvest_stages.proofs.MapLemmas.{map-IsAscending, option_map-copied}
use Rattle.harvest_stages.proofs.SourceLemmas.{named_stored}
use Rattle.harvest_stages.proofs.places.find_source.Goals as goal

pub find_in_order-requires : goal.find_in_order-requires
find_in_order-requires c =
    map-IsAscending (λ (s : SourceWithRoom). s.state) stored_cmp source_cmp (λ s t. refl) c.args.sources.now c.requires

pub returns : goal.returns
returns c =
    option_map-copied (λ (s : SourceWithRoom). s.state) c.find_in_order.result
    ∙ ap (option_map (λ (s : SourceWithRoom). s.state)) c.find_in_order.ensures
    ∙ sym (named_stored c.args.sources.now c.args.name.now)

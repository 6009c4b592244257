-- The dataset is that of what was read, and its effect is that on the one that has its name.
use Rattle.std.proofs.Common.{◌≡◌, ◌∙◌, Option, ap}
use Rattle.std.specs.Option.{option_map}
use Rattle.packages.specs.Shelf.{datasets_of}
use Rattle.harvest_results.specs.Effects.{effect_of_put, read_in}
use Rattle.harvest_sources.specs.Sources.{SourceState}
use Rattle.harvest_sources.specs.Steps.{with_open_job}
use Rattle.harvest_stages.specs.Stages.{sources_in}
use Rattle.portal_state.proofs.HarvestNames.{named-behind}
use Rattle.portal_state.proofs.parts.Parts.find_put.Goals as goal

pub effect_of_put-effect-requires-clause-named : goal.effect_of_put-effect-requires-clause-named
effect_of_put-effect-requires-clause-named c =
    let found : Option SourceState = option_map (λ s. s.now.state) c.source_of_job-source.result in
    named-behind c.args.iri.now c.args.reading.now found c.in_ok-put.put c.as_ref.result c.as_ref.ensures.value
    c.in_ok-put.ensures

pub returns : goal.returns
returns c =
    let iri = c.args.iri.now in
    let reading = c.args.reading.now in
    let sources = sources_in c.args.self.now.sources in
    let read : c.in_ok-put.put ≡ read_in iri reading (with_open_job sources c.args.job.now) =
    c.in_ok-put.ensures
    ∙ ap (read_in iri reading)
    (c.source_of_job-source.ensures.source ∙ ap (with_open_job sources) c.as_str.ensures) in
    record {
      put = read;
      gone = c.new.ensures;
      effect = c.effect_of_put-effect.ensures
          ∙ ap (effect_of_put (datasets_of c.args.self.now.shelf)) (c.as_ref.ensures.value ∙ read);
    }

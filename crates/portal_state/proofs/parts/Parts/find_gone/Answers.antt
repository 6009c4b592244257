-- The names of the datasets that go are their ids.
use Rattle.std.proofs.Common.{◌≡◌, ◌∙◌, Option, ap, length, map, refl}
use Rattle.std.proofs.lemmas.List.{length-map}
use Rattle.packages.specs.Shelf.{datasets_of}
use Rattle.packages.specs.Tags.{text_set}
use Rattle.packages.specs.declared.package.Package.{Package}
use Rattle.harvest_results.specs.Effects.{gone_of}
use Rattle.harvest_sources.specs.Sources.{SourceState}
use Rattle.harvest_sources.specs.Steps.{with_open_job}
use Rattle.harvest_sources.specs.declared.step.Effect.TheVariants.{Deleted}
use Rattle.harvest_stages.specs.Stages.{sources_in}
use Rattle.portal_state.specs.Parts.{state_of}
use Rattle.portal_state.proofs.Gone.{ended-ids}
use Rattle.portal_state.proofs.parts.Parts.find_gone.Goals as goal

pub returns : goal.returns
returns c =
    let datasets = datasets_of c.args.self.now.shelf in
    let job = c.args.job.now in
    let gone = gone_of (with_open_job (sources_in c.args.self.now.sources) job) datasets in
    let ids : c.from-gone.result ≡ map (λ (d : Package). d.id) gone =
    c.from-gone.ensures ∙ c.in_ok-names_gone.ensures
    ∙ ap (λ (s : Option SourceState). text_set (map (λ (d : Package). d.name) (gone_of s datasets)))
    (c.source_of_job-source.ensures.source
    ∙ ap (with_open_job (sources_in c.args.self.now.sources)) c.as_str.ensures)
    ∙ ended-ids job (state_of c.args.self.now) c.requires.valid in
    record {
      put = refl;
      gone = ids;
      effect = ap Deleted (c.len.ensures ∙ ap length ids ∙ length-map gone (λ (d : Package). d.id));
    }

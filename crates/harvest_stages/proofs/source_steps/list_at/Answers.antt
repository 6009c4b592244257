use Rattle.std.proofs.Common.{◌∙◌, ap, sym}
use Rattle.std.specs.Option.{option_copied}
use Rattle.harvest_sources.specs.Listings.{listing_of}
use Rattle.harvest_stages.proofs.PreparedLemmas.{list_made}
use Rattle.harvest_stages.proofs.source_steps.list_at.Goals as goal

pub returns-in_ok-listing-in-Some : goal.returns-in_ok-listing-in-Some
returns-in_ok-listing-in-Some c =
    list_made c.args.place c.args.source.now.state c.in-Some.job.now c.args.items.now c.args.unnamed
    c.in_ok-listing-in-Some.listing c.step_at.result (sym c.unlisted_job.ensures ∙ ap option_copied c.in-Some.is)
    (c.in_ok-listing-in-Some.ensures
    ∙ ap (λ items. listing_of c.in-Some.job.now.source items c.args.unnamed) c.in_ok-items-in-Some.ensures)
    c.step_at.ensures

use Rattle.std.proofs.Common.{◌≡◌, Some, None, ap, sym, ◌∙◌}
use Rattle.std.specs.Prelude.{Option, option_and_then, option_map, position}
use Rattle.std.specs.Option.{option_copied}
use Rattle.harvest_sources.specs.Listings.{first_waiting, is_waiting, waiting_index, waits_at}
use Rattle.harvest_sources.specs.declared.listing.Listing.{Listing}
use Rattle.harvest_sources.specs.declared.step.Found.{Found}
use Rattle.harvest_sources.specs.declared.step.Item.{Item}
use Rattle.harvest_sources.proofs.ObjectLemmas.{no_waiting, waiting_item_at, waits_somewhere}
use Rattle.harvest_sources.proofs.source_jobs.SourceJobs.first_waiting.Goals as goal

pub returns-in_err-self : goal.returns-in_err-self
returns-in_err-self c =
    let listing : Listing = c.in_ok-listing.listing.now in
    let is : c.self.inside.listing ≡ Some listing =
    sym c.as_ref.ensures.value ∙ ap option_copied c.in_ok-listing.was in
    let at : position is_waiting listing.objects ≡ None =
    sym (ap waiting_index is) ∙ sym c.self.invariant.waiting ∙ c.in_err-self.was in
    rw (← c.self.view_is, c.from_residual-in_err-self.ensures)
    (sym (ap (option_and_then first_waiting) is ∙ no_waiting listing at))

pub returns-in_err-found : goal.returns-in_err-found
returns-in_err-found c =
    let listing : Listing = c.in_ok-listing.listing.now in
    let is : c.self.inside.listing ≡ Some listing =
    sym c.as_ref.ensures.value ∙ ap option_copied c.in_ok-listing.was in
    let at : position is_waiting listing.objects ≡ Some c.in_ok-self.field-0 =
    sym (ap waiting_index is) ∙ sym c.self.invariant.waiting ∙ c.in_ok-self.was in
    let there = waiting_item_at listing c.in_ok-self.field-0 at c.at-object.result.now c.at-object.ensures in
    absurd (waits_somewhere c.at-object.result.now there.1
    (sym c.waiting.ensures ∙ ap option_copied c.in_err-found.was))

pub returns : goal.returns
returns c =
    let listing : Listing = c.in_ok-listing.listing.now in
    let is : c.self.inside.listing ≡ Some listing =
    sym c.as_ref.ensures.value ∙ ap option_copied c.in_ok-listing.was in
    let at : position is_waiting listing.objects ≡ Some c.in_ok-self.field-0 =
    sym (ap waiting_index is) ∙ sym c.self.invariant.waiting ∙ c.in_ok-self.was in
    let there = waiting_item_at listing c.in_ok-self.field-0 at c.at-object.result.now c.at-object.ensures in
    let found : waits_at c.at-object.result.now.progress ≡ Some c.in_ok-found.found.now =
    sym c.waiting.ensures ∙ ap option_copied c.in_ok-found.was in
    let make : Option Found → Option Item =
    option_map (λ found. record { iri = c.at-object.result.now.iri; found = found }) in
    rw (← c.self.view_is) (sym (ap (option_and_then first_waiting) is ∙ there.0 ∙ ap make found))

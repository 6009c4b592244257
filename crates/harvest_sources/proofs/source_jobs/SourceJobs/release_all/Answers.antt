use Rattle.std.proofs.Common.{◌≡◌, Some, ap, sym, subst, ◌∙◌}
use Rattle.std.specs.Prelude.{position}
use Rattle.portal_base.specs.Ordered.{IsAscending}
use Rattle.harvest_sources.specs.Listings.{is_waiting, object_cmp}
use Rattle.harvest_sources.specs.Sources.{SourceState}
use Rattle.harvest_sources.specs.declared.listing.Listing.{Listing}
use Rattle.harvest_sources.proofs.JobLemmas.{listing_ascends, released_ascends, relisted_holds}
use Rattle.harvest_sources.proofs.source_jobs.SourceJobs.release_all.Goals as goal

pub invariant_of-self : goal.invariant_of-self
invariant_of-self c =
    let s : SourceState = record {
      source = c.self.inside.source;
      jobs = c.self.inside.jobs.items;
      listing = c.self.inside.listing;
    } in
    let l : Listing = c.in-Some.listing in
    let is : s.listing ≡ Some l = sym c.take.ensures.value ∙ c.in-Some.is in
    let after : Listing = c.with_all_released-listing.result in
    let up : IsAscending object_cmp after.objects =
    subst (λ (x : Listing). IsAscending object_cmp x.objects) (sym c.with_all_released-listing.ensures)
    (released_ascends l.objects (listing_ascends s l c.self.invariant.jobs is)) in
    rw c.keep.ensures (record {
      jobs = relisted_holds s l after c.self.invariant.jobs is up;
      current = c.self.invariant.current;
      waiting = c.waiting_index-self-inside.ensures.index ∙ ap (position is_waiting) c.as_slice.ensures;
    })

pub returns-in-Some-clause-holds : goal.returns-in-Some-clause-holds
returns-in-Some-clause-holds c = (invariant_of-self c).jobs

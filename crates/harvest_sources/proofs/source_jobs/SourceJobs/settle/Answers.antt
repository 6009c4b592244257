use Rattle.std.proofs.Common.{◌≡◌, Some, sym, subst, ◌∙◌}
use Rattle.portal_base.specs.Ordered.{IsAscending}
use Rattle.harvest_sources.specs.Listings.{object_cmp}
use Rattle.harvest_sources.specs.Sources.{SourceState}
use Rattle.harvest_sources.specs.declared.listing.Listing.{Listing}
use Rattle.harvest_sources.specs.declared.listing.Progress.TheVariants.{Done}
use Rattle.harvest_sources.proofs.JobLemmas.{listing_ascends, relisted_holds}
use Rattle.harvest_sources.proofs.ObjectLemmas.{progress_ascends}
use Rattle.harvest_sources.proofs.source_jobs.SourceJobs.settle.Goals as goal

pub invariant_of-self : goal.invariant_of-self
invariant_of-self c =
    let s : SourceState = record {
      source = c.self.inside.source;
      jobs = c.self.inside.jobs.items;
      listing = c.self.inside.listing;
    } in
    let l : Listing = c.in-Some.listing in
    let is : s.listing ≡ Some l = sym c.take.ensures.value ∙ c.in-Some.is in
    let after : Listing = c.settled-listing.result.0 in
    let up : IsAscending object_cmp after.objects =
    subst (λ (x : Listing). IsAscending object_cmp x.objects) (sym c.settled-listing.ensures.listing)
    (progress_ascends c.args.iri.now (Done c.args.outcome) l (listing_ascends s l c.self.invariant.jobs is)) in
    rw c.keep.ensures (record {
      jobs = relisted_holds s l after c.self.invariant.jobs is up;
      current = c.self.invariant.current;
      waiting = c.settled-listing.ensures.waiting;
    })

pub returns-in-Some-clause-holds : goal.returns-in-Some-clause-holds
returns-in-Some-clause-holds c = (invariant_of-self c).jobs

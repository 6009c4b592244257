use Rattle.std.proofs.Common.{◌≡◌, ℕ, ◌+◌, IsTrue, IfSome, Some, ap, sym, subst, ◌∙◌}
use Rattle.std.specs.Prelude.{is_some, position}
use Rattle.std.proofs.lemmas.Option.{IfSome_then}
use Rattle.harvest_sources.specs.Entries.{with_listing}
use Rattle.harvest_sources.specs.Listings.{NoneWaitsBefore, first_waiting, is_waiting, waiting_index, with_progress}
use Rattle.harvest_sources.specs.Sources.{SourceState, SourceWithRoom}
use Rattle.harvest_sources.specs.Steps.{waiting_of}
use Rattle.harvest_sources.specs.declared.listing.Listing.{Listing}
use Rattle.harvest_sources.specs.declared.listing.Progress.TheVariants.{Claimed}
use Rattle.harvest_sources.proofs.JobLemmas.{listing_ascends, relisted_holds, waiting_gone}
use Rattle.harvest_sources.proofs.ObjectLemmas.{claim_ascends, claim_is, claim_passed}
use Rattle.harvest_sources.proofs.source_jobs.SourceJobs.claim.Goals as goal

pub waiting_index-self-inside-requires : goal.waiting_index-self-inside-requires
waiting_index-self-inside-requires c =
    let s : SourceState = record {
      source = c.self.inside.source;
      jobs = c.self.inside.jobs.items;
      listing = c.self.inside.listing;
    } in
    let l : Listing = c.in-Some-take.listing in
    let i : ℕ = c.in-Some.index in
    let is : s.listing ≡ Some l = sym c.take.ensures.value ∙ c.in-Some-take.is in
    let at : position is_waiting l.objects ≡ Some i =
    sym (ap waiting_index is) ∙ sym c.self.invariant.waiting ∙ c.in-Some.is in
    let up = listing_ascends s l c.self.invariant.jobs is in
    let after : Listing = c.with_claimed-listing.result in
    subst (NoneWaitsBefore (i + 1)) (sym c.as_slice.ensures)
    (claim_passed l after i up at c.with_claimed-listing.ensures.objects c.with_claimed-listing.ensures.unnamed)

pub invariant_of-self : goal.invariant_of-self
invariant_of-self c =
    let s : SourceState = record {
      source = c.self.inside.source;
      jobs = c.self.inside.jobs.items;
      listing = c.self.inside.listing;
    } in
    let l : Listing = c.in-Some-take.listing in
    let i : ℕ = c.in-Some.index in
    let is : s.listing ≡ Some l = sym c.take.ensures.value ∙ c.in-Some-take.is in
    let at : position is_waiting l.objects ≡ Some i =
    sym (ap waiting_index is) ∙ sym c.self.invariant.waiting ∙ c.in-Some.is in
    let up = listing_ascends s l c.self.invariant.jobs is in
    let after : Listing = c.with_claimed-listing.result in
    rw c.keep.ensures (record {
      jobs = relisted_holds s l after c.self.invariant.jobs is
          (claim_ascends l after i up at c.with_claimed-listing.ensures.objects
          c.with_claimed-listing.ensures.unnamed);
      current = c.self.invariant.current;
      waiting = c.waiting_index-self-inside.ensures.index ∙ ap (position is_waiting) c.as_slice.ensures;
    })

pub returns-in-Some-take-clause-state : goal.returns-in-Some-take-clause-state
returns-in-Some-take-clause-state c =
    let s : SourceState = record {
      source = c.self.inside.source;
      jobs = c.self.inside.jobs.items;
      listing = c.self.inside.listing;
    } in
    let l : Listing = c.in-Some-take.listing in
    let i : ℕ = c.in-Some.index in
    let is : s.listing ≡ Some l = sym c.take.ensures.value ∙ c.in-Some-take.is in
    let at : position is_waiting l.objects ≡ Some i =
    sym (ap waiting_index is) ∙ sym c.self.invariant.waiting ∙ c.in-Some.is in
    let up = listing_ascends s l c.self.invariant.jobs is in
    let after : Listing = c.with_claimed-listing.result in
    subst (λ (v : SourceWithRoom). IfSome v.state.listing (λ listing. IfSome (first_waiting listing) (λ item.
    record s { listing = c.keep.new.place }
    ≡ with_listing (Some (with_progress item.iri (Claimed item.found) listing)) v.state))) c.self.view_is
    (subst (λ o. IfSome o (λ listing. IfSome (first_waiting listing) (λ item.
    record s { listing = c.keep.new.place }
    ≡ with_listing (Some (with_progress item.iri (Claimed item.found) listing)) s))) (sym is)
    (IfSome_then (first_waiting l)
    (claim_is l after i up at c.with_claimed-listing.ensures.objects c.with_claimed-listing.ensures.unnamed)
    (λ item e. ap (λ o. record s { listing = o }) (c.keep.ensures ∙ ap Some e))))

pub returns-in-Some-take-clause-holds : goal.returns-in-Some-take-clause-holds
returns-in-Some-take-clause-holds c = (invariant_of-self c).jobs

pub returns-in_default-clause-state : goal.returns-in_default-clause-state
returns-in_default-clause-state c =
    let s : SourceState = record {
      source = c.self.inside.source;
      jobs = c.self.inside.jobs.items;
      listing = c.self.inside.listing;
    } in
    absurd (waiting_gone s (sym c.self.invariant.waiting ∙ c.in_default.is)
    (subst (λ (v : SourceWithRoom). IsTrue (is_some (waiting_of v.state))) (sym c.self.view_is) c.requires))

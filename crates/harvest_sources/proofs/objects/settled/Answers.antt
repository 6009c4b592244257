use Rattle.std.proofs.Common.{◌≡◌, ◌+◌, Some, ap, sym, subst, ◌∙◌}
use Rattle.std.specs.Prelude.{position}
use Rattle.harvest_sources.specs.Listings.{NoneWaitsBefore, is_waiting}
use Rattle.harvest_sources.proofs.ObjectLemmas.{is_object_at, settle_is, settle_passed, settle_same, unsettled_is_there}
use Rattle.harvest_sources.proofs.objects.settled.Goals as goal

pub waiting_after-waiting-requires-clause-moved : goal.waiting_after-waiting-requires-clause-moved
waiting_after-waiting-requires-clause-moved c =
    let at : position (is_object_at c.args.iri.now) c.args.listing.objects ≡ Some c.in-Some.index =
    sym (c.index_of.ensures.index ∙ ap (position (is_object_at c.args.iri.now)) c.as_slice.ensures) ∙ c.in-Some.is in
    λ first. subst (NoneWaitsBefore (c.in-Some.index + 1)) (sym c.as_slice-in-Some.ensures)
    (settle_passed c.args.listing c.with_done-listing.result c.args.iri.now c.args.outcome c.in-Some.index
    c.requires.ascending at c.with_done-listing.ensures.objects c.with_done-listing.ensures.unnamed
    (sym c.requires.waiting ∙ first))

pub waiting_after-waiting-requires-clause-same : goal.waiting_after-waiting-requires-clause-same
waiting_after-waiting-requires-clause-same c =
    let at : position (is_object_at c.args.iri.now) c.args.listing.objects ≡ Some c.in-Some.index =
    sym (c.index_of.ensures.index ∙ ap (position (is_object_at c.args.iri.now)) c.as_slice.ensures) ∙ c.in-Some.is in
    λ other. c.requires.waiting
    ∙ settle_same c.args.listing c.with_done-listing.result c.args.iri.now c.args.outcome c.in-Some.index
    c.requires.ascending at c.with_done-listing.ensures.objects c.with_done-listing.ensures.unnamed
    (λ first. other (c.requires.waiting ∙ first))
    ∙ ap (position is_waiting) (sym c.as_slice-in-Some.ensures)

pub unreachable-requires : goal.unreachable-requires
unreachable-requires c =
    unsettled_is_there c.args.listing c.args.iri.now c.requires.unsettled
    (sym (c.index_of.ensures.index ∙ ap (position (is_object_at c.args.iri.now)) c.as_slice.ensures) ∙ c.in-None.is)

pub returns-clause-listing : goal.returns-clause-listing
returns-clause-listing c =
    let at : position (is_object_at c.args.iri.now) c.args.listing.objects ≡ Some c.in-Some.index =
    sym (c.index_of.ensures.index ∙ ap (position (is_object_at c.args.iri.now)) c.as_slice.ensures) ∙ c.in-Some.is in
    settle_is c.args.listing c.with_done-listing.result c.args.iri.now c.args.outcome c.in-Some.index
    c.requires.ascending at c.with_done-listing.ensures.objects c.with_done-listing.ensures.unnamed

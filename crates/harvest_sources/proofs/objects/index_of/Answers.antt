use Rattle.std.proofs.Common.{rules, ◌∙◌}
use Rattle.std.proofs.lemmas.Fn.{always_returns_same}
use Rattle.portal_base.proofs.Halved.{position_by_halving}
use Rattle.harvest_sources.specs.Listings.{IsKey-object_at, IsMonotone-object_at, object_at, object_cmp, object_cmp_total}
use Rattle.harvest_sources.proofs.objects.index_of.Goals as goal

pub returns-clause-index : goal.returns-clause-index
returns-clause-index c =
    let iri = c.args.iri.now in
    c.ok.ensures.value
    ∙ position_by_halving object_cmp object_cmp_total (object_at iri) (IsKey-object_at iri) (IsMonotone-object_at iri)
    c.args.objects.now c.requires c.binary_search_by.result c.binary_search_by.ensures.bound
    (c.binary_search_by.ensures.position (object_at iri) (always_returns_same _ _ _ (λ a r f called. search rules)))

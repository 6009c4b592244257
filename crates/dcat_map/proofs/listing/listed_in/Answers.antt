use Rattle.std.proofs.Common.{cond, Some, None, refl, sym, ap, ◌∙◌, inr}
use Rattle.dcat_map.specs.Listings.{listing_in}
use Rattle.dcat_map.proofs.ListingLemmas.{catalogued-by}
use Rattle.dcat_map.proofs.listing.listed_in.Goals as goal

pub returns-then-not-has_catalogue-clause-fault : goal.returns-then-not-has_catalogue-clause-fault
returns-then-not-has_catalogue-clause-fault c =
    let g = c.args.graph.now in
    inr (
      refl,
      catalogued-by g c.has_catalogue.result c.has_catalogue.ensures
          ∙ ap (λ b. cond b (Some (listing_in g)) None) c.if-not-has_catalogue.true,
    )

pub returns-clause-listing : goal.returns-clause-listing
returns-clause-listing c =
    let g = c.args.graph.now in
    catalogued-by g c.has_catalogue.result c.has_catalogue.ensures ∙ ap (λ b. cond b (Some (listing_in g)) None)
    c.if-not-has_catalogue.false
    ∙ ap Some (sym c.in_ok-listing_from.ensures)

use Rattle.std.proofs.Common.{◌≡◌, ◌∙◌, Bor, Option, Some, None, ap, is_some, option_copied, refl}
use Rattle.portal_base.specs.Ordered.{found}
use Rattle.harvest_sources.specs.Listings.{object_at}
use Rattle.harvest_sources.specs.declared.listing.ListedObject.{ListedObject}
use Rattle.harvest_sources.proofs.ObjectLemmas.{found-any}
use Rattle.harvest_sources.proofs.objects.has_object.Goals as goal

copied_some : (object : Option (Bor ListedObject)) → is_some object ≡ is_some (option_copied object)
copied_some None = refl
copied_some (Some object) = refl

pub returns : goal.returns
returns c =
    c.is_some.ensures ∙ copied_some c.find_in_order.result
    ∙ ap is_some (c.find_in_order.ensures ∙ ap (found (object_at c.args.iri.now)) c.as_slice.ensures)
    ∙ found-any c.args.iri.now c.args.listing.now.objects

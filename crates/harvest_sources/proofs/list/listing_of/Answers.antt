use Rattle.portal_base.specs.Ordered.{IsAscending}
use Rattle.std.proofs.Common.{subst, sym}
use Rattle.harvest_sources.specs.Listings.{item_cmp}
use Rattle.harvest_sources.proofs.ListLemmas.{IsAscending-first_items}
use Rattle.harvest_sources.proofs.list.listing_of.Goals as goal

pub objects_of-requires : goal.objects_of-requires
objects_of-requires c =
    subst (IsAscending item_cmp) (sym c.in_ok-first.ensures) (IsAscending-first_items c.args.items)

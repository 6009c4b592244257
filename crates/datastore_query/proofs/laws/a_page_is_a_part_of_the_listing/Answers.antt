use Rattle.datastore_query.proofs.ListingLemmas.{page_by_rules}
use Rattle.datastore_query.proofs.laws.a_page_is_a_part_of_the_listing.Goals as goal

pub returns : goal.returns
returns c = page_by_rules

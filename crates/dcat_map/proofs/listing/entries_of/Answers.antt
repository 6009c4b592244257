use Rattle.std.proofs.Common.{ap, ◌∙◌}
use Rattle.dcat_map.specs.Listings.{entries_in}
use Rattle.dcat_map.specs.Sets.{ascending_set}
use Rattle.dcat_map.specs.Terms.{term_cmp}
use Rattle.dcat_map.proofs.listing.entries_of.Goals as goal

pub returns : goal.returns
unfolding entries_in
returns c = c.make_term_set.ensures ∙ ap (ascending_set term_cmp) c.in_ok-entries.ensures

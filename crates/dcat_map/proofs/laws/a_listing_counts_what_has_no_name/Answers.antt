use Rattle.dcat_map.proofs.LawLemmas.{unnamed_counted, no_catalogue_exactly}
use Rattle.dcat_map.proofs.laws.a_listing_counts_what_has_no_name.Goals as goal

pub returns-clause-unnamed : goal.returns-clause-unnamed
returns-clause-unnamed c = unnamed_counted

pub returns-clause-none : goal.returns-clause-none
returns-clause-none c = no_catalogue_exactly

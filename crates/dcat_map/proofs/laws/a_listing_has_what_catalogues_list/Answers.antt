use Rattle.dcat_map.proofs.LawLemmas.{listed_ascend, listed_exactly}
use Rattle.dcat_map.proofs.laws.a_listing_has_what_catalogues_list.Goals as goal

pub returns-clause-ascending : goal.returns-clause-ascending
returns-clause-ascending c = listed_ascend

pub returns-clause-listed : goal.returns-clause-listed
returns-clause-listed c = listed_exactly

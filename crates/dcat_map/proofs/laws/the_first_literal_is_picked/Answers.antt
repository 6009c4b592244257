use Rattle.dcat_map.proofs.LawLemmas.{picked-first, picked-none}
use Rattle.dcat_map.proofs.laws.the_first_literal_is_picked.Goals as goal

pub returns-clause-first : goal.returns-clause-first
returns-clause-first c = picked-first

pub returns-clause-none : goal.returns-clause-none
returns-clause-none c = picked-none

use Rattle.dcat_map.proofs.LawLemmas.{least-text, least-moment}
use Rattle.dcat_map.proofs.laws.the_least_has_none_below.Goals as goal

pub returns-clause-text : goal.returns-clause-text
returns-clause-text c = least-text

pub returns-clause-moment : goal.returns-clause-moment
returns-clause-moment c = least-moment

use Rattle.dcat_map.proofs.LawLemmas.{pick-is, is-pick, none-pick, pick-none}
use Rattle.dcat_map.proofs.laws.the_pick_comes_before_all_others.Goals as goal

pub returns-clause-pick : goal.returns-clause-pick
returns-clause-pick c = λ ts s p o. (pick-is ts s p o, is-pick ts s p o)

pub returns-clause-none : goal.returns-clause-none
returns-clause-none c = λ ts s p. (none-pick ts s p, pick-none ts s p)

use Rattle.dcat_map.proofs.Marks.{last_part-slash, last_part-sign, last_part-none}
use Rattle.dcat_map.proofs.laws.the_last_part_follows_the_last_mark.Goals as goal

pub returns-clause-slash : goal.returns-clause-slash
returns-clause-slash c = last_part-slash

pub returns-clause-number_sign : goal.returns-clause-number_sign
returns-clause-number_sign c = last_part-sign

pub returns-clause-none : goal.returns-clause-none
returns-clause-none c = last_part-none

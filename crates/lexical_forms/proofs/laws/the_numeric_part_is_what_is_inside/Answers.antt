use Rattle.lexical_forms.proofs.InsideLemmas.{part_is_inside}
use Rattle.lexical_forms.proofs.laws.the_numeric_part_is_what_is_inside.Goals as goal

pub returns : goal.returns
returns c = part_is_inside

use Rattle.dcat_map.proofs.InstantLemmas.{instant_exactly}
use Rattle.dcat_map.proofs.laws.a_text_gives_a_moment_exactly_where_it_is_of_the_form.Goals as goal

pub returns : goal.returns
returns c = instant_exactly

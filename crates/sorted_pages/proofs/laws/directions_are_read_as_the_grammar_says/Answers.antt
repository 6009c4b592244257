use Rattle.sorted_pages.proofs.DirectionLemmas.{directions_by_grammar}
use Rattle.sorted_pages.proofs.laws.directions_are_read_as_the_grammar_says.Goals as goal

pub returns : goal.returns
returns c = directions_by_grammar

use Rattle.datastore_query.proofs.PassingLemmas.{words_by_texts}
use Rattle.datastore_query.proofs.laws.a_row_has_the_words_of_its_cells.Goals as goal

pub returns : goal.returns
returns c = words_by_texts

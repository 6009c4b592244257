use Rattle.datastore_query.proofs.ListingLemmas.{order_permutes, rows_in_order}
use Rattle.datastore_query.proofs.laws.selected_rows_stand_in_the_order_of_the_sorts.Goals as goal

pub returns : goal.returns
returns c = record { selected = rows_in_order; rearranged = order_permutes }

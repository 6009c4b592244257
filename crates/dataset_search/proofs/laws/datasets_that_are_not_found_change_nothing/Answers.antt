use Rattle.dataset_search.proofs.LawLemmas.{count-alike, found-again, found-in_order, left-out, page-alike}
use Rattle.dataset_search.proofs.laws.datasets_that_are_not_found_change_nothing.Goals as goal

pub returns : goal.returns
returns c = record {
  one = left-out;
  again = found-again;
  page = page-alike;
  count = count-alike;
  order = found-in_order;
}

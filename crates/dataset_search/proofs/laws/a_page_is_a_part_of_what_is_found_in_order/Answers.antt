use Rattle.portal_base.specs.Ordered.{ascending}
use Rattle.sorted_pages.proofs.PageLemmas.{parts_are}
use Rattle.sorted_pages.proofs.SelectLemmas.{ascending-permutes}
use Rattle.dataset_search.specs.Found.{found}
use Rattle.dataset_search.specs.Order.{search_cmp}
use Rattle.dataset_search.proofs.LawLemmas.{found-ascends}
use Rattle.dataset_search.proofs.laws.a_page_is_a_part_of_what_is_found_in_order.Goals as goal

pub returns : goal.returns
returns c = record {
  part = λ search datasets part.
      parts_are search.page.offset search.page.limit (ascending (search_cmp search.sort) (found search datasets)) part;
  ascends = found-ascends;
  rearranged = λ search datasets. ascending-permutes (search_cmp search.sort) (found search datasets);
}

use Rattle.sorted_pages.proofs.PageLemmas.{parts_are}
use Rattle.sorted_pages.proofs.laws.a_page_is_a_part_of_the_items.Goals as goal

pub returns : goal.returns
returns g c = parts_are

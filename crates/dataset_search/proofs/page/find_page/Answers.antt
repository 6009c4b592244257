use Rattle.std.proofs.Common.{◌≡◌, ◌∙◌, ◌+◌, List, ap, length, min, subst, sym}
use Rattle.std.specs.Prelude.{IfOk, IsTrue}
use Rattle.packages.specs.declared.package.Package.{Package}
use Rattle.packages.specs.Shelf.{datasets_at}
use Rattle.dataset_search.specs.Order.{have_distinct_names}
use Rattle.dataset_search.proofs.PageLemmas.{distinct-search, page_of_lent}
use Rattle.dataset_search.proofs.page.find_page.Goals as goal

pub first_in_order-first-requires : goal.first_in_order-first-requires
first_in_order-first-requires g c =
    let lent : c.as_mut_slice.result.now ≡ datasets_at c.args.shelf.now c.args.numbers.now =
    c.as_mut_slice.ensures.value ∙ c.in_ok-datasets.ensures.datasets
    ∙ ap (datasets_at c.args.shelf.now) c.as_slice.ensures in
    distinct-search c.as_slice-2.result.now c.as_mut_slice.result.now
    (subst (λ (ds : List Package). IsTrue (have_distinct_names ds)) (sym lent) c.requires.names)

pub returns-clause-page : goal.returns-clause-page
returns-clause-page g c = λ datasets moved.
    let listed : List Package = datasets_at c.args.shelf.now c.args.numbers.now in
    let lent : c.as_mut_slice.result.now ≡ listed =
    c.as_mut_slice.ensures.value ∙ c.in_ok-datasets.ensures.datasets
    ∙ ap (datasets_at c.args.shelf.now) c.as_slice.ensures in
    let end : c.end_within-end.result ≡ min (c.args.search.now.page.offset + c.args.search.now.page.limit)
    (length c.as_mut_slice.result.now) =
    c.end_within-end.ensures
    ∙ ap (min (c.args.search.now.page.offset + c.args.search.now.page.limit))
    (c.len.ensures ∙ sym c.as_mut_slice.ensures.len) in
    subst (λ (ds : List Package). IfOk c.lend_again.result (λ again. again.items ≡ ds))
    (c.page_of.ensures
    ∙ page_of_lent c.as_slice-2.result.now c.args.search.now.sort c.args.search.now.page.limit
    c.args.search.now.page.offset c.end_within-end.result c.as_mut_slice.result.now listed datasets
    c.first_in_order-first.result.now c.as_slice-2.ensures lent c.requires.names moved end
    c.first_in_order-first.ensures) c.lend_again.ensures

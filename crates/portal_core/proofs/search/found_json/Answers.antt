-- The dictionary is that of the datasets at the numbers, in whatever order they are.
use Rattle.std.proofs.Common.{◌≡◌, ◌∙◌, IfOk, subst}
use Rattle.portal_base.specs.declared.json_value.Json.{Json}
use Rattle.datastore_answers.specs.Summaries.{summaries_of}
use Rattle.datastore_answers.specs.Tables.{tables_of}
use Rattle.packages.specs.Shelf.{datasets_at}
use Rattle.dataset_search.specs.Found.{found}
use Rattle.visibility.specs.TableSummary.{summaries_seen}
use Rattle.visibility.specs.Viewer.{datasets_for, people_for}
use Rattle.portal_core.proofs.SearchLemmas.{count_of_found, made_of_found}
use Rattle.portal_core.proofs.search.found_json.Goals as goal

pub returns : goal.returns
returns g c =
    let viewer = c.args.viewer.now in
    let shelf = c.args.shelf.now in
    let search = c.args.search.now in
    let request = c.args.request.now in
    let datasets = found search (datasets_for viewer) in
    let numbers = c.in_ok-numbers.numbers in
    subst (λ (j : Json). IfOk c.dictionary.result (λ shown. shown ≡ j))
    (made_of_found (people_for viewer) (summaries_seen (datasets_for viewer) (summaries_of (tables_of c.args.tables.now)))
    search request datasets _ _ _
    (c.len.ensures ∙ count_of_found shelf numbers datasets c.in_ok-numbers.ensures.exist c.in_ok-numbers.ensures.found)
    c.in_ok-results.ensures
    (c.in_ok-facets.ensures.facets
    ∙ c.search_facets_do_not_depend_on_the_order.ensures viewer.people.orgs request (datasets_at shelf numbers) datasets
    c.in_ok-numbers.ensures.found))
    c.dictionary.ensures.same

-- The page is of datasets that the caller sees, so that their dictionaries need the tables that it sees alone.
use Rattle.std.proofs.Common.{◌≡◌, ◌∙◌, IfOk, List, ap, map, subst}
use Rattle.portal_base.specs.declared.json_value.Json.{Json}
use Rattle.datastore_answers.specs.Summaries.{summaries_of}
use Rattle.datastore_answers.specs.Tables.{tables_of}
use Rattle.dataset_answers.specs.Dictionary.{package_dictionary}
use Rattle.dataset_answers.proofs.TableSummaryLemmas.{packages_view}
use Rattle.dataset_search.specs.Found.{found, page}
use Rattle.visibility.specs.Viewer.{datasets_for, people_for}
use Rattle.portal_core.proofs.SearchLemmas.{page_is_seen}
use Rattle.portal_core.proofs.search.results_json.Goals as goal

pub returns : goal.returns
returns g c =
    let viewer = c.args.viewer.now in
    let search = c.args.search.now in
    let datasets = found search (datasets_for viewer) in
    let summaries = summaries_of (tables_of c.args.tables.now) in
    subst (λ (list : List Json). IfOk c.dictionaries_json.result (λ shown. shown ≡ list))
    (ap (map (package_dictionary (people_for viewer) summaries))
    (c.as_slice.ensures.value ∙ c.in_ok-page.ensures.page datasets c.requires.found)
    ∙ packages_view (people_for viewer) (datasets_for viewer) summaries (page search datasets)
    (page_is_seen search (datasets_for viewer)))
    c.dictionaries_json.ensures

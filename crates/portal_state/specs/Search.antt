-- The answer to a package_search (CKAN 2.10): a function of the body and of its caller's view. What is counted are datasets
-- that the caller sees, since there are no others in the view.
use Rattle.std.specs.Prelude.{pos, List, [], ◌∷◌, codes, length, map, Result, Ok, Err}
use Rattle.portal_base.specs.KeyErrors.{KeyError}
use Rattle.portal_base.specs.declared.json_value.Json.{Json}
use Rattle.portal_base.specs.declared.json_value.Json as json
use Rattle.org_roles.specs.PeopleLists.{PeopleLists}
use Rattle.packages.specs.declared.package.Package.{Package}
use Rattle.visibility.specs.CallView.{CallView}
use Rattle.visibility.specs.TableSummary.{TableSummary}
use Rattle.portal_calls.specs.Answer.{answer_if_found, denial_of, unless_denied}
use Rattle.portal_calls.specs.declared.answer.Answer.{Answer}
use Rattle.portal_calls.specs.declared.answer.Answer.TheVariants.{Shown}
use Rattle.portal_calls.specs.declared.answer.Denial.{Denial}
use Rattle.portal_events.specs.Reply.{refusal_of}
use Rattle.portal_events.specs.declared.event.Reply.{Reply}
use Rattle.portal_events.specs.declared.event.Reply.TheVariants as reply
use Rattle.datastore_answers.specs.Summaries.{summaries_of}
use Rattle.dataset_answers.specs.Dictionary.{package_dictionary}
use Rattle.dataset_search.specs.Found.{found, page}
use Rattle.dataset_search.specs.Search.{search_in, with_search_errors}
use Rattle.dataset_search.specs.declared.search.Search.{Search}
use Rattle.facets.specs.Request.{facet_request, with_facet_errors}
use Rattle.facets.specs.SearchFacets.{search_facets}
use Rattle.facets.specs.declared.request.FacetRequest.{FacetRequest}
use Rattle.portal_state.specs.Planned.{PlannedChange}
use Rattle.portal_state.specs.State.{State}

-- the dictionary of datasets that were found: their count, the page of them, and their facets
abbrev pub found_dictionary : PeopleLists → List TableSummary → Search → FacetRequest → List Package → Json
found_dictionary people summaries search request datasets = json.Map (
    (codes "count", json.Whole (pos (length datasets)))
    ∷ (codes "results", json.List (map (package_dictionary people summaries) (page search datasets)))
    ∷ (codes "search_facets", search_facets people.orgs request datasets)
    ∷ [])

-- the errors of a body
abbrev pub body_errors : Json → List KeyError
body_errors body = with_facet_errors body (with_search_errors body [])

-- what a body finds among datasets, or the refusal of the body
abbrev pub search_outcome : Json → PeopleLists → List Package → List TableSummary → Result Json Denial
search_outcome body people datasets summaries =
    unless_denied (denial_of (body_errors body))
    (found_dictionary people summaries (search_in body) (facet_request body) (found (search_in body) datasets))

-- the reply that shows what was found, or is the refusal
abbrev pub reply_if_found : Result Json Denial → Reply
reply_if_found (Ok json) = reply.Shown json
reply_if_found (Err denial) = reply.Refused (refusal_of denial)

abbrev pub answer_to_search : CallView → List TableSummary → Answer PlannedChange
answer_to_search view summaries =
    answer_if_found (search_outcome view.call.request.body view.people view.datasets summaries) Shown

-- the reply to a search with this body by whoever has the view
abbrev pub search_reply : Json → State → Reply
search_reply body view =
    reply_if_found (search_outcome body view.people view.datasets (summaries_of view.tables))

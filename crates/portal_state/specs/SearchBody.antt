-- The search that the body of a `datastore_search` asks for (CKAN 2.10), and the body's errors. Limits and messages are
-- the portal's own.
use Rattle.std.specs.Prelude.{ℕ, min, true, false, List, [], codes}
use Rattle.portal_base.specs.KeyErrors.{KeyError, kind_message, error_if}
use Rattle.portal_base.specs.Kinds.{count_at, dictionary_at, text_at, texts_at, truth_at}
use Rattle.portal_base.specs.declared.json_value.Json.{Json}
use Rattle.portal_calls.specs.BodyValues.{count_or, dictionary_or_empty, text_or, texts_or_none, truth_or}
use Rattle.datastore_query.specs.declared.parts.Parts.{Parts}
use Rattle.portal_state.specs.declared.search_body.Search.{Search}

-- ---- a search

-- A page has 100 rows by default, and 32,000 at most.
abbrev pub page_limit : Json → ℕ
page_limit body = min (count_or 100 (codes "limit") body) 32000

-- the parts of its query
abbrev pub parts_in : Json → Parts
parts_in body = record {
  filters = dictionary_or_empty (codes "filters") body;
  q = text_or [] (codes "q") body;
  distinct = truth_or false (codes "distinct") body;
  fields = texts_or_none (codes "fields") body;
  sort = text_or [] (codes "sort") body;
  limit = page_limit body;
  offset = count_or 0 (codes "offset") body;
}

-- By default the reply has the count of rows on all pages.
abbrev pub search_in : Json → Search
search_in body = record { parts = parts_in body; total = truth_or true (codes "include_total") body }

-- ---- errors

-- these faults, with the error of each key of the query that is of another kind
abbrev pub with_query_errors : Json → List KeyError → List KeyError
with_query_errors body faults =
    error_if (codes "offset") (kind_message (count_at (codes "offset") body))
    (error_if (codes "limit") (kind_message (count_at (codes "limit") body))
    (error_if (codes "sort") (kind_message (text_at (codes "sort") body))
    (error_if (codes "fields") (kind_message (texts_at (codes "fields") body))
    (error_if (codes "distinct") (kind_message (truth_at (codes "distinct") body))
    (error_if (codes "q") (kind_message (text_at (codes "q") body))
    (error_if (codes "filters") (kind_message (dictionary_at (codes "filters") body)) faults))))))

abbrev pub search_errors : Json → List KeyError
search_errors body =
    error_if (codes "include_total") (kind_message (truth_at (codes "include_total") body)) (with_query_errors body [])

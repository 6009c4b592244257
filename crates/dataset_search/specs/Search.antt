-- The search that the body of a `package_search` asks for (CKAN 2.10), and the body's errors. Limits and messages are
-- the portal's own.
use Rattle.std.specs.Prelude.{ℕ, min, false, List, [], codes, Option, Some, None, unwrap_or}
use Rattle.portal_base.specs.KeyErrors.{KeyError, error_if, kind_message}
use Rattle.portal_base.specs.Kinds.{count_at, text_at, truth_at}
use Rattle.portal_base.specs.declared.json_value.Json.{Json}
use Rattle.portal_calls.specs.BodyValues.{count_or, text_or, truth_or}
use Rattle.sorted_pages.specs.declared.page.PageBounds.{PageBounds}
use Rattle.dataset_search.specs.Sort.{default_sort, sort_reading}
use Rattle.dataset_search.specs.declared.search.Search.{Search}
use Rattle.dataset_search.specs.declared.sort.SortKey.{SortKey}

-- ---- the sort

abbrev pub sort_text : Json → List ℕ
sort_text body = text_or [] (codes "sort") body

-- the keys of the sort; one that can't be read counts as the default
abbrev pub sort_in : Json → List SortKey
sort_in body = unwrap_or (sort_reading (sort_text body)) default_sort

abbrev pub unreadable_message : Option (List SortKey) → Option (List ℕ)
unreadable_message None = Some (codes "Sort is not readable")
unreadable_message (Some keys) = None

-- ---- a search

-- A page has 10 datasets by default, and 1,000 at most.
abbrev pub page_in : Json → PageBounds
page_in body = record { offset = count_or 0 (codes "start") body; limit = min (count_or 10 (codes "rows") body) 1000 }

-- By default it takes all that its caller sees but private datasets and drafts: `*:*` asks for nothing.
abbrev pub search_in : Json → Search
search_in body = record {
  q = text_or (codes "*:*") (codes "q") body;
  fq = text_or [] (codes "fq") body;
  page = page_in body;
  sort = sort_in body;
  include_private = truth_or false (codes "include_private") body;
  include_drafts = truth_or false (codes "include_drafts") body;
}

-- ---- errors

-- these errors, with those of the texts that a search matches
abbrev pub with_text_errors : Json → List KeyError → List KeyError
with_text_errors body faults =
    error_if (codes "fq") (kind_message (text_at (codes "fq") body))
    (error_if (codes "q") (kind_message (text_at (codes "q") body)) faults)

-- these errors, with those of the page's bounds
abbrev pub with_page_errors : Json → List KeyError → List KeyError
with_page_errors body faults =
    error_if (codes "rows") (kind_message (count_at (codes "rows") body))
    (error_if (codes "start") (kind_message (count_at (codes "start") body)) faults)

-- these errors, with that of a sort that is no text or can't be read
abbrev pub with_sort_error : Json → List KeyError → List KeyError
with_sort_error body faults =
    error_if (codes "sort") (unreadable_message (sort_reading (sort_text body)))
    (error_if (codes "sort") (kind_message (text_at (codes "sort") body)) faults)

abbrev pub with_flag_errors : Json → List KeyError → List KeyError
with_flag_errors body faults =
    error_if (codes "include_drafts") (kind_message (truth_at (codes "include_drafts") body))
    (error_if (codes "include_private") (kind_message (truth_at (codes "include_private") body)) faults)

-- these errors, with that of each key of the search that breaks a rule
abbrev pub with_search_errors : Json → List KeyError → List KeyError
with_search_errors body faults = with_flag_errors body (with_sort_error body (with_page_errors body (with_text_errors body faults)))

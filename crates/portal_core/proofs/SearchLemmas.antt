-- What a search finds: its count, its page, and the dictionary of both.
use Rattle.std.proofs.Common.{◌≡◌, ◌∙◌, ℕ, zero, suc, List, [], ◌∷◌, Option, Some, None, IsPermutation, IsSome}
use Rattle.std.proofs.Common.{arith, codes, drop, inl, inr, length, map, refl, sym, take}
use Rattle.std.specs.Prelude.{pos}
use Rattle.std.specs.List.{cons_option}
use Rattle.std.proofs.lemmas.List.Sorted.{length_permutation}
use Rattle.portal_base.specs.declared.json_value.Json.{Json}
use Rattle.portal_base.specs.declared.json_value.Json as json
use Rattle.org_roles.specs.PeopleLists.{PeopleLists}
use Rattle.packages.specs.Shelf.{ShelfState, datasets_at, package_at}
use Rattle.visibility.specs.TableSummary.{TableSummary}
use Rattle.dataset_answers.specs.Dictionary.{package_dictionary}
use Rattle.facets.specs.SearchFacets.{search_facets}
use Rattle.facets.specs.declared.request.FacetRequest.{FacetRequest}
use Rattle.portal_state.specs.Search.{found_dictionary}
use Rattle.std.specs.List.{All, Contains}
use Rattle.portal_base.specs.Ordered.{ascending}
use Rattle.portal_base.proofs.Filtered.{IsIn-filter}
use Rattle.portal_base.proofs.Unique.{IsIn, Contains-IsIn, ascending-IsIn}
use Rattle.portal_base.proofs.Upserted.{All-each}
use Rattle.packages.specs.declared.package.Package.{Package}
use Rattle.dataset_search.specs.Found.{found, is_found, page}
use Rattle.dataset_search.specs.Order.{search_cmp}
use Rattle.dataset_search.specs.declared.search.Search.{Search}

-- ---- the page

in_take : {X : Type 0} (n : ℕ) (z : X) (xs : List X) → IsIn z (take n xs) → IsIn z xs
in_take zero z [] m = absurd m
in_take zero z (x ∷ xs) m = absurd m
in_take (suc n) z [] m = absurd m
in_take (suc n) z (x ∷ xs) (inl e) = inl e
in_take (suc n) z (x ∷ xs) (inr m) = inr (in_take n z xs m)

in_drop : {X : Type 0} (n : ℕ) (z : X) (xs : List X) → IsIn z (drop n xs) → IsIn z xs
in_drop zero z [] m = m
in_drop zero z (x ∷ xs) m = m
in_drop (suc n) z [] m = m
in_drop (suc n) z (x ∷ xs) m = inr (in_drop n z xs m)

-- The datasets on the page are among those that are searched.
pub page_is_seen : (search : Search) (datasets : List Package)
    → All (Contains datasets) (page search (found search datasets))
page_is_seen search datasets = All-each (Contains datasets) (page search (found search datasets))
    (λ d m. let sorted : List Package = ascending (search_cmp search.sort) (found search datasets) in
    Contains-IsIn d datasets (IsIn-filter (is_found search) d datasets
    (ascending-IsIn (search_cmp search.sort) d (found search datasets)
    (in_drop search.page.offset d sorted (in_take search.page.limit d (drop search.page.offset sorted) m)))).0)

-- ---- the count

at_each : (shelf : ShelfState) (numbers : List ℕ) → All (λ n. IsSome (package_at n shelf)) numbers
    → length (datasets_at shelf numbers) ≡ length numbers
at_each shelf [] all = refl
at_each shelf (n ∷ ns) all =
    by (package_at n shelf) (all 0 n (omega arith)) (at_each shelf ns (λ k d lt. all (suc k) d (omega (lt, arith))))
  where
    by : (o : Option Package) → IsSome o → length (datasets_at shelf ns) ≡ length ns
        → length (cons_option o (datasets_at shelf ns)) ≡ length (n ∷ ns)
    by None none rest = absurd (cc (none))
    by (Some d) some rest = omega (rest, arith)

-- There are as many numbers as datasets that are found.
pub count_of_found : (shelf : ShelfState) (numbers : List ℕ) (datasets : List Package)
    → All (λ n. IsSome (package_at n shelf)) numbers → IsPermutation (datasets_at shelf numbers) datasets
    → length numbers ≡ length datasets
count_of_found shelf numbers datasets all same =
    sym (at_each shelf numbers all) ∙ sym (length_permutation (datasets_at shelf numbers) datasets same)

-- ---- the dictionary

pub made_of_found : (people : PeopleLists) (summaries : List TableSummary) (search : Search) (request : FacetRequest)
    (datasets : List Package) (count : ℕ) (results : List Json) (facets : Json) → count ≡ length datasets
    → results ≡ map (package_dictionary people summaries) (page search datasets)
    → facets ≡ search_facets people.orgs request datasets
    → json.Map ((codes "count", json.Whole (pos count)) ∷ (codes "results", json.List results)
    ∷ (codes "search_facets", facets) ∷ [])
    ≡ found_dictionary people summaries search request datasets
made_of_found people summaries search request datasets count results facets counted listed faceted =
    rw (counted, listed, faceted) refl

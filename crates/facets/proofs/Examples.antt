-- Facets of a few datasets: their formats, tags, organizations and licenses, what counters count of them, and what a search
-- shows of them.
use Rattle.std.proofs.Common.{◌≡◌, ℕ, true, false, List, [], ◌∷◌, Option, None, Some, refl, rules}
use Rattle.std.specs.Prelude.{codes, map, negsuc, pos}
use Rattle.portal_base.specs.KeyErrors.{has_error}
use Rattle.portal_base.specs.declared.json_value.Json.{Json, the_lemmas}
use Rattle.portal_base.specs.declared.json_value.Json as json
use Rattle.org_roles.specs.declared.entry.Org.{Org}
use Rattle.packages.specs.Package.{fresh_package}
use Rattle.packages.specs.declared.package.Package.{Package}
use Rattle.packages.specs.declared.package.Resource.{Resource}
use Rattle.visibility.specs.declared.class.Class.TheVariants.{Inside, Public}
use Rattle.facets.specs.Counters.{CountersState, class_count, class_counts, entry_of}
use Rattle.facets.specs.Facets.{count_of, facet_counts}
use Rattle.facets.specs.Items.{items_shown}
use Rattle.facets.specs.Request.{facet_request, with_facet_errors}
use Rattle.facets.specs.SearchFacets.{search_facets}
use Rattle.facets.specs.declared.request.FacetRequest.{FacetRequest}
use Rattle.facets.specs.declared.field.FacetField.TheVariants.{LicenseId, Organization, ResFormat, Tags}

-- a resource in a format
abbrev in_format : List ℕ → Resource
in_format format =
    record { number = 1; name = []; url = []; format = format; description = []; mimetype = [] }

-- a dataset of an organization with these tags and formats, without a license
abbrev dataset : List ℕ → List ℕ → List (List ℕ) → List (List ℕ) → Package
dataset id org tags formats =
    record (fresh_package id id [] org [] (pos 0)) { tags = tags; resources = map in_format formats }

-- Its second resource repeats the format, and its third has none.
abbrev trees : Package
trees =
    dataset (codes "trees") (codes "city") (codes "green" ∷ codes "map" ∷ [])
    (codes "CSV" ∷ codes "CSV" ∷ [] ∷ [])

abbrev lakes : Package
lakes =
    record (dataset (codes "lakes") (codes "land") (codes "map" ∷ []) (codes "CSV" ∷ codes "JSON" ∷ [])) {
      license_id = codes "cc-by";
    }

abbrev some_datasets : List Package
some_datasets = trees ∷ lakes ∷ []

-- A repeated format counts once, and an empty one counts for nothing.
formats : facet_counts ResFormat some_datasets ≡ (codes "CSV", 2) ∷ (codes "JSON", 1) ∷ []
formats = refl

-- The higher count comes first.
tags : facet_counts Tags some_datasets ≡ (codes "map", 2) ∷ (codes "green", 1) ∷ []
tags = refl

-- Equal counts are ordered by value.
organizations : facet_counts Organization (lakes ∷ trees ∷ []) ≡ (codes "city", 1) ∷ (codes "land", 1) ∷ []
organizations = refl

licenses : facet_counts LicenseId some_datasets ≡ (codes "cc-by", 1) ∷ []
licenses = refl

empty_value : count_of ResFormat [] some_datasets ≡ 0
empty_value = refl

-- counters with both, of which only `trees` is public
abbrev counters : CountersState
counters =
    record { entries = map entry_of (record lakes { private = true } ∷ trees ∷ []); room = [] }

counted_in_class : class_count Public ResFormat (codes "CSV") counters ≡ 1
counted_in_class = refl

tallied_in_classes : class_counts (Inside (codes "land") ∷ Public ∷ []) ResFormat counters
    ≡ (codes "CSV", 2) ∷ (codes "JSON", 1) ∷ []
tallied_in_classes = refl

-- The limit counts what the minimum leaves.
shown : items_shown 2 (Some 2) ((codes "a", 5) ∷ (codes "b", 3) ∷ (codes "c", 2) ∷ (codes "d", 1) ∷ [])
    ≡ (codes "a", 5) ∷ (codes "b", 3) ∷ []
shown = refl

-- ---- what a search asks for

abbrev asked : List (List ℕ) → ℕ → Option ℕ → FacetRequest
asked fields mincount limit = record { fields = fields; mincount = mincount; limit = limit }

asked_by_default : facet_request (json.Map []) ≡ asked [] 1 (Some 50)
asked_by_default = search (rules, the_lemmas)

-- A field that is named twice is asked for once.
fields_asked : (facet_request (json.Map ((codes "facet.field", json.Text (codes "tags,color,tags")) ∷ []))).fields
    ≡ codes "color" ∷ codes "tags" ∷ []
fields_asked = search (rules, the_lemmas)

not_shown : (facet_request (json.Map (
    (codes "facet", json.Truth false) ∷ (codes "facet.field", json.Text (codes "tags")) ∷ []))).fields ≡ []
not_shown = search (rules, the_lemmas)

-- A negative limit is none.
unlimited : (facet_request (json.Map ((codes "facet.limit", json.Whole (negsuc 0)) ∷ []))).limit ≡ None
unlimited = search (rules, the_lemmas)

-- A negative minimum is an error.
faulty : has_error (codes "facet.mincount")
    (with_facet_errors (json.Map ((codes "facet.mincount", json.Whole (negsuc 0)) ∷ [])) []) ≡ true
faulty = search (rules, the_lemmas)

-- ---- what a search shows

-- three datasets of one organization, with the tags aa, bb and cc, the tag bb, and the tag aa
abbrev three : List Package
three =
    dataset (codes "x1") (codes "city") (codes "aa" ∷ codes "bb" ∷ codes "cc" ∷ []) []
    ∷ dataset (codes "x2") (codes "city") (codes "bb" ∷ []) []
    ∷ dataset (codes "x3") (codes "city") (codes "aa" ∷ []) []
    ∷ []

-- an organization whose title is empty
abbrev untitled : Org
untitled = record { name = codes "city"; title = []; description = []; created = pos 0 }

abbrev item : ℕ → List ℕ → List ℕ → Json
item count display_name name = json.Map (
    (codes "count", json.Whole (pos count))
    ∷ (codes "display_name", json.Text display_name)
    ∷ (codes "name", json.Text name)
    ∷ [])

-- a field with these items
abbrev shows : List ℕ → List Json → List ℕ × Json
shows name items = (name, json.Map ((codes "items", json.List items) ∷ (codes "title", json.Text name) ∷ []))

tags_shown : search_facets [] (asked (codes "tags" ∷ []) 1 (Some 50)) three
    ≡ json.Map (shows (codes "tags") (
    item 2 (codes "aa") (codes "aa")
    ∷ item 2 (codes "bb") (codes "bb")
    ∷ item 1 (codes "cc") (codes "cc")
    ∷ []) ∷ [])
tags_shown = refl

limited : search_facets [] (asked (codes "tags" ∷ []) 1 (Some 1)) three
    ≡ json.Map (shows (codes "tags") (item 2 (codes "aa") (codes "aa") ∷ []) ∷ [])
limited = refl

frequent : search_facets [] (asked (codes "tags" ∷ []) 2 None) three
    ≡ json.Map (shows (codes "tags") (
    item 2 (codes "aa") (codes "aa")
    ∷ item 2 (codes "bb") (codes "bb")
    ∷ []) ∷ [])
frequent = refl

-- A field whose values aren't counted has no items. The organization's title is shown, also if it is empty.
organizations_shown : search_facets (untitled ∷ []) (asked (codes "color" ∷ codes "organization" ∷ []) 1 (Some 50)) three
    ≡ json.Map (
    shows (codes "color") []
    ∷ shows (codes "organization") (item 3 [] (codes "city") ∷ [])
    ∷ [])
organizations_shown = refl

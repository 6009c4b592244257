-- The facets in the reply of a search (CKAN 2.10, package_search: `search_facets`).
use Rattle.std.specs.Prelude.{ℕ, pos, List, [], ◌∷◌, codes, filter, find, is_some, length, map, Option, Some, None}
use Rattle.std.specs.Str.{bytes_eq}
use Rattle.portal_base.specs.declared.json_value.Json.{Json}
use Rattle.portal_base.specs.declared.json_value.Json as json
use Rattle.org_roles.specs.declared.entry.Org.{Org}
use Rattle.packages.specs.declared.package.Package.{Package}
use Rattle.facets.specs.Counts.{Facet}
use Rattle.facets.specs.Facets.{facet_counts}
use Rattle.facets.specs.Items.{items_shown}
use Rattle.facets.specs.Request.{field_named}
use Rattle.facets.specs.declared.field.FacetField.{FacetField}
use Rattle.facets.specs.declared.field.FacetField.TheVariants.{LicenseId, Organization, ResFormat, Tags}
use Rattle.facets.specs.declared.request.FacetRequest.{FacetRequest}

-- an organization's title, which may be empty, or else this name
abbrev pub title_or : List ℕ → Option Org → List ℕ
title_or name None = name
title_or name (Some org) = org.title

-- what is displayed for a value: the title of the organization with this name; in other fields the value
abbrev pub display_name : List Org → FacetField → List ℕ → List ℕ
display_name orgs Organization value = title_or value (find (λ (org : Org). bytes_eq org.name value) orgs)
display_name orgs Tags value = value
display_name orgs ResFormat value = value
display_name orgs LicenseId value = value

-- the dictionary of a value and its count
abbrev pub item_dictionary : List Org → FacetField → Facet → Json
item_dictionary orgs field item = json.Map (
    (codes "count", json.Whole (pos item.1))
    ∷ (codes "display_name", json.Text (display_name orgs field item.0))
    ∷ (codes "name", json.Text item.0)
    ∷ [])

-- the dictionaries of a field's values; where no values are counted there are none
abbrev pub field_items : List Org → FacetRequest → List Package → Option FacetField → List Json
field_items orgs request datasets None = []
field_items orgs request datasets (Some field) =
    map (item_dictionary orgs field) (items_shown request.mincount request.limit (facet_counts field datasets))

-- the dictionary of a field, by the field's name
abbrev pub field_dictionary : List Org → FacetRequest → List Package → List ℕ → Json
field_dictionary orgs request datasets name = json.Map (
    (codes "items", json.List (field_items orgs request datasets (field_named name)))
    ∷ (codes "title", json.Text name)
    ∷ [])

-- the facets of the datasets: at each field that the request names, the field's dictionary
abbrev pub search_facets : List Org → FacetRequest → List Package → Json
search_facets orgs request datasets =
    json.Map (map (λ name. (name, field_dictionary orgs request datasets name)) request.fields)

-- ---- how often datasets are looked at

-- for a field: each of so many datasets once, if its values are counted
abbrev pub looks_for : ℕ → Option FacetField → ℕ
looks_for count None = 0
looks_for count (Some field) = count

-- how many of the names are those of fields whose values are counted
abbrev pub counted_names : List (List ℕ) → ℕ
counted_names names = length (filter (λ name. is_some (field_named name)) names)

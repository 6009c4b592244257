-- What a search's body asks for of facets (CKAN 2.10, package_search), and its errors.
use Rattle.std.specs.Prelude.{ℕ, ℤ, pos, negsuc, ◌-◌, ◌^◌, min, Bool, true, false, if◌then◌else◌, List, []}
use Rattle.std.specs.Prelude.{codes, Option, Some, None}
use Rattle.std.specs.Str.{bytes_eq}
use Rattle.portal_base.specs.KeyErrors.{KeyError, error_if, kind_message}
use Rattle.portal_base.specs.Kinds.{count_at, texts_at, truth_at, whole_at}
use Rattle.portal_base.specs.declared.json_value.Json.{Json}
use Rattle.packages.specs.Tags.{text_set}
use Rattle.portal_calls.specs.BodyValues.{count_or, texts_or_none, truth_or, whole_or}
use Rattle.facets.specs.declared.field.FacetField.{FacetField}
use Rattle.facets.specs.declared.field.FacetField.TheVariants.{LicenseId, Organization, ResFormat, Tags}
use Rattle.facets.specs.declared.request.FacetRequest.{FacetRequest}

-- the field with that name whose values are counted
abbrev pub field_named : List ℕ → Option FacetField
field_named name =
    if bytes_eq name (codes "organization") then Some Organization
    else if bytes_eq name (codes "tags") then Some Tags
    else if bytes_eq name (codes "res_format") then Some ResFormat
    else if bytes_eq name (codes "license_id") then Some LicenseId
    else None

-- the set of the names, if there are any and facets are shown
abbrev pub fields_shown : Bool → Option (List (List ℕ)) → List (List ℕ)
fields_shown true (Some names) = text_set names
fields_shown true None = []
fields_shown false names = []

-- A negative number is no limit. One beyond the last of a u64 counts as that.
abbrev pub limit_of : ℤ → Option ℕ
limit_of (pos n) = Some (min n (2 ^ 64 - 1))
limit_of (negsuc n) = None

-- Facets are shown by default, but of no field. They have at least 1 dataset each, and are at most 50.
abbrev pub facet_request : Json → FacetRequest
facet_request body = record {
  fields = fields_shown (truth_or true (codes "facet") body) (texts_or_none (codes "facet.field") body);
  mincount = count_or 1 (codes "facet.mincount") body;
  limit = limit_of (whole_or (pos 50) (codes "facet.limit") body);
}

-- these faults, with the error of each of these keys whose value is of another kind
abbrev pub with_facet_errors : Json → List KeyError → List KeyError
with_facet_errors body faults =
    error_if (codes "facet.limit") (kind_message (whole_at (codes "facet.limit") body))
    (error_if (codes "facet.mincount") (kind_message (count_at (codes "facet.mincount") body))
    (error_if (codes "facet.field") (kind_message (texts_at (codes "facet.field") body))
    (error_if (codes "facet") (kind_message (truth_at (codes "facet") body)) faults)))

-- The facets of datasets (CKAN 2.10, package_search): the values of a field, and how many datasets have each.
use Rattle.std.specs.Prelude.{ℕ, Bool, List, [], ◌∷◌, map}
use Rattle.std.specs.List.{filter_map}
use Rattle.packages.specs.Shelf.{ShelfState, package_at}
use Rattle.packages.specs.declared.package.Package.{Package}
use Rattle.facets.specs.Counts.{Facet, counts_by, count_with, has_text, values_among}
use Rattle.facets.specs.declared.field.FacetField.{FacetField}
use Rattle.facets.specs.declared.field.FacetField.TheVariants.{LicenseId, Organization, ResFormat, Tags}

-- the texts of a dataset in a field: its organization, its tags, the formats of its resources, or its license
abbrev pub texts_in : FacetField → Package → List (List ℕ)
texts_in Organization dataset = dataset.owner_org ∷ []
texts_in Tags dataset = dataset.tags
texts_in ResFormat dataset = map (λ resource. resource.format) dataset.resources
texts_in LicenseId dataset = dataset.license_id ∷ []

-- whether the dataset has the value, which isn't empty
abbrev pub has_value : FacetField → List ℕ → Package → Bool
has_value field value dataset = has_text (texts_in field) value dataset

-- how many of the datasets have the value
abbrev pub count_of : FacetField → List ℕ → List Package → ℕ
count_of field value datasets = count_with (texts_in field) value datasets

-- the set of the datasets' values
abbrev pub values_of : FacetField → List Package → List (List ℕ)
values_of field datasets = values_among (texts_in field) datasets

-- Each value with the count of datasets that have it. Higher counts come first, and equal counts by value.
abbrev pub facet_counts : FacetField → List Package → List Facet
facet_counts field datasets = counts_by (texts_in field) datasets

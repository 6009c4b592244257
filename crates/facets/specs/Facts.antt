-- The facts of a dataset that facets read.
use Rattle.std.specs.Prelude.{ℕ, Bool, true, false, List, [], ◌∷◌}
use Rattle.std.specs.List.{list_any}
use Rattle.std.specs.Str.{bytes_eq}
use Rattle.packages.specs.declared.package.Package.{Package}
use Rattle.visibility.specs.Visibility.{class_for}
use Rattle.visibility.specs.declared.class.Class.{Class}
use Rattle.visibility.specs.declared.class.Class.TheVariants.{Editing, Inside, Public}
use Rattle.facets.specs.Facets.{texts_in}
use Rattle.facets.specs.declared.facts.Facts.{Facts}
use Rattle.facets.specs.declared.field.FacetField.{FacetField}
use Rattle.facets.specs.declared.field.FacetField.TheVariants.{LicenseId, Organization, ResFormat, Tags}

-- the facts of a dataset: its class, and its texts in each field
abbrev pub facts_of : Package → Facts
facts_of dataset = record {
  class = class_for dataset;
  organization = dataset.owner_org;
  tags = dataset.tags;
  formats = texts_in ResFormat dataset;
  license_id = dataset.license_id;
}

-- the texts of facts in a field
abbrev pub texts_at : FacetField → Facts → List (List ℕ)
texts_at Organization facts = facts.organization ∷ []
texts_at Tags facts = facts.tags
texts_at ResFormat facts = facts.formats
texts_at LicenseId facts = facts.license_id ∷ []

-- whether two classes are equal
abbrev pub same_class : Class → Class → Bool
same_class Public Public = true
same_class Public (Inside other) = false
same_class Public (Editing other) = false
same_class (Inside org) Public = false
same_class (Inside org) (Inside other) = bytes_eq org other
same_class (Inside org) (Editing other) = false
same_class (Editing org) Public = false
same_class (Editing org) (Inside other) = false
same_class (Editing org) (Editing other) = bytes_eq org other

-- whether the class is one of these
abbrev pub is_one_of : List Class → Class → Bool
is_one_of classes class = list_any (same_class class) classes

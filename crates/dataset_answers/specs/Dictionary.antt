-- The dictionaries of replies, with keys that ascend by bytes. The keys are those of CKAN 2.10.
use Rattle.std.specs.Prelude.{ℕ, ◌+◌, pos, List, [], ◌∷◌, ◌++◌, map, length, codes, option_map, unwrap_or}
use Rattle.portal_base.specs.MomentText.{moment_text}
use Rattle.portal_base.specs.declared.json_value.Json.{Json}
use Rattle.portal_base.specs.declared.json_value.Json as json
use Rattle.org_roles.specs.PeopleLists.{PeopleLists, org_in}
use Rattle.packages.specs.Named.{resource_address}
use Rattle.packages.specs.State.{state_name}
use Rattle.packages.specs.declared.package.Package.{Package}
use Rattle.packages.specs.declared.package.Resource.{Resource}
use Rattle.visibility.specs.TableSummary.{TableSummary, has_table}

-- the title of the organization with that name, or the empty text
abbrev pub organization_title : PeopleLists → List ℕ → List ℕ
organization_title people name = unwrap_or (option_map (λ org. org.title) (org_in people name)) []

-- an organization in the dictionary of a dataset
abbrev pub organization_dictionary : PeopleLists → List ℕ → Json
organization_dictionary people name = json.Map (
    (codes "id", json.Text name)
    ∷ (codes "name", json.Text name)
    ∷ (codes "title", json.Text (organization_title people name))
    ∷ [])

abbrev pub tag_dictionary : List ℕ → Json
tag_dictionary tag = json.Map ((codes "display_name", json.Text tag) ∷ (codes "name", json.Text tag) ∷ [])

-- a resource at its position in the dataset with that id, and whether it has a table
abbrev pub resource_dictionary : List TableSummary → List ℕ → ℕ → Resource → Json
resource_dictionary summaries dataset position resource = json.Map (
    (codes "datastore_active", json.Truth (has_table summaries dataset resource.number))
    ∷ (codes "description", json.Text resource.description)
    ∷ (codes "format", json.Text resource.format)
    ∷ (codes "id", json.Text (resource_address dataset resource.number))
    ∷ (codes "mimetype", json.Text resource.mimetype)
    ∷ (codes "name", json.Text resource.name)
    ∷ (codes "package_id", json.Text dataset)
    ∷ (codes "position", json.Whole (pos position))
    ∷ (codes "url", json.Text resource.url)
    ∷ [])

-- the resources from that position on
abbrev pub resource_dictionaries : List TableSummary → List ℕ → ℕ → List Resource → List Json
resource_dictionaries summaries dataset position [] = []
resource_dictionaries summaries dataset position (r ∷ rs) =
    resource_dictionary summaries dataset position r ∷ resource_dictionaries summaries dataset (position + 1) rs

-- the members of a dataset's dictionary from `author` to `notes`
abbrev pub members_to_notes : Package → List (List ℕ × Json)
members_to_notes dataset =
    (codes "author", json.Text dataset.author)
    ∷ (codes "creator_user_id", json.Text dataset.creator)
    ∷ (codes "id", json.Text dataset.id)
    ∷ (codes "license_id", json.Text dataset.license_id)
    ∷ (codes "maintainer", json.Text dataset.maintainer)
    ∷ (codes "metadata_created", json.Text (moment_text dataset.created))
    ∷ (codes "metadata_modified", json.Text (moment_text dataset.modified))
    ∷ (codes "name", json.Text dataset.name)
    ∷ (codes "notes", json.Text dataset.notes)
    ∷ []

-- the members from `num_resources` to `private`, with this dictionary of the organization
abbrev pub members_to_private : Package → Json → List (List ℕ × Json)
members_to_private dataset organization =
    (codes "num_resources", json.Whole (pos (length dataset.resources)))
    ∷ (codes "num_tags", json.Whole (pos (length dataset.tags)))
    ∷ (codes "organization", organization)
    ∷ (codes "owner_org", json.Text dataset.owner_org)
    ∷ (codes "private", json.Truth dataset.private)
    ∷ []

-- the members from `resources` to `version`, with these dictionaries of the resources and of the tags
abbrev pub members_to_version : Package → List Json → List Json → List (List ℕ × Json)
members_to_version dataset resources tags =
    (codes "resources", json.List resources)
    ∷ (codes "state", json.Text (state_name dataset.state))
    ∷ (codes "tags", json.List tags)
    ∷ (codes "title", json.Text dataset.title)
    ∷ (codes "type", json.Text (codes "dataset"))
    ∷ (codes "url", json.Text dataset.url)
    ∷ (codes "version", json.Text dataset.version)
    ∷ []

-- a dataset, given the dictionaries of its organization, its resources and its tags
abbrev pub dictionary_with : Package → Json → List Json → List Json → Json
dictionary_with dataset organization resources tags =
    json.Map (members_to_notes dataset
    ++ (members_to_private dataset organization ++ members_to_version dataset resources tags))

-- a dataset, given the tables
abbrev pub package_dictionary : PeopleLists → List TableSummary → Package → Json
package_dictionary people summaries dataset =
    dictionary_with dataset (organization_dictionary people dataset.owner_org)
    (resource_dictionaries summaries dataset.id 0 dataset.resources) (map tag_dictionary dataset.tags)

-- The rows of datasets in a store. The key of a dataset's row is the dataset's id, and its body is a JSON text
-- (RFC 8259) without white space.
use Rattle.std.specs.Prelude.{◌≡◌, ◌<◌, ◌^◌, ℕ, pos, List, [], ◌∷◌, ◌++◌, map, codes, All}
use Rattle.portal_base.specs.Json.{json_text}
use Rattle.portal_base.specs.Moment.{IsMoment}
use Rattle.portal_base.specs.MomentText.{moment_text}
use Rattle.portal_base.specs.declared.json_value.Json.{Json}
use Rattle.portal_base.specs.declared.json_value.Json as json
use Rattle.packages.specs.State.{state_name}
use Rattle.packages.specs.declared.package.Package.{Package}
use Rattle.packages.specs.declared.package.Resource.{Resource}

-- ---- the JSON value of a dataset, with keys that ascend by bytes

-- the members of a resource's value
abbrev pub resource_members : Resource → List (List ℕ × Json)
resource_members resource =
    (codes "description", json.Text resource.description)
    ∷ (codes "format", json.Text resource.format)
    ∷ (codes "mimetype", json.Text resource.mimetype)
    ∷ (codes "name", json.Text resource.name)
    ∷ (codes "number", json.Whole (pos resource.number))
    ∷ (codes "url", json.Text resource.url)
    ∷ []

-- the value of a resource
abbrev pub resource_json : Resource → Json
resource_json resource = json.Map (resource_members resource)

-- the members from `author` to `name`
abbrev pub members_to_name : Package → List (List ℕ × Json)
members_to_name dataset =
    (codes "author", json.Text dataset.author)
    ∷ (codes "created", json.Text (moment_text dataset.created))
    ∷ (codes "creator", json.Text dataset.creator)
    ∷ (codes "iri", json.Text dataset.iri)
    ∷ (codes "license_id", json.Text dataset.license_id)
    ∷ (codes "maintainer", json.Text dataset.maintainer)
    ∷ (codes "modified", json.Text (moment_text dataset.modified))
    ∷ (codes "name", json.Text dataset.name)
    ∷ []

-- the members from `next_resource` to `source`, with these values of the resources
abbrev pub members_to_source : Package → List Json → List (List ℕ × Json)
members_to_source dataset resources =
    (codes "next_resource", json.Whole (pos dataset.next_resource))
    ∷ (codes "notes", json.Text dataset.notes)
    ∷ (codes "owner_org", json.Text dataset.owner_org)
    ∷ (codes "private", json.Truth dataset.private)
    ∷ (codes "resources", json.List resources)
    ∷ (codes "source", json.Text dataset.source)
    ∷ []

-- the members from `state` to `version`, with these values of the tags
abbrev pub members_to_version : Package → List Json → List (List ℕ × Json)
members_to_version dataset tags =
    (codes "state", json.Text (state_name dataset.state))
    ∷ (codes "tags", json.List tags)
    ∷ (codes "title", json.Text dataset.title)
    ∷ (codes "url", json.Text dataset.url)
    ∷ (codes "version", json.Text dataset.version)
    ∷ []

-- the members, with these values of the resources and of the tags
abbrev pub members_with : Package → List Json → List Json → List (List ℕ × Json)
members_with dataset resources tags =
    members_to_name dataset ++ (members_to_source dataset resources ++ members_to_version dataset tags)

-- the members of a dataset's value
abbrev pub members_of : Package → List (List ℕ × Json)
members_of dataset = members_with dataset (map resource_json dataset.resources) (map json.Text dataset.tags)

-- The value of a dataset. Moments and the state have their texts, and a tag is a text. The id isn't a member.
abbrev pub row_json : Package → Json
row_json dataset = json.Map (members_of dataset)

-- ---- the row

-- the body of a dataset's row
unfoldable pub row_text : Package → List ℕ
row_text dataset = json_text (row_json dataset)

-- Each field has a value of its type: a number is a `u32`, and a moment is one of the years 0000 to 9999. A text may be
-- any list of bytes.
pub record IsWellTyped (dataset : Package) : Type 0 where
  pub next_resource : dataset.next_resource < 2 ^ 32
  pub numbers : All (λ resource. resource.number < 2 ^ 32) dataset.resources
  pub created : IsMoment dataset.created
  pub modified : IsMoment dataset.modified

-- The dataset has this id, and this text is the body of its row.
pub record HasRow (id body : List ℕ) (dataset : Package) : Type 0 where
  pub typed : IsWellTyped dataset
  pub named : dataset.id ≡ id
  pub written : row_text dataset ≡ body

-- The dictionaries of organizations, roles and users, with keys that ascend by bytes.
use Rattle.std.specs.Prelude.{◌≡◌, ℕ, pos, List, [], ◌∷◌, codes}
use Rattle.portal_base.specs.MomentText.{moment_text}
use Rattle.portal_base.specs.declared.json_value.Json.{Json}
use Rattle.portal_base.specs.declared.json_value.Json as json
use Rattle.org_roles.specs.declared.entry.Membership.{Membership}
use Rattle.org_roles.specs.declared.entry.Org.{Org}
use Rattle.org_roles.specs.declared.role.Role.{Role}
use Rattle.org_roles.specs.declared.role.Role.TheVariants.{Member, Editor, Admin}
use Rattle.packages.specs.declared.package.Package.{Package}
use Rattle.visibility.specs.View.{public_count}

-- an organization with this count of public datasets
abbrev pub counted_dictionary : ℕ → Org → Json
counted_dictionary count org = json.Map (
    (codes "created", json.Text (moment_text org.created))
    ∷ (codes "description", json.Text org.description)
    ∷ (codes "id", json.Text org.name)
    ∷ (codes "name", json.Text org.name)
    ∷ (codes "package_count", json.Whole (pos count))
    ∷ (codes "title", json.Text org.title)
    ∷ (codes "type", json.Text (codes "organization"))
    ∷ [])

-- an organization, with the count of its public datasets among these
abbrev pub organization_dictionary : List Package → Org → Json
organization_dictionary datasets org = counted_dictionary (public_count org.name datasets) org

-- the counts are those of the public datasets among these
abbrev pub AreCountsOf : List Package → (List ℕ → ℕ) → Type 0
AreCountsOf datasets counts = (org : List ℕ) → counts org ≡ public_count org datasets

abbrev pub role_name : Role → List ℕ
role_name Member = codes "member"
role_name Editor = codes "editor"
role_name Admin = codes "admin"

-- an organization with the caller's capacity in it
abbrev pub capacity_dictionary : Org → Role → Json
capacity_dictionary org role = json.Map (
    (codes "capacity", json.Text (role_name role))
    ∷ (codes "id", json.Text org.name)
    ∷ (codes "name", json.Text org.name)
    ∷ (codes "title", json.Text org.title)
    ∷ [])

-- a user's capacity in an organization
abbrev pub member_dictionary : List ℕ → List ℕ → Role → Json
member_dictionary org user role = json.Map (
    (codes "capacity", json.Text (role_name role))
    ∷ (codes "id", json.Text org)
    ∷ (codes "username", json.Text user)
    ∷ [])

-- a member in the list of an organization's members
abbrev pub member_entry : Membership → Json
member_entry m = json.List (json.Text m.user ∷ json.Text (codes "user") ∷ json.Text (role_name m.role) ∷ [])

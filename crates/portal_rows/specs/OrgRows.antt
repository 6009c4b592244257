-- The rows of organizations. A row has an organization and the roles in it. Its body is a dictionary with keys that
-- ascend by bytes.
use Rattle.std.specs.Prelude.{◌≡◌, ℕ, List, [], ◌∷◌, codes, filter, map, All}
use Rattle.std.specs.Str.{bytes_eq}
use Rattle.org_roles.specs.Order.{membership_cmp}
use Rattle.org_roles.specs.PeopleLists.{PeopleLists}
use Rattle.org_roles.specs.declared.entry.Membership.{Membership}
use Rattle.org_roles.specs.declared.entry.Org.{Org}
use Rattle.org_roles.specs.declared.role.Role.{Role}
use Rattle.org_roles.specs.declared.role.Role.TheVariants.{Member, Editor, Admin}
use Rattle.portal_base.specs.Json.{json_text}
use Rattle.portal_base.specs.Moment.{IsMoment}
use Rattle.portal_base.specs.MomentText.{moment_text}
use Rattle.portal_base.specs.Ordered.{IsAscending}
use Rattle.portal_base.specs.declared.json_value.Json as json
use Rattle.portal_base.specs.declared.json_value.Json.{Json}
use Rattle.portal_keeper.specs.declared.row.KeptRow.{KeptRow}
use Rattle.portal_keeper.specs.declared.row.RowKind.TheVariants as kind
use Rattle.portal_rows.specs.JsonRow.{json_row}
use Rattle.portal_rows.specs.declared.org_reading.OrgWithRoles.{OrgWithRoles}

-- ---- a row

-- the text of a role
abbrev pub role_name : Role → List ℕ
role_name Member = codes "member"
role_name Editor = codes "editor"
role_name Admin = codes "admin"

-- a user, and the text of the user's role
abbrev pub role_member : Membership → List ℕ × Json
role_member m = (m.user, json.Text (role_name m.role))

-- The body. The roles are a dictionary from users to the texts of their roles.
abbrev pub org_value : Org → List Membership → Json
org_value org memberships = json.Map (
    (codes "created", json.Text (moment_text org.created))
    ∷ (codes "description", json.Text org.description)
    ∷ (codes "roles", json.Map (map role_member memberships))
    ∷ (codes "title", json.Text org.title)
    ∷ [])

-- the row of an organization that has these memberships
abbrev pub org_row : Org → List Membership → KeptRow
org_row org memberships = json_row kind.Org org.name (org_value org memberships)

-- ---- the rows of all organizations

-- of these memberships, those in the organization of that name
abbrev pub memberships_in : List ℕ → List Membership → List Membership
memberships_in name memberships = filter (λ m. bytes_eq m.org name) memberships

-- the rows of the organizations, in their order
abbrev pub org_rows : PeopleLists → List KeptRow
org_rows people = map (λ org. org_row org (memberships_in org.name people.roles)) people.orgs

-- ---- a row that is read

-- The memberships are all in the organization of that name, and ascend by their users.
pub record AreRolesIn (name : List ℕ) (memberships : List Membership) : Type 0 where
  pub own : All (λ m. m.org ≡ name) memberships
  pub ascending : IsAscending membership_cmp memberships

-- An organization with its own roles, which was created at a moment.
pub record IsOrgWithRoles (kept : OrgWithRoles) : Type 0 where
  pub created : IsMoment kept.org.created
  pub roles : AreRolesIn kept.org.name kept.roles

-- The row is that of the organization with these roles.
abbrev pub IsOrgRow : OrgWithRoles → KeptRow → Type 0
IsOrgRow kept row = IsOrgWithRoles kept × (row ≡ org_row kept.org kept.roles)

-- The body is that of the organization of that name, with these roles.
abbrev pub IsOrgBody : OrgWithRoles → List ℕ → List ℕ → Type 0
IsOrgBody kept name body =
    IsOrgWithRoles kept × (kept.org.name ≡ name) × (body ≡ json_text (org_value kept.org kept.roles))

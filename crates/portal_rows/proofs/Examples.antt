-- Worked examples: bodies and keys of rows, and what is no role.
use Rattle.std.proofs.Common.{◌≡◌, ℕ, List, [], ◌∷◌, None, ap, codes, pos, refl, rules, true}
use Rattle.std.specs.Fmt.{digits}
use Rattle.serde_json.specs.Data.{array, boolean, item, member, no_items, no_members, null, number, object, string, unsigned}
use Rattle.serde_json.specs.Written.{compact_text}
use Rattle.serde_json.proofs.OnLiterals.{serde_json_on_literals}
use Rattle.org_roles.specs.declared.entry.Membership.{Membership}
use Rattle.org_roles.specs.declared.entry.Org.{Org}
use Rattle.org_roles.specs.declared.role.Role.{Role}
use Rattle.org_roles.specs.declared.role.Role.TheVariants.{Member, Editor, Admin}
use Rattle.portal_base.specs.Json.{data_of, json_text}
use Rattle.portal_base.specs.MomentText.{count_off, moment_text}
use Rattle.portal_base.specs.declared.json_value.Json.{the_lemmas}
use Rattle.table_schema.specs.Printed.{cell_text}
use Rattle.table_schema.specs.declared.cell.Cell.TheVariants as cell
use Rattle.portal_rows.specs.OrgRows.{memberships_in, org_value}
use Rattle.portal_rows.specs.Readings.{role_named}
use Rattle.portal_rows.specs.TableRows.{cells_value, twenty_digits}

-- ---- an organization

abbrev role_in : List ℕ → List ℕ → Role → Membership
role_in org user role = record { org = org; user = user; role = role }

abbrev city : Org
city = record { name = codes "city"; title = codes "City"; description = []; created = pos 0 }

abbrev in_city : List Membership
in_city = role_in (codes "city") (codes "ann") Admin ∷ role_in (codes "city") (codes "bob") Member ∷ []

city_data : data_of (org_value city in_city) ≡ object (
    member (codes "created") (string (moment_text (pos 0)))
    (member (codes "description") (string [])
    (member (codes "roles") (object (
    member (codes "ann") (string (codes "admin")) (member (codes "bob") (string (codes "member")) no_members)))
    (member (codes "title") (string (codes "City")) no_members))))
city_data = search (rules, the_lemmas)

-- The body has the roles of its organization alone, and not the organization's name, which is the key.
city_body : json_text (org_value city in_city) ≡ codes
    "{\"created\":\"1970-01-01T00:00:00\",\"description\":\"\",\"roles\":{\"ann\":\"admin\",\"bob\":\"member\"},\"title\":\"City\"}"
unfolding serde_json_on_literals moment_text count_off
city_body = ap compact_text city_data

other_organizations : memberships_in (codes "lake") (role_in (codes "city") (codes "ann") Admin
    ∷ role_in (codes "lake") (codes "ann") Editor ∷ role_in (codes "lakes") (codes "ann") Member ∷ [])
    ≡ role_in (codes "lake") (codes "ann") Editor ∷ []
other_organizations = refl

no_role : role_named (codes "Admin") ≡ None
no_role = refl

-- ---- a row of a table

cells_data : data_of (cells_value (cell.Null ∷ cell.Text (codes "a") ∷ cell.Truth true ∷ cell.Year 2024 ∷ []))
    ≡ array (item null (item (string (codes "a")) (item (boolean true) (item (number (unsigned 2024)) no_items))))
unfolding cell_text
cells_data = search (rules, the_lemmas)

cells_body : json_text (cells_value (cell.Null ∷ cell.Text (codes "a") ∷ cell.Truth true ∷ cell.Year 2024 ∷ []))
    ≡ codes "[null,\"a\",true,2024]"
unfolding serde_json_on_literals digits
cells_body = ap compact_text cells_data

first_key : twenty_digits 1 ≡ codes "00000000000000000001"
unfolding twenty_digits digits
first_key = refl

last_key : twenty_digits 18446744073709551615 ≡ codes "18446744073709551615"
unfolding twenty_digits digits
last_key = refl

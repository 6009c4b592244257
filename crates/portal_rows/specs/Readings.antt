-- What the values of bodies are read as. A value that no row is written as may be read too: a reader writes what it read,
-- and compares the texts.
use Rattle.std.specs.Prelude.{ℕ, ◌+◌, ◌-◌, ◌*◌, ◌^◌, nat_le, nat_lt, ◌&&◌, if◌then◌else◌, List, [], ◌∷◌, codes, Option, Some, None, option_map}
use Rattle.std.specs.Prelude.{option_and_then, ℤ, pos, negsuc}
use Rattle.std.specs.Result.{result_ok}
use Rattle.std.specs.Str.{bytes_eq}
use Rattle.org_roles.specs.declared.entry.Membership.{Membership}
use Rattle.org_roles.specs.declared.entry.Org.{Org}
use Rattle.org_roles.specs.declared.role.Role.{Role}
use Rattle.org_roles.specs.declared.role.Role.TheVariants.{Member, Editor, Admin}
use Rattle.portal_base.specs.Json.{member_of}
use Rattle.portal_base.specs.Kinds.{text_in, list_in, dictionary_in}
use Rattle.portal_base.specs.MomentReading.{moment_reading}
use Rattle.portal_base.specs.declared.json_value.Json.{Json, out-Json}
use Rattle.portal_base.specs.declared.json_value.Json.TheOpen.{Json-F}
use Rattle.table_schema.specs.Field.{FieldValue, SchemaValue}
use Rattle.table_schema.specs.Keys.{schema_reading}
use Rattle.table_schema.specs.Reading.{record_reading}
use Rattle.table_schema.specs.declared.cell.Cell.{Cell}
use Rattle.portal_rows.specs.declared.org_reading.OrgWithRoles.{OrgWithRoles}
use Rattle.portal_rows.specs.declared.tables.TableHead.{TableHead}

-- ---- members of a dictionary, and lists

-- the text at a key
abbrev pub text_member : List ℕ → Json → Option (List ℕ)
text_member key value = option_and_then text_in (member_of key value)

-- the moment at a key
abbrev pub moment_member : List ℕ → Json → Option ℤ
moment_member key value = option_and_then moment_reading (text_member key value)

-- the item and then the others, if they were read
abbrev pub with_first : {A : Type 0} → Option A → Option (List A) → Option (List A)
with_first None rest = None
with_first (Some x) rest = option_map (λ xs. x ∷ xs) rest

-- what the items are read as, if each can be read
abbrev pub all_read : {A B : Type 0} → (A → Option B) → List A → Option (List B)
all_read read [] = Some []
all_read read (item ∷ items) = with_first (read item) (all_read read items)

-- ---- organizations

-- the role of that text
abbrev pub role_named : List ℕ → Option Role
role_named text =
    if bytes_eq text (codes "member") then Some Member
    else if bytes_eq text (codes "editor") then Some Editor
    else if bytes_eq text (codes "admin") then Some Admin
    else None

-- the role in this organization of a user with the role of this text
abbrev pub membership_reading : List ℕ → List ℕ × Json → Option Membership
membership_reading org entry =
    option_map (λ role. record { org = org; user = entry.0; role = role })
    (option_and_then role_named (text_in entry.1))

abbrev pub roles_reading : List ℕ → Json → Option (List Membership)
roles_reading org value =
    option_and_then (all_read (membership_reading org)) (option_and_then dictionary_in (member_of (codes "roles") value))

abbrev pub org_from : List ℕ → Option ℤ → Option (List ℕ) → Option (List ℕ) → Option Org
org_from name (Some created) (Some description) (Some title) =
    Some (record { name = name; title = title; description = description; created = created })
org_from name created description title = None

-- the organization of that name
abbrev pub org_reading : List ℕ → Json → Option Org
org_reading name value =
    org_from name (moment_member (codes "created") value) (text_member (codes "description") value)
    (text_member (codes "title") value)

abbrev pub org_with_roles_from : Option Org → Option (List Membership) → Option OrgWithRoles
org_with_roles_from (Some org) (Some roles) = Some (record { org = org; roles = roles })
org_with_roles_from org roles = None

-- the organization of that name, with the roles in it
abbrev pub org_with_roles_reading : List ℕ → Json → Option OrgWithRoles
org_with_roles_reading name value = org_with_roles_from (org_reading name value) (roles_reading name value)

-- ---- tables

-- the number, if it is not negative and below the limit
abbrev pub number_below : ℕ → ℤ → Option ℕ
number_below limit (pos n) = if nat_lt n limit then Some n else None
number_below limit (negsuc n) = None

abbrev pub number_of : ℕ → Json-F Json → Option ℕ
number_of limit (Json-F.Whole z) = number_below limit z
number_of limit other = None

-- a whole number that is not negative and below the limit
abbrev pub number_in : ℕ → Json → Option ℕ
number_in limit value = number_of limit (out-Json value)

abbrev pub next_id_reading : Json → Option ℕ
next_id_reading value = option_and_then (number_in (2 ^ 64)) (member_of (codes "next_id") value)

abbrev pub schema_member_reading : Json → Option SchemaValue
schema_member_reading value =
    option_and_then (λ descriptor. result_ok (schema_reading descriptor)) (member_of (codes "schema") value)

abbrev pub targets_reading : Json → Option (List ℕ)
targets_reading value =
    option_and_then (all_read (number_in (2 ^ 32))) (option_and_then list_in (member_of (codes "targets") value))

abbrev pub head_from : Option SchemaValue → Option ℕ → Option (List ℕ) → Option TableHead
head_from (Some schema) (Some next_id) (Some targets) =
    Some (record { schema = schema; next_id = next_id; targets = targets })
head_from schema next_id targets = None

abbrev pub head_reading : Json → Option TableHead
head_reading value = head_from (schema_member_reading value) (next_id_reading value) (targets_reading value)

-- ---- cells

-- the cells that the fields read the values as, one value for each field
abbrev pub cells_reading : List FieldValue → List Json → Option (List Cell)
cells_reading [] [] = Some []
cells_reading (field ∷ fields) (value ∷ values) =
    with_first (result_ok (record_reading field value)) (cells_reading fields values)
cells_reading fields values = None

-- the cells of a list of values
abbrev pub cells_of_value : List FieldValue → Json → Option (List Cell)
cells_of_value fields value = option_and_then (cells_reading fields) (list_in value)

-- ---- keys

-- the number with one more decimal digit, if that is below 2^64
abbrev pub with_digit : ℕ → ℕ → Option ℕ
with_digit n c =
    if (nat_le 48 c && nat_le c 57) && nat_lt (n * 10 + (c - 48)) (2 ^ 64) then Some (n * 10 + (c - 48)) else None

-- the number of these digits after the digits of a number
abbrev pub digits_from : ℕ → List ℕ → Option ℕ
digits_from n [] = Some n
digits_from n (c ∷ cs) = option_and_then (λ m. digits_from m cs) (with_digit n c)

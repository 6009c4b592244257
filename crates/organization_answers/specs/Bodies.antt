-- The bodies of calls on organizations: their errors, and the values that they give.
use Rattle.std.specs.Prelude.{ℕ, ℤ, List, [], ◌∷◌, ◌||◌, codes, is_some, if◌then◌else◌}
use Rattle.std.specs.Prelude.{Option, Some, None, Result, Ok, Err, unwrap_or, option_and_then}
use Rattle.std.specs.Str.{bytes_eq}
use Rattle.portal_base.specs.declared.json_value.Json.{Json}
use Rattle.portal_base.specs.declared.kinds.KindFault.{KindFault}
use Rattle.portal_base.specs.KeyErrors.{KeyError, with_rule_errors, error_if, kind_message, found_value, text_error}
use Rattle.portal_base.specs.Kinds.{short_text_at}
use Rattle.org_roles.specs.PeopleLists.{PeopleLists, is_user_in, role_in}
use Rattle.org_roles.specs.declared.entry.Org.{Org}
use Rattle.org_roles.specs.declared.role.Role.{Role}
use Rattle.org_roles.specs.declared.role.Role.TheVariants.{Member, Editor, Admin}
use Rattle.packages.specs.Texts.{name_error}
use Rattle.packages.specs.Errors.{message_unless}
use Rattle.packages.specs.declared.package.Package.{Package}
use Rattle.portal_calls.specs.Answer.{required_text}
use Rattle.visibility.specs.View.{has_datasets}
use Rattle.organization_answers.specs.Owners.{owns_source}

-- ---- texts

abbrev pub title_read : Json → Result (Option (List ℕ)) KindFault
title_read body = short_text_at 2000 (codes "title") body

abbrev pub description_read : Json → Result (Option (List ℕ)) KindFault
description_read body = short_text_at 20000 (codes "description") body

-- ---- a new organization

-- the text, if it was read
abbrev pub text_or_none : Result (List ℕ) KindFault → Option (List ℕ)
text_or_none (Ok text) = Some text
text_or_none (Err fault) = None

abbrev pub creation_errors : Json → List KeyError
creation_errors body =
    with_rule_errors (
    (codes "description", kind_message (description_read body))
    ∷ (codes "name", text_error name_error (required_text (codes "name") body))
    ∷ (codes "title", kind_message (title_read body))
    ∷ []
    ) []

-- An absent title is the name. A title that is given stays as it is, also an empty one.
abbrev pub created_org : Json → ℤ → Org
created_org body moment =
    let name = unwrap_or (text_or_none (required_text (codes "name") body)) [] in
    record {
      name = name;
      title = unwrap_or (found_value (title_read body)) name;
      description = unwrap_or (found_value (description_read body)) [];
      created = moment;
    }

-- ---- a change of an organization

abbrev pub patch_errors : Json → List KeyError
patch_errors body =
    with_rule_errors (
    (codes "description", kind_message (description_read body)) ∷ (codes "title", kind_message (title_read body)) ∷ []
    ) []

-- the keys that are given replace the old values
abbrev pub patched_org : Json → Org → Org
patched_org body org = record org {
  title = unwrap_or (found_value (title_read body)) org.title;
  description = unwrap_or (found_value (description_read body)) org.description;
}

-- an organization can be removed only if it has no datasets, in whatever state, and no sources
abbrev pub removal_errors : List ℕ → List Package → List (List ℕ) → List KeyError
removal_errors org datasets owners =
    if has_datasets org datasets || owns_source org owners
    then (codes "id", codes "Organization has datasets or harvest sources") ∷ []
    else []

-- ---- members

abbrev pub role_named : List ℕ → Option Role
role_named text =
    if bytes_eq text (codes "member") then Some Member
    else if bytes_eq text (codes "editor") then Some Editor
    else if bytes_eq text (codes "admin") then Some Admin
    else None

abbrev pub role_error : List ℕ → Option (List ℕ)
role_error text = message_unless (is_some (role_named text)) (codes "Role must be member, editor or admin")

abbrev pub user_error : PeopleLists → List ℕ → Option (List ℕ)
user_error people user = message_unless (is_user_in people user) (codes "User does not exist")

-- the error of a user who doesn't exist, or else of one without a role in the organization
abbrev pub member_error : PeopleLists → List ℕ → List ℕ → Option (List ℕ)
member_error people org user =
    if is_user_in people user then message_unless (is_some (role_in people org user)) (codes "User has no role here")
    else Some (codes "User does not exist")

abbrev pub member_errors : PeopleLists → Json → List KeyError
member_errors people body =
    with_rule_errors (
    (codes "role", text_error role_error (required_text (codes "role") body))
    ∷ (codes "username", text_error (user_error people) (required_text (codes "username") body))
    ∷ []
    ) []

abbrev pub former_member_errors : PeopleLists → List ℕ → Json → List KeyError
former_member_errors people org body =
    error_if (codes "username") (text_error (member_error people org) (required_text (codes "username") body)) []

-- the user and the role that a body gives
abbrev pub user_given : Json → List ℕ
user_given body = unwrap_or (text_or_none (required_text (codes "username") body)) []

abbrev pub role_given : Json → Role
role_given body = unwrap_or (option_and_then role_named (text_or_none (required_text (codes "role") body))) Member

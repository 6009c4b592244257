-- The errors of a dataset's body, and the dataset that is built from a body without errors. The keys are those of
-- CKAN 2.10's `package_create`, `package_update` and `package_patch`. The rules, bounds and messages are the portal's
-- own.
use Rattle.std.specs.Prelude.{◌≡◌, ◌≢◌, ⊤, pos, List, [], ◌∷◌, codes, Bool, true, false, Option, Some, None}
use Rattle.portal_base.specs.declared.json_value.Json.{Json}
use Rattle.portal_base.specs.KeyErrors.{KeyError, with_rule_errors}
use Rattle.packages.specs.Package.{fresh_package}
use Rattle.packages.specs.Resources.{KeyCheck, resources_key_error, resources_or, next_or}
use Rattle.packages.specs.Tags.{tags_key_error, tags_or}
use Rattle.packages.specs.Texts.{private_or, state_or, text_or, short_text_error, title_or}
use Rattle.packages.specs.Texts.{name_key_error, organization_key_error, private_key_error, state_key_error}
use Rattle.packages.specs.declared.build.BuildFault.{BuildFault}
use Rattle.packages.specs.declared.build.BuildFault.TheVariants.{Fields, OutOfMemory}
use Rattle.packages.specs.declared.package.Package.{Package}

-- ---- the errors

-- The keys of a dataset's body, each with its error or none. `old` is the dataset that the body changes.
abbrev pub body_checks : Json → Option Package → List KeyCheck
body_checks body old =
    (codes "author", short_text_error 2000 (codes "author") body)
    ∷ (codes "license_id", short_text_error 2000 (codes "license_id") body)
    ∷ (codes "maintainer", short_text_error 2000 (codes "maintainer") body)
    ∷ (codes "name", name_key_error old body)
    ∷ (codes "notes", short_text_error 100000 (codes "notes") body)
    ∷ (codes "owner_org", organization_key_error old body)
    ∷ (codes "private", private_key_error body)
    ∷ (codes "resources", resources_key_error old body)
    ∷ (codes "state", state_key_error body)
    ∷ (codes "tags", tags_key_error body)
    ∷ (codes "title", short_text_error 2000 (codes "title") body)
    ∷ (codes "url", short_text_error 2000 (codes "url") body)
    ∷ (codes "version", short_text_error 2000 (codes "version") body)
    ∷ []

-- The faulty keys, in the order of the keys. Two rules aren't among these: that the organization exists, and that no
-- table refers to a table of a removed resource.
abbrev pub body_errors : Json → Option Package → List KeyError
body_errors body old = with_rule_errors (body_checks body old) []

-- ---- the dataset

-- The dataset with the defaults for all keys but its name, organization and state. What no body sets stays.
abbrev pub reset_dataset : Package → Package
reset_dataset old = record (fresh_package old.id old.name old.name old.owner_org old.creator old.created) {
  state = old.state;
  next_resource = old.next_resource;
  modified = old.modified;
  source = old.source;
  iri = old.iri;
}

-- A new dataset with the name and the organization of the body. The caller sets its id, creator and moments.
abbrev pub new_dataset : Json → Package
new_dataset body =
    let name = text_or [] (codes "name") body in
    fresh_package [] name name (text_or [] (codes "owner_org") body) [] (pos 0)

-- The values for absent keys: the defaults for a new dataset and for an update (`whole`), and the old values for a
-- patch.
abbrev pub base_dataset : Json → Option Package → Bool → Package
base_dataset body None whole = new_dataset body
base_dataset body (Some old) true = reset_dataset old
base_dataset body (Some old) false = old

-- the dataset with the values of the body's keys
abbrev pub with_body : Json → Option Package → Package → Package
with_body body old start = record start {
  title = title_or start.title start.name body;
  notes = text_or start.notes (codes "notes") body;
  author = text_or start.author (codes "author") body;
  maintainer = text_or start.maintainer (codes "maintainer") body;
  license_id = text_or start.license_id (codes "license_id") body;
  url = text_or start.url (codes "url") body;
  version = text_or start.version (codes "version") body;
  private = private_or start.private body;
  state = state_or start.state body;
  tags = tags_or start.tags body;
  resources = resources_or start.resources old start.next_resource body;
  next_resource = next_or old start.next_resource body;
}

abbrev pub built_dataset : Json → Option Package → Bool → Package
built_dataset body old whole = with_body body old (base_dataset body old whole)

-- ---- the refusal

-- The refusal reports these errors, and there is at least one, or it reports that memory is out.
abbrev pub IsRefusal : List KeyError → BuildFault → Type 0
IsRefusal errors (Fields faults) = (faults ≡ errors) × (faults ≢ [])
IsRefusal errors OutOfMemory = ⊤

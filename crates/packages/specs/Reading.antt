-- What is read of a body key by key: the value of a key, or its error. A key with an error counts as absent.
use Rattle.std.specs.Prelude.{◌≡◌, ⊤, ℕ, pos, List, [], codes, Bool, true, false, Option, Some, None}
use Rattle.portal_base.specs.declared.json_value.Json.{Json}
use Rattle.packages.specs.Body.{reset_dataset}
use Rattle.packages.specs.Package.{fresh_package}
use Rattle.packages.specs.Resources.{resources_key_error, resources_or, next_or}
use Rattle.packages.specs.Tags.{tags_key_error, tags_or}
use Rattle.packages.specs.Texts.{private_or, state_or, text_or, short_text_error, title_or}
use Rattle.packages.specs.Texts.{name_key_error, organization_key_error}
use Rattle.packages.specs.declared.errors.ReadFault.{ReadFault}
use Rattle.packages.specs.declared.errors.ReadFault.TheVariants.{Rule, OutOfMemory}
use Rattle.packages.specs.declared.package.Package.{Package}
use Rattle.packages.specs.declared.package.Resource.{Resource}

-- the fault reports this error, or that memory is out
abbrev pub HasError : Option (List ℕ) → ReadFault → Type 0
HasError error (Rule message) = error ≡ Some message
HasError error OutOfMemory = ⊤

-- the value of a key without an error, and else the one that is kept
abbrev pub value_or : {A : Type 0} → Option (List ℕ) → A → A → A
value_or None value kept = value
value_or (Some message) value kept = kept

-- the value that a new dataset takes; an old one keeps its own
abbrev pub if_new : {A : Type 0} → Option Package → A → A → A
if_new None value kept = value
if_new (Some old) value kept = kept

-- the text of a key, if it has no error
abbrev pub text_read : Option (List ℕ) → List ℕ → List ℕ → Json → List ℕ
text_read error kept key body = value_or error (text_or kept key body) kept

abbrev pub short_text_read : ℕ → List ℕ → List ℕ → Json → List ℕ
short_text_read longest kept key body = text_read (short_text_error longest key body) kept key body

-- the name of a dataset, which a body gives for a new one
abbrev pub name_read : Option Package → List ℕ → Json → List ℕ
name_read old kept body = if_new old (text_read (name_key_error old body) kept (codes "name") body) kept

-- the organization of a dataset, which a body gives for a new one
abbrev pub organization_read : Option Package → List ℕ → Json → List ℕ
organization_read old kept body = if_new old (text_read (organization_key_error old body) kept (codes "owner_org") body) kept

abbrev pub title_read : List ℕ → List ℕ → Json → List ℕ
title_read kept name body = value_or (short_text_error 2000 (codes "title") body) (title_or kept name body) kept

-- ---- a single resource

-- a resource before its body is read
abbrev pub blank_resource : ℕ → Resource
blank_resource number = record { number = number; name = []; url = []; format = []; description = []; mimetype = [] }

-- the resource with what is read of the body
abbrev pub with_texts_read : Json → Resource → Resource
with_texts_read body start = record start {
  name = short_text_read 2000 start.name (codes "name") body;
  url = short_text_read 2000 start.url (codes "url") body;
  format = short_text_read 2000 start.format (codes "format") body;
  mimetype = short_text_read 2000 start.mimetype (codes "mimetype") body;
  description = short_text_read 20000 start.description (codes "description") body;
}

-- ---- the dataset

-- the dataset into which a body is read: a new one, one with the defaults (`whole`), or the old one
abbrev pub base_read : Option Package → Bool → Package
base_read None whole = fresh_package [] [] [] [] [] (pos 0)
base_read (Some old) true = reset_dataset old
base_read (Some old) false = old

-- the first three keys
abbrev pub with_authors_read : Json → Package → Package
with_authors_read body start = record start {
  author = short_text_read 2000 start.author (codes "author") body;
  license_id = short_text_read 2000 start.license_id (codes "license_id") body;
  maintainer = short_text_read 2000 start.maintainer (codes "maintainer") body;
}

-- The next three. The title of a new dataset is its name by default.
abbrev pub with_names_read : Json → Option Package → Package → Package
with_names_read body old start = record start {
  name = name_read old start.name body;
  title = if_new old (name_read old start.name body) start.title;
  notes = short_text_read 100000 start.notes (codes "notes") body;
  owner_org = organization_read old start.owner_org body;
}

-- the next four
abbrev pub with_lists_read : Json → Option Package → Package → Package
with_lists_read body old start = record start {
  private = private_or start.private body;
  resources =
      value_or (resources_key_error old body) (resources_or start.resources old start.next_resource body) start.resources;
  next_resource = value_or (resources_key_error old body) (next_or old start.next_resource body) start.next_resource;
  state = state_or start.state body;
  tags = value_or (tags_key_error body) (tags_or start.tags body) start.tags;
}

-- the last three
abbrev pub with_title_read : Json → Package → Package
with_title_read body start = record start {
  title = title_read start.title start.name body;
  url = short_text_read 2000 start.url (codes "url") body;
  version = short_text_read 2000 start.version (codes "version") body;
}

-- the dataset with what is read of all keys
abbrev pub with_reading : Json → Option Package → Package → Package
with_reading body old start =
    with_title_read body (with_lists_read body old (with_names_read body old (with_authors_read body start)))

-- The keys of a dataset's body that have a single value: the values and the errors. Names, organizations and titles are
-- those of CKAN 2.10's `package_create`. The kinds, bounds and messages are the portal's own.
use Rattle.std.specs.Prelude.{ℕ, List, [], ◌∷◌, codes, Bool, is_some, if◌then◌else◌}
use Rattle.std.specs.Prelude.{Option, Some, None, option_map, option_and_then, unwrap_or, Result, Ok, Err}
use Rattle.std.specs.Str.{bytes_eq}
use Rattle.portal_base.specs.declared.json_value.Json.{Json}
use Rattle.portal_base.specs.declared.kinds.KindFault.{KindFault}
use Rattle.portal_base.specs.declared.kinds.KindFault.TheVariants.{Missing}
use Rattle.portal_base.specs.KeyErrors.{kind_message, found_value}
use Rattle.portal_base.specs.Kinds.{message_of, short_text_at, text_at, truth_at}
use Rattle.portal_base.specs.Name.{name_fault, name_fault_message}
use Rattle.packages.specs.Errors.{message_unless, or_error, optional_error}
use Rattle.packages.specs.declared.package.Package.{Package}
use Rattle.packages.specs.declared.package.State.{State}
use Rattle.packages.specs.declared.package.State.TheVariants.{Draft, Active}

-- ---- texts

-- the error of an optional text of at most `longest` bytes
abbrev pub short_text_error : ℕ → List ℕ → Json → Option (List ℕ)
short_text_error longest key body = kind_message (short_text_at longest key body)

-- the text that a key gives
abbrev pub text_given : List ℕ → Json → Option (List ℕ)
text_given key body = found_value (text_at key body)

-- the text that a key gives, and else this one
abbrev pub text_or : List ℕ → List ℕ → Json → List ℕ
text_or kept key body = unwrap_or (text_given key body) kept

-- ---- the title

-- an empty title is the name
abbrev pub or_name : List ℕ → List ℕ → List ℕ
or_name name [] = name
or_name name (c ∷ cs) = c ∷ cs

abbrev pub title_or : List ℕ → List ℕ → Json → List ℕ
title_or kept name body = unwrap_or (option_map (or_name name) (text_given (codes "title") body)) kept

-- ---- texts that a new dataset needs and that can't change

-- the error of an absent key
abbrev pub missing_error : Option Package → Option (List ℕ)
missing_error None = Some (message_of Missing)
missing_error (Some old) = None

-- the error of a text by these rules, or of an absent or wrong value
abbrev pub fixed_text_error : Option Package → (List ℕ → Option (List ℕ)) → Result (Option (List ℕ)) KindFault
    → Option (List ℕ)
fixed_text_error old rules (Ok None) = missing_error old
fixed_text_error old rules (Ok (Some text)) = rules text
fixed_text_error old rules (Err fault) = Some (message_of fault)

-- the error of a text that differs from the old one
abbrev pub change_error : List ℕ → List ℕ → List ℕ → Option (List ℕ)
change_error message old text = message_unless (bytes_eq text old) message

-- the most characters of the name of a dataset or of an organization
abbrev pub longest_name : ℕ
longest_name = 100

-- the error of a text that has to be a name
abbrev pub name_error : List ℕ → Option (List ℕ)
name_error text = option_map (name_fault_message longest_name) (name_fault text longest_name)

abbrev pub dataset_name_error : Option Package → List ℕ → Option (List ℕ)
dataset_name_error None text = name_error text
dataset_name_error (Some old) text =
    or_error (name_error text) (change_error (codes "Name cannot be changed") old.name text)

abbrev pub name_key_error : Option Package → Json → Option (List ℕ)
name_key_error old body = fixed_text_error old (dataset_name_error old) (text_at (codes "name") body)

abbrev pub organization_change_error : Option Package → List ℕ → Option (List ℕ)
organization_change_error None text = None
organization_change_error (Some old) text = change_error (codes "Organization cannot be changed") old.owner_org text

-- Whether an organization of that name exists isn't checked here.
abbrev pub organization_key_error : Option Package → Json → Option (List ℕ)
organization_key_error old body =
    fixed_text_error old (organization_change_error old) (text_at (codes "owner_org") body)

-- ---- the state

-- the states that a body may give
abbrev pub state_named : List ℕ → Option State
state_named text =
    if bytes_eq text (codes "draft") then Some Draft
    else if bytes_eq text (codes "active") then Some Active
    else None

abbrev pub state_error : List ℕ → Option (List ℕ)
state_error text = message_unless (is_some (state_named text)) (codes "State must be draft or active")

abbrev pub state_key_error : Json → Option (List ℕ)
state_key_error body = optional_error state_error (text_at (codes "state") body)

abbrev pub state_or : State → Json → State
state_or kept body = unwrap_or (option_and_then state_named (text_given (codes "state") body)) kept

-- ---- whether it is private

abbrev pub private_key_error : Json → Option (List ℕ)
private_key_error body = kind_message (truth_at (codes "private") body)

abbrev pub private_or : Bool → Json → Bool
private_or kept body = unwrap_or (found_value (truth_at (codes "private") body)) kept

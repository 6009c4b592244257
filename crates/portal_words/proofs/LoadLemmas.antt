-- The command of the values of the options of `load`.
use Rattle.std.proofs.Common.{◌≡◌, ◌∙◌, ℕ, Bool, true, false, List, [], ◌∷◌, refl, ap, Option, Some, None, option_map}
use Rattle.std.proofs.Common.{codes, option_and_then, if◌then◌else◌}
use Rattle.portal_words.specs.Commands.{are_allowed, load_with, required_text_for, required_text_of, text_for, text_of}
use Rattle.portal_words.specs.Commands.{value_of}
use Rattle.portal_words.specs.Grammar.{Setting, options_in}
use Rattle.portal_words.specs.Options.{HaveOtherOptions}
use Rattle.portal_words.specs.declared.command.Command.{Command}
use Rattle.portal_words.specs.declared.command.Command.TheVariants.{Load}

abbrev pub load_names : List (List ℕ)
load_names = codes "portal" ∷ codes "as" ∷ codes "resource" ∷ codes "schema" ∷ []

-- the command of the readings of the options, if the options are allowed
abbrev load_of : Bool → Option (Option (List ℕ)) → Option (List ℕ) → Option (List ℕ) → Option (List ℕ)
    → Option Command
load_of allowed portal caller resource schema =
    if allowed
    then option_and_then (λ p. option_and_then (λ c. option_and_then (λ r. option_map
    (λ s. Load (record { portal = p; caller = c; resource = r; schema = s })) schema) resource) caller) portal
    else None

refused : (allowed : Bool) (portal : Option (Option (List ℕ))) (caller resource schema : Option (List ℕ))
    → allowed ≡ false → load_of allowed portal caller resource schema ≡ None
refused allowed portal caller resource schema none = rw none refl

made : (allowed : Bool) (portal : Option (Option (List ℕ))) (caller resource schema : Option (List ℕ))
    (p : Option (List ℕ)) (c r s : List ℕ)
    → allowed ≡ true → portal ≡ Some p → caller ≡ Some c → resource ≡ Some r → schema ≡ Some s
    → load_of allowed portal caller resource schema
    ≡ Some (Load (record { portal = p; caller = c; resource = r; schema = s }))
made allowed portal caller resource schema p c r s is at_portal at_caller at_resource at_schema =
    rw (is, at_portal, at_caller, at_resource, at_schema) refl

refused_among : (parsed : Option (List Setting))
    → ((given : List Setting) → parsed ≡ Some given → are_allowed load_names given ≡ false)
    → option_and_then load_with parsed ≡ None
refused_among None others = refl
refused_among (Some given) others =
    refused (are_allowed load_names given) (text_of (codes "portal") given) (required_text_of (codes "as") given)
    (required_text_of (codes "resource") given) (required_text_of (codes "schema") given) (others given refl)

-- Words with other options name no command.
pub load_refused : (words : List (List ℕ)) → HaveOtherOptions load_names words
    → option_and_then load_with (options_in words) ≡ None
load_refused words others = refused_among (options_in words) others

-- Words with these options are the command of their values.
pub load_made : (words : List (List ℕ)) (given : List Setting) (portal : Option (List ℕ))
    (caller resource schema : List ℕ)
    → options_in words ≡ Some given → are_allowed load_names given ≡ true
    → text_for (value_of (codes "portal") given) ≡ Some portal
    → required_text_for (value_of (codes "as") given) ≡ Some caller
    → required_text_for (value_of (codes "resource") given) ≡ Some resource
    → required_text_for (value_of (codes "schema") given) ≡ Some schema
    → option_and_then load_with (options_in words)
    ≡ Some (Load (record { portal = portal; caller = caller; resource = resource; schema = schema }))
load_made words given portal caller resource schema parsed allowed at_portal at_caller at_resource at_schema =
    ap (option_and_then load_with) parsed
    ∙ made (are_allowed load_names given) (text_of (codes "portal") given) (required_text_of (codes "as") given)
    (required_text_of (codes "resource") given) (required_text_of (codes "schema") given) portal caller resource schema
    allowed at_portal at_caller at_resource at_schema

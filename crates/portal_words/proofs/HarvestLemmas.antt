-- The command of the values of the options of `harvest`.
use Rattle.std.proofs.Common.{◌≡◌, ◌∙◌, ℕ, Bool, true, false, List, [], ◌∷◌, refl, ap, Option, Some, None, option_map}
use Rattle.std.proofs.Common.{codes, option_and_then, if◌then◌else◌}
use Rattle.portal_words.specs.Commands.{are_allowed, harvest_with, required_text_for, required_text_of, text_for, text_of}
use Rattle.portal_words.specs.Commands.{value_of, workers_for}
use Rattle.portal_words.specs.Grammar.{Setting, options_in}
use Rattle.portal_words.specs.Options.{HaveOtherOptions}
use Rattle.portal_words.specs.declared.command.Command.{Command}
use Rattle.portal_words.specs.declared.command.Command.TheVariants.{Harvest}

abbrev pub harvest_names : List (List ℕ)
harvest_names = codes "portal" ∷ codes "as" ∷ codes "source" ∷ codes "workers" ∷ []

-- the command of the readings of the options, if the options are allowed
abbrev harvest_of : Bool → Option ℕ → Option (Option (List ℕ)) → Option (List ℕ) → Option (List ℕ) → Option Command
harvest_of allowed workers portal caller source =
    if allowed
    then option_and_then (λ w. option_and_then (λ p. option_and_then (λ c. option_map
    (λ s. Harvest (record { portal = p; caller = c; source = s; workers = w })) source) caller) portal) workers
    else None

refused : (allowed : Bool) (workers : Option ℕ) (portal : Option (Option (List ℕ))) (caller source : Option (List ℕ))
    → allowed ≡ false → harvest_of allowed workers portal caller source ≡ None
refused allowed workers portal caller source none = rw none refl

made : (allowed : Bool) (workers : Option ℕ) (portal : Option (Option (List ℕ))) (caller source : Option (List ℕ))
    (w : ℕ) (p : Option (List ℕ)) (c s : List ℕ)
    → allowed ≡ true → workers ≡ Some w → portal ≡ Some p → caller ≡ Some c → source ≡ Some s
    → harvest_of allowed workers portal caller source
    ≡ Some (Harvest (record { portal = p; caller = c; source = s; workers = w }))
made allowed workers portal caller source w p c s is at_workers at_portal at_caller at_source =
    rw (is, at_workers, at_portal, at_caller, at_source) refl

refused_among : (parsed : Option (List Setting))
    → ((given : List Setting) → parsed ≡ Some given → are_allowed harvest_names given ≡ false)
    → option_and_then harvest_with parsed ≡ None
refused_among None others = refl
refused_among (Some given) others =
    refused (are_allowed harvest_names given) (workers_for (value_of (codes "workers") given))
    (text_of (codes "portal") given) (required_text_of (codes "as") given) (required_text_of (codes "source") given)
    (others given refl)

-- Words with other options name no command.
pub harvest_refused : (words : List (List ℕ)) → HaveOtherOptions harvest_names words
    → option_and_then harvest_with (options_in words) ≡ None
harvest_refused words others = refused_among (options_in words) others

-- Words with these options are the command of their values.
pub harvest_made : (words : List (List ℕ)) (given : List Setting) (workers : ℕ) (portal : Option (List ℕ))
    (caller source : List ℕ)
    → options_in words ≡ Some given → are_allowed harvest_names given ≡ true
    → workers_for (value_of (codes "workers") given) ≡ Some workers
    → text_for (value_of (codes "portal") given) ≡ Some portal
    → required_text_for (value_of (codes "as") given) ≡ Some caller
    → required_text_for (value_of (codes "source") given) ≡ Some source
    → option_and_then harvest_with (options_in words)
    ≡ Some (Harvest (record { portal = portal; caller = caller; source = source; workers = workers }))
harvest_made words given workers portal caller source parsed allowed at_workers at_portal at_caller at_source =
    ap (option_and_then harvest_with) parsed
    ∙ made (are_allowed harvest_names given) (workers_for (value_of (codes "workers") given))
    (text_of (codes "portal") given) (required_text_of (codes "as") given) (required_text_of (codes "source") given)
    workers portal caller source allowed at_workers at_portal at_caller at_source

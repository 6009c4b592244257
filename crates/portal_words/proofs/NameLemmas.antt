-- Names that no command has.
use Rattle.std.proofs.Common.{◌≡◌, ◌≢◌, ℕ, Bool, true, false, List, ◌∷◌, refl, Option, Some, None, codes, option_and_then}
use Rattle.std.specs.Str.{bytes_eq}
use Rattle.std.proofs.lemmas.Slice.Eq.{bytes_eq-Decides}
use Rattle.portal_words.specs.Commands.{command_of, command_with}
use Rattle.portal_words.specs.Grammar.{Setting, options_in}

not_alike : (name word : List ℕ) → name ≢ word → bytes_eq name word ≡ false
not_alike name word other = go (bytes_eq name word) refl
  where
    go : (b : Bool) → bytes_eq name word ≡ b → bytes_eq name word ≡ false
    go true e = absurd (other ((bytes_eq-Decides name word).0 e))
    go false e = e

-- Words that begin with no command's name name no command.
pub no_command : (name : List ℕ) (words : List (List ℕ)) → name ≢ codes "play" → name ≢ codes "load"
    → name ≢ codes "harvest" → name ≢ codes "serve" → name ≢ codes "report" → command_of (name ∷ words) ≡ None
no_command name words no_play no_load no_harvest no_serve no_report = go (options_in words)
  where
    none : (given : List Setting) → command_with name given ≡ None
    none given =
        rw (
          not_alike name (codes "play") no_play,
          not_alike name (codes "load") no_load,
          not_alike name (codes "harvest") no_harvest,
          not_alike name (codes "serve") no_serve,
          not_alike name (codes "report") no_report,
        ) refl

    go : (parsed : Option (List Setting)) → option_and_then (command_with name) parsed ≡ None
    go None = refl
    go (Some given) = none given

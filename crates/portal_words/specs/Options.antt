-- The options of a command as `clap` takes them, and what its results say about the words.
use Rattle.std.specs.Prelude.{◌≡◌, ℕ, Bool, true, false, ◌||◌, List, fold, codes, Some}
use Rattle.std.specs.Str.{bytes_eq}
use Rattle.clap.specs.Matches.{first_value, found_of}
use Rattle.clap.specs.Simple.{App, new_app, new_rule, on_top, with_rule}
use Rattle.clap.specs.Walk.{Rule}
use Rattle.clap.specs.declared.builder.action.ArgAction.TheVariants.{Set}
use Rattle.clap.specs.declared.error.kind.ErrorKind.{ErrorKind}
use Rattle.clap.specs.declared.error.kind.ErrorKind.TheVariants as kind
use Rattle.clap.specs.declared.parser.matches.ArgMatches.{ArgMatches}
use Rattle.portal_words.specs.declared.command.WordsFault.{WordsFault}
use Rattle.portal_words.specs.declared.command.WordsFault.TheVariants.{BadWords, OutOfMemory}
use Rattle.portal_words.specs.Commands.{are_allowed, value_of}
use Rattle.portal_words.specs.Grammar.{Setting, options_in}

-- one or two dashes and nothing else
abbrev pub is_dashes : List ℕ → Bool
is_dashes word = bytes_eq word (codes "-") || bytes_eq word (codes "--")

-- an option with one value, as `clap` takes it
abbrev pub option_rule : List ℕ → Rule
option_rule name = record (new_rule name) { long = Some name; action = Some Set }

-- a command without options, whose words can be options only
abbrev pub base_app : App
base_app = on_top (λ s. record s { no_binary_name = true; disable_help_flag = true }) (new_app (codes "portal"))

abbrev pub with_option : App → List ℕ → App
with_option app name = with_rule app (option_rule name)

-- the command with these options
abbrev pub app_with : List (List ℕ) → App
app_with names = fold with_option base_app names

-- why words name no command, by the error of `clap`
abbrev pub fault_for : ErrorKind → WordsFault
fault_for kind.OutOfMemory = OutOfMemory
fault_for _ = BadWords

-- The matches have the options in the words. Each one is one of these, and none is given twice.
pub record MatchesOptions (names words : List (List ℕ)) (matches : ArgMatches) : Type 0 where
  pub given : List Setting
  pub parsed : options_in words ≡ Some given
  pub allowed : are_allowed names given ≡ true
  pub values : (name : List ℕ) → first_value (found_of matches) name ≡ value_of name given

-- The words have no form of options, or have others than these, or one twice.
abbrev pub HaveOtherOptions : List (List ℕ) → List (List ℕ) → Type 0
HaveOtherOptions names words = (given : List Setting) → options_in words ≡ Some given → are_allowed names given ≡ false

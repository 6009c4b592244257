-- The command that words name: the commands, and the options of each. A further command is a line of `command_with` and
-- a definition like `play_with`. A further option is a line in the definition of its command.
use Rattle.std.specs.Prelude.{ℕ, ◌≤◌, ⊤, nat_le, nat_lt, Bool, not, ◌&&◌, if◌then◌else◌, List, [], ◌∷◌, length, codes}
use Rattle.std.specs.Prelude.{Option, Some, None, option_map, option_and_then}
use Rattle.std.specs.Char.{is_ascii_digit}
use Rattle.std.specs.Cmp.Lexicographic.{slice_cmp}
use Rattle.std.specs.List.{find, list_all, list_any}
use Rattle.std.specs.Ordering.{nat_cmp}
use Rattle.std.specs.Str.{bytes_eq}
use Rattle.std.specs.Str.Parse.{digits_value}
use Rattle.std.specs.declared.cmp.Ordering.{Ordering}
use Rattle.portal_base.specs.Ordered.{are_apart}
use Rattle.portal_base.specs.declared.caller.Caller.{Caller}
use Rattle.portal_base.specs.declared.caller.Caller.TheVariants.{Anonymous, Named}
use Rattle.portal_words.specs.declared.command.Command.{Command}
use Rattle.portal_words.specs.declared.command.Command.TheVariants.{Play, Load, Harvest, Serve, Report}
use Rattle.portal_words.specs.declared.command.ReportKind.{ReportKind}
use Rattle.portal_words.specs.declared.command.ReportKind.TheVariants.{Datasets, Tables}
use Rattle.portal_words.specs.Grammar.{Setting, options_in}

-- ---- which options are given

-- by name
abbrev pub setting_cmp : Setting → Setting → Ordering
setting_cmp s t = slice_cmp nat_cmp s.name t.name

-- the text is one of the list
abbrev pub is_among : List (List ℕ) → List ℕ → Bool
is_among names name = list_any (λ n. bytes_eq n name) names

-- each option is one of these
abbrev pub are_among : List (List ℕ) → List Setting → Bool
are_among names given = list_all (λ s. is_among names s.name) given

-- each option is one of these, and none is given twice
abbrev pub are_allowed : List (List ℕ) → List Setting → Bool
are_allowed names given = are_among names given && are_apart setting_cmp given

-- the value of the option
abbrev pub value_of : List ℕ → List Setting → Option (List ℕ)
value_of name given = option_map (λ s. s.value) (find (λ s. bytes_eq s.name name) given)

-- ---- values

-- A text is any but the empty one and a dash alone.
abbrev pub is_text : List ℕ → Bool
is_text value = nat_lt 0 (length value) && not (bytes_eq value (codes "-"))

abbrev pub text_for : Option (List ℕ) → Option (Option (List ℕ))
text_for None = Some None
text_for (Some value) = if is_text value then Some (Some value) else None

-- the text of an optional option
abbrev pub text_of : List ℕ → List Setting → Option (Option (List ℕ))
text_of name given = text_for (value_of name given)

-- the text of a required option
abbrev pub required_text_for : Option (List ℕ) → Option (List ℕ)
required_text_for value = option_and_then (λ text. text) (text_for value)

abbrev pub required_text_of : List ℕ → List Setting → Option (List ℕ)
required_text_of name given = required_text_for (value_of name given)

-- A number is 1 to 10 decimal digits of ASCII, and may begin with zeros.
abbrev pub is_number : List ℕ → Bool
is_number value = nat_lt 0 (length value) && nat_le (length value) 10 && list_all is_ascii_digit value

abbrev pub number_of_digits : List ℕ → Option ℕ
number_of_digits value = if is_number value then Some (digits_value 10 value) else None

abbrev pub within : ℕ → ℕ → ℕ → Option ℕ
within least most number = if nat_le least number && nat_le number most then Some number else None

-- the number, if it is from `least` to `most`
abbrev pub number_in : ℕ → ℕ → List ℕ → Option ℕ
number_in least most value = option_and_then (within least most) (number_of_digits value)

abbrev pub number_for : ℕ → ℕ → ℕ → Option (List ℕ) → Option ℕ
number_for least most default None = Some default
number_for least most default (Some value) = number_in least most value

-- the number of an option, from `least` to `most`, or the default if the option is absent
abbrev pub number_of : List ℕ → ℕ → ℕ → ℕ → List Setting → Option ℕ
number_of name least most default given = number_for least most default (value_of name given)

-- what is reported; the value has to be there, and to be one of these words
abbrev pub kind_for : Option (List ℕ) → Option ReportKind
kind_for None = None
kind_for (Some value) =
    if bytes_eq value (codes "datasets") then Some Datasets
    else if bytes_eq value (codes "tables") then Some Tables
    else None

abbrev pub kind_of : List ℕ → List Setting → Option ReportKind
kind_of name given = kind_for (value_of name given)

-- who calls: the user of the name, or nobody where no name is given
abbrev pub caller_for : Option (List ℕ) → Caller
caller_for None = Anonymous
caller_for (Some name) = Named name

-- ---- commands

-- `play`: `--portal`
abbrev pub play_with : List Setting → Option Command
play_with given =
    if are_allowed (codes "portal" ∷ []) given
    then option_map (λ portal. Play (record { portal = portal })) (text_of (codes "portal") given)
    else None

-- `load`: `--portal`, and the required `--as`, `--resource` and `--schema`
abbrev pub load_with : List Setting → Option Command
load_with given =
    if are_allowed (codes "portal" ∷ codes "as" ∷ codes "resource" ∷ codes "schema" ∷ []) given
    then option_and_then (λ portal. option_and_then (λ caller. option_and_then (λ resource. option_map
    (λ schema. Load (record { portal = portal; caller = caller; resource = resource; schema = schema }))
    (required_text_of (codes "schema") given)) (required_text_of (codes "resource") given))
    (required_text_of (codes "as") given)) (text_of (codes "portal") given)
    else None

-- `--workers`, from 1 to 16, by default 4
abbrev pub workers_for : Option (List ℕ) → Option ℕ
workers_for value = number_for 1 16 4 value

-- `harvest`: `--portal`, the required `--as` and `--source`, and `--workers`
abbrev pub harvest_with : List Setting → Option Command
harvest_with given =
    if are_allowed (codes "portal" ∷ codes "as" ∷ codes "source" ∷ codes "workers" ∷ []) given
    then option_and_then (λ workers. option_and_then (λ portal. option_and_then (λ caller. option_map
    (λ source. Harvest (record { portal = portal; caller = caller; source = source; workers = workers }))
    (required_text_of (codes "source") given)) (required_text_of (codes "as") given)) (text_of (codes "portal") given))
    (workers_for (value_of (codes "workers") given))
    else None

-- the largest value of `--links`, which is also its default
abbrev pub most_links : ℕ
most_links = 1000000000

-- `serve`: `--portal`, and `--links` from 1 to 1,000,000,000, by default the largest
abbrev pub serve_with : List Setting → Option Command
serve_with given =
    if are_allowed (codes "portal" ∷ codes "links" ∷ []) given
    then option_and_then
    (λ portal. option_map (λ links. Serve (record { portal = portal; links = links }))
    (number_of (codes "links") 1 most_links most_links given))
    (text_of (codes "portal") given)
    else None

-- `report`: `--portal`, the required `--kind`, which is `datasets` or `tables`, and `--as`, by default nobody
abbrev pub report_with : List Setting → Option Command
report_with given =
    if are_allowed (codes "portal" ∷ codes "kind" ∷ codes "as" ∷ []) given
    then option_and_then (λ portal. option_and_then (λ kind. option_map
    (λ caller. Report (record { portal = portal; kind = kind; caller = caller_for caller }))
    (text_of (codes "as") given)) (kind_of (codes "kind") given)) (text_of (codes "portal") given)
    else None

-- A command with a round of harvests has 1 to 16 workers for it.
abbrev pub HasWorkers : Command → Type 0
HasWorkers (Play options) = ⊤
HasWorkers (Load options) = ⊤
HasWorkers (Harvest options) = (1 ≤ options.workers) × (options.workers ≤ 16)
HasWorkers (Serve options) = ⊤
HasWorkers (Report options) = ⊤

-- the command of this name with these options
abbrev pub command_with : List ℕ → List Setting → Option Command
command_with name given =
    if bytes_eq name (codes "play") then play_with given
    else if bytes_eq name (codes "load") then load_with given
    else if bytes_eq name (codes "harvest") then harvest_with given
    else if bytes_eq name (codes "serve") then serve_with given
    else if bytes_eq name (codes "report") then report_with given
    else None

-- The command that the words after the program's name are: the first word names it, and the others are its options.
abbrev pub command_of : List (List ℕ) → Option Command
command_of [] = None
command_of (name ∷ words) = option_and_then (command_with name) (options_in words)

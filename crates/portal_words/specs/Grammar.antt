-- The options in words.
--
--     words  = *option
--     option = "--" name "=" value      in one word; the first "=" ends the name
--            / "--" name, value         in two words, of which the second doesn't begin with "-"
use Rattle.std.specs.Prelude.{ℕ, ◌==◌, nat_eq, Bool, not, if◌then◌else◌, List, [], ◌∷◌, drop, codes, Option, Some}
use Rattle.std.specs.Prelude.{None, option_map}
use Rattle.std.specs.List.{list_any, starts_with, before_first, after_first}

-- an option with its value
pub record Setting : Type 0 where
  pub name : List ℕ
  pub value : List ℕ

abbrev pub setting : List ℕ → List ℕ → Setting
setting name value = record { name = name; value = value }

-- the word begins as an option does, with two dashes
abbrev pub is_option : List ℕ → Bool
is_option word = starts_with nat_eq word (codes "--")

-- the word can't be the second word of an option
abbrev pub begins_with_dash : List ℕ → Bool
begins_with_dash word = starts_with nat_eq word (codes "-")

abbrev pub is_equals : ℕ → Bool
is_equals c = c == 61

-- the value is in the same word
abbrev pub has_equals : List ℕ → Bool
has_equals text = list_any is_equals text

-- the option whose name and value are before and after the first "=" of the text
abbrev pub setting_in : List ℕ → Setting
setting_in text = setting (before_first is_equals text) (after_first is_equals text)

-- the options, after one more
abbrev pub with_setting : Setting → Option (List Setting) → Option (List Setting)
with_setting first more = option_map (λ others. first ∷ others) more

abbrev mutual
  -- the options in the words, or none if the words have another form
  pub options_in : List (List ℕ) → Option (List Setting)
  options_in [] = Some []
  options_in (word ∷ words) =
      if not (is_option word) then None
      else if has_equals (drop 2 word) then with_setting (setting_in (drop 2 word)) (options_in words)
      else options_after (drop 2 word) words

  -- the same where the first of the words is the value of the option of this name
  pub options_after : List ℕ → List (List ℕ) → Option (List Setting)
  options_after name [] = None
  options_after name (value ∷ words) =
      if begins_with_dash value then None else with_setting (setting name value) (options_in words)

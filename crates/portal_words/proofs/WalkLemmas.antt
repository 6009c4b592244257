-- `clap`'s walk over words reads the options that the definition reads, by induction on the words.
use Rattle.std.proofs.Common.{◌≡◌, ◌∙◌, ℕ, Bool, true, false, List, [], ◌∷◌, ◌++◌, refl, sym, ap, inl, inr}
use Rattle.std.proofs.Common.{Option, Some, None, cond, drop, append_assoc}
use Rattle.std.specs.Prelude.{fold, option_and_then}
use Rattle.std.specs.List.{after_first, before_first}
use Rattle.std.specs.Str.{IsUtf8}
use Rattle.std.proofs.lemmas.List.{append-nil}
use Rattle.clap.specs.Faults.{turn_fault, walk_fault}
use Rattle.clap.specs.Kinds.{Kinds}
use Rattle.clap.specs.Lexer.{name_and_value}
use Rattle.clap.specs.Walk.{Row, Walk, idle, option, walked}
use Rattle.portal_words.specs.Commands.{are_allowed, is_among}
use Rattle.portal_words.specs.Options.{is_dashes}
use Rattle.portal_words.specs.Grammar.{Setting, begins_with_dash, has_equals, is_equals, options_after, options_in}
use Rattle.portal_words.specs.Grammar.{setting, setting_in, with_setting}
use Rattle.portal_words.proofs.AllowedLemmas.{refused-more, refused-other}
use Rattle.portal_words.proofs.RuleLemmas.{built_rules, built_shape, rows_for}
use Rattle.portal_words.proofs.TurnLemmas.{IsLastAmong, at_option, at_rest, ended, ends-at-option, ends-at-rest}
use Rattle.portal_words.proofs.TurnLemmas.{option-begins, option-whole, pending_for, stray-word, turned}
use Rattle.portal_words.proofs.TurnLemmas.{unknown-letter, unknown-option}
use Rattle.portal_words.proofs.TurnLemmas.{unless, unless-or_else, value-missing, value-word, with_last}
use Rattle.portal_words.proofs.WordLemmas.{IsLong, before-none, each-word}

-- ---- the walk over words

-- the rows at the end of the walk, unless a word or its last option is a fault
unfoldable pub walked_rows : List (List ℕ) → Walk → List (List ℕ) → Option (List Row)
walked_rows names w words =
    unless (walk_fault (built_shape names) [] w words) (ended names (fold (walked (built_rules names) []) w words))

-- It goes on with the first word.
walk-turns : (names : List (List ℕ)) (w : Walk) (word : List ℕ) (words : List (List ℕ))
    → walked_rows names w (word ∷ words) ≡ option_and_then (λ v. walked_rows names v words) (turned names w word)
unfolding turned walked_rows walk_fault
walk-turns names w word words =
    unless-or_else (turn_fault (built_shape names) [] w word)
    (walk_fault (built_shape names) [] (walked (built_rules names) [] w word) words)
    (ended names (fold (walked (built_rules names) []) (walked (built_rules names) [] w word) words))
    ∙ go (turn_fault (built_shape names) [] w word)
  where
    go : (kinds : Kinds) → unless kinds (walked_rows names (walked (built_rules names) [] w word) words)
        ≡ option_and_then (λ v. walked_rows names v words) (unless kinds (Some (walked (built_rules names) [] w word)))
    go [] = refl
    go (k ∷ ks) = refl

-- ---- the definition

-- the rows of the options given and those read, if they are allowed together
abbrev pub allowed_rows : List (List ℕ) → List Setting → Option (List Setting) → Option (List Row)
allowed_rows names given None = None
allowed_rows names given (Some more) = cond (are_allowed names (given ++ more)) (Some (rows_for (given ++ more))) None

pub rows-with : (names : List (List ℕ)) (given : List Setting) (s : Setting) (parsed : Option (List Setting))
    → allowed_rows names given (with_setting s parsed) ≡ allowed_rows names (given ++ s ∷ []) parsed
rows-with names given s None = refl
rows-with names given s (Some more) =
    ap (λ all. cond (are_allowed names all) (Some (rows_for all)) None) (sym (append_assoc given (s ∷ []) more))

rows-refused : (names : List (List ℕ)) (given : List Setting) (parsed : Option (List Setting))
    → are_allowed names given ≡ false → allowed_rows names given parsed ≡ None
rows-refused names given None e = refl
rows-refused names given (Some more) e = rw (refused-more names given more e) refl

rows-other : (names : List (List ℕ)) (given : List Setting) (s : Setting) (parsed : Option (List Setting))
    → is_among names s.name ≡ false → allowed_rows names given (with_setting s parsed) ≡ None
rows-other names given s parsed e =
    rows-with names given s parsed ∙ rows-refused names (given ++ s ∷ []) parsed (refused-other names given s e)

pub rows-after-other : (names : List (List ℕ)) (given : List Setting) (name : List ℕ) (words : List (List ℕ))
    → is_among names name ≡ false → allowed_rows names given (options_after name words) ≡ None
rows-after-other names given name [] e = refl
rows-after-other names given name (word ∷ words) e = go (begins_with_dash word)
  where
    go : (b : Bool)
        → allowed_rows names given (cond b None (with_setting (setting name word) (options_in words))) ≡ None
    go true = refl
    go false = rows-other names given (setting name word) (options_in words) e

-- ---- the walk reads what the definition reads

record Agrees (names words : List (List ℕ)) : Type 0 where
  pub rest : (given : List Setting) (last : Option Setting) → are_allowed names given ≡ true → IsLastAmong names last
      → walked_rows names (at_rest given last) words ≡ allowed_rows names (with_last given last) (options_in words)
  pub waiting : (given : List Setting) (name : List ℕ) → are_allowed names given ≡ true → is_among names name ≡ true
      → walked_rows names (at_option given name) words ≡ allowed_rows names given (options_after name words)

no-words : (names : List (List ℕ)) → Agrees names []
unfolding walked_rows walk_fault
no-words names = record {
  rest = λ given last allowed among. ends-at-rest names given last allowed among
      ∙ ap (λ all. cond (are_allowed names all) (Some (rows_for all)) None) (sym (append-nil (with_last given last)));
  waiting = λ given name allowed among. ends-at-option names given name among;
}

module _ (names : List (List ℕ)) (word : List ℕ) (words : List (List ℕ)) (more : Agrees names words) where
  -- the walk after a first word that is no fault, or none
  abbrev then-walk : Option Walk → Option (List Row)
  then-walk = option_and_then (λ v. walked_rows names v words)

  long-whole : (given : List Setting) (last : Option Setting) → are_allowed names given ≡ true → IsLastAmong names last
      → IsLong word → has_equals (drop 2 word) ≡ true → (b : Bool)
      → is_among names (before_first is_equals (drop 2 word)) ≡ b
      → then-walk (turned names (at_rest given last) word)
      ≡ allowed_rows names (with_last given last) (with_setting (setting_in (drop 2 word)) (options_in words))
  long-whole given last allowed among l equals false other =
      ap then-walk (unknown-option names (at_rest given last).held idle word l other)
      ∙ sym (rows-other names (with_last given last) (setting_in (drop 2 word)) (options_in words) other)
  long-whole given last allowed among l equals true known =
      ap then-walk (option-whole names given last (before_first is_equals text) (after_first is_equals text) word
      allowed among l parts known)
      ∙ go (are_allowed names all) refl
      ∙ sym (rows-with names (with_last given last) (setting_in text) (options_in words))
    where
      text : List ℕ
      text = drop 2 word

      all : List Setting
      all = with_last given last ++ setting_in text ∷ []

      parts : name_and_value text ≡ (before_first is_equals text, Some (after_first is_equals text))
      parts = rw equals refl

      go : (b : Bool) → are_allowed names all ≡ b
          → then-walk (cond (are_allowed names all) (Some (at_rest all None)) None)
          ≡ allowed_rows names all (options_in words)
      go true e = rw e (more.rest all None e tt)
      go false e = rw e (sym (rows-refused names all (options_in words) e))

  long-begins : (given : List Setting) (last : Option Setting) → are_allowed names given ≡ true
      → IsLastAmong names last → IsLong word → has_equals (drop 2 word) ≡ false → (b : Bool)
      → is_among names (drop 2 word) ≡ b
      → then-walk (turned names (at_rest given last) word)
      ≡ allowed_rows names (with_last given last) (options_after (drop 2 word) words)
  long-begins given last allowed among l none false other =
      ap then-walk (unknown-option names (at_rest given last).held idle word l
      (ap (is_among names) (before-none (drop 2 word) none) ∙ other))
      ∙ sym (rows-after-other names (with_last given last) (drop 2 word) words other)
  long-begins given last allowed among l none true known =
      ap then-walk (option-begins names given last text word allowed among l parts known)
      ∙ go (are_allowed names (with_last given last)) refl
    where
      text : List ℕ
      text = drop 2 word

      parts : name_and_value text ≡ (text, None)
      parts = rw (before-none text none, none) refl

      go : (b : Bool) → are_allowed names (with_last given last) ≡ b
          → then-walk (cond (are_allowed names (with_last given last))
          (Some (at_option (with_last given last) text)) None)
          ≡ allowed_rows names (with_last given last) (options_after text words)
      go true e = rw e (more.waiting (with_last given last) text e known)
      go false e = rw e (sym (rows-refused names (with_last given last) (options_after text words) e))

  first-long : (given : List Setting) (last : Option Setting) → are_allowed names given ≡ true → IsLastAmong names last
      → IsLong word → then-walk (turned names (at_rest given last) word)
      ≡ allowed_rows names (with_last given last) (options_in (word ∷ words))
  first-long given last allowed among l = go (has_equals (drop 2 word)) refl
    where
      go : (b : Bool) → has_equals (drop 2 word) ≡ b → then-walk (turned names (at_rest given last) word)
          ≡ allowed_rows names (with_last given last) (options_in (word ∷ words))
      go true e = rw (l.option, e) (long-whole given last allowed among l e _ refl)
      go false e = rw (l.option, e) (long-begins given last allowed among l e _ refl)

  one-more : IsUtf8 word → is_dashes word ≡ false → Agrees names (word ∷ words)
  one-more text dashes = record {
    rest = λ given last allowed among. walk-turns names (at_rest given last) word words
        ∙ elim (each-word word text dashes) [
          | inl l ↦ first-long given last allowed among l
          | inr (inl s) ↦ ap then-walk (unknown-letter names given (pending_for last) idle word s) ∙ rw s.option refl
          | inr (inr p) ↦ ap then-walk (stray-word names (at_rest given last).held word p) ∙ rw p.option refl
        ];
    waiting = λ given name allowed among. walk-turns names (at_option given name) word words
        ∙ elim (each-word word text dashes) [
          | inl l ↦ ap then-walk (value-missing names given name word l among) ∙ rw l.dash refl
          | inr (inl s) ↦ ap then-walk (unknown-letter names given (Some (name, [])) (option name) word s)
              ∙ rw s.dash refl
          | inr (inr p) ↦ ap then-walk (value-word names given name word p among)
              ∙ more.rest given (Some (setting name word)) allowed among
              ∙ sym (rows-with names given (setting name word) (options_in words)) ∙ rw p.dash refl
        ];
  }

-- the words are texts, and none is dashes only
abbrev pub AreWords : List (List ℕ) → Type 0
AreWords [] = Unit {0}
AreWords (word ∷ words) = IsUtf8 word × (is_dashes word ≡ false) × AreWords words

agrees : (names words : List (List ℕ)) → AreWords words → Agrees names words
agrees names [] sound = no-words names
agrees names (word ∷ words) sound = one-more names word words (agrees names words sound.2) sound.0 sound.1

-- From the start the walk reads the options in the words.
pub walk-reads : (names words : List (List ℕ)) → AreWords words
    → walked_rows names (at_rest [] None) words ≡ allowed_rows names [] (options_in words)
walk-reads names words sound = (agrees names words sound).rest [] None refl tt

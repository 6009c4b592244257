-- What one word does to `clap`'s walk over the words of a command whose options take a value each.
use Rattle.std.proofs.Common.{◌≡◌, ◌∙◌, ℕ, Bool, true, false, not, ◌&&◌, List, [], ◌∷◌, ◌++◌, refl, sym, ap}
use Rattle.std.proofs.Common.{Option, Some, None, cond, drop, option_map}
use Rattle.std.specs.Str.{bytes_eq}
use Rattle.clap.specs.Faults.{flags_fault, settle_fault, turn_fault}
use Rattle.clap.specs.Kinds.{Kinds, or_else}
use Rattle.clap.specs.Lexer.{name_and_value}
use Rattle.clap.specs.Walk.{Held, Row, Waiting, Walk, idle, option, positional, settled, settled_rows}
use Rattle.clap.specs.Walk.{subcommand_met, walked}
use Rattle.std.proofs.lemmas.Slice.Eq.{bytes_eq-Decides}
use Rattle.portal_words.specs.Commands.{are_allowed, is_among}
use Rattle.portal_words.specs.Grammar.{Setting, setting}
use Rattle.portal_words.proofs.AllowedLemmas.{allowed-last, is_given}
use Rattle.portal_words.proofs.RuleLemmas.{built_rules, built_shape, fault_if, none-by-index, none-by-short}
use Rattle.portal_words.proofs.RuleLemmas.{option-by-id, option-by-long, option-fault, rows_for, used-option}
use Rattle.portal_words.proofs.WordLemmas.{IsLong, IsPlainWord, IsShort}

-- ---- answers where nothing is at fault

abbrev pub unless : {X : Type 0} → Kinds → Option X → Option X
unless [] x = x
unless (k ∷ ks) x = None

pub unless-or_else : {X : Type 0} (first second : Kinds) (x : Option X)
    → unless (or_else first second) x ≡ unless first (unless second x)
unless-or_else [] second x = refl
unless-or_else (k ∷ ks) second x = refl

-- ---- the state of the walk between two words

abbrev held_with : List Setting → Option (List ℕ × List (List ℕ)) → Held
held_with given pending = record { rows = rows_for given; pending = pending; skip = 0 }

abbrev walk_with : Held → Waiting → Walk
walk_with held waiting = record { held = held; waiting = waiting; position = 1; is_trailing = false; stopped = None }

-- the option that was read last, which the next word decides
abbrev pub pending_for : Option Setting → Option (List ℕ × List (List ℕ))
pending_for last = option_map (λ s. (s.name, s.value ∷ [])) last

abbrev pub with_last : List Setting → Option Setting → List Setting
with_last given None = given
with_last given (Some s) = given ++ s ∷ []

-- no option waits for its value
abbrev pub at_rest : List Setting → Option Setting → Walk
at_rest given last = walk_with (held_with given (pending_for last)) idle

-- the option of this name does
abbrev pub at_option : List Setting → List ℕ → Walk
at_option given name = walk_with (held_with given (Some (name, []))) (option name)

-- the walk after one more word, unless that is a fault
unfoldable pub turned : List (List ℕ) → Walk → List ℕ → Option Walk
turned names w word = unless (turn_fault (built_shape names) [] w word) (Some (walked (built_rules names) [] w word))

-- ---- deciding the option that was read last

abbrev pub IsLastAmong : List (List ℕ) → Option Setting → Type 0
IsLastAmong names None = Unit {0}
IsLastAmong names (Some s) = is_among names s.name ≡ true

-- It is a fault exactly if the options with it aren't allowed.
settled-fault : (names : List (List ℕ)) (given : List Setting) (last : Option Setting)
    → are_allowed names given ≡ true → IsLastAmong names last
    → settle_fault (built_rules names) false (held_with given (pending_for last))
    ≡ fault_if (not (are_allowed names (with_last given last)))
settled-fault names given None allowed among = rw allowed refl
settled-fault names given (Some s) allowed among =
    rw (option-by-id names s.name, among) (option-fault s given
    ∙ ap fault_if (sym (ap not (allowed-last names given s) ∙ go (is_given s.name given))))
  where
    go : (b : Bool) → not (are_allowed names given && (is_among names s.name && not b)) ≡ b
    go true = rw (allowed, among) refl
    go false = rw (allowed, among) refl

settled-rows : (names : List (List ℕ)) (given : List Setting) (last : Option Setting)
    → IsLastAmong names last → are_allowed names (with_last given last) ≡ true
    → settled_rows (built_rules names) (pending_for last) (rows_for given) ≡ rows_for (with_last given last)
settled-rows names given None among allowed = refl
settled-rows names given (Some s) among allowed =
    rw (option-by-id names s.name, among) (used-option s given (fresh (are_allowed names given) (is_among names s.name)
    (is_given s.name given) (sym (allowed-last names given s) ∙ allowed)))
  where
    fresh : (a b g : Bool) → (a && (b && not g)) ≡ true → g ≡ false
    fresh a b false e = refl
    fresh true true true e = absurd (cc)
    fresh true false true e = absurd (cc)
    fresh false b true e = absurd (cc)

-- ---- one word

no-subcommand : (waiting : Waiting) (word : List ℕ) → subcommand_met [] waiting word ≡ None
no-subcommand idle word = refl
no-subcommand (option id) word = refl
no-subcommand positional word = refl

alike-itself : (text : List ℕ) → bytes_eq text text ≡ true
alike-itself text = (bytes_eq-Decides text text).1 refl

-- An unknown option is a fault.
pub unknown-option : (names : List (List ℕ)) (h : Held) (waiting : Waiting) (word : List ℕ) → IsLong word
    → is_among names (name_and_value (drop 2 word)).0 ≡ false → turned names (walk_with h waiting) word ≡ None
unfolding turned
unknown-option names h waiting word l other =
    rw (no-subcommand waiting word, l.other, l.long, option-by-long names (name_and_value (drop 2 word)).0, other) refl

-- So is a letter.
pub unknown-letter : (names : List (List ℕ)) (given : List Setting) (pending : Option (List ℕ × List (List ℕ)))
    (waiting : Waiting) (word : List ℕ) → IsShort word
    → turned names (walk_with (held_with given pending) waiting) word ≡ None
unfolding turned flags_fault
unknown-letter names given pending waiting word s =
    rw (no-subcommand waiting word, s.other, s.long, s.short, s.counted, s.begins, none-by-short names s.first) refl

-- So is a word that is no option, where no option waits for its value.
pub stray-word : (names : List (List ℕ)) (h : Held) (word : List ℕ) → IsPlainWord word
    → turned names (walk_with h idle) word ≡ None
unfolding turned
stray-word names h word p = rw (p.other, p.long, p.short, none-by-index names 1) refl

-- Where one does, the word is the value.
pub value-word : (names : List (List ℕ)) (given : List Setting) (name word : List ℕ) → IsPlainWord word
    → is_among names name ≡ true
    → turned names (at_option given name) word ≡ Some (at_rest given (Some (setting name word)))
unfolding turned walked
value-word names given name word p among =
    rw (p.other, p.long, p.short, option-by-id names name, among, alike-itself name) refl

-- An option can't be a value.
pub value-missing : (names : List (List ℕ)) (given : List Setting) (name word : List ℕ) → IsLong word
    → is_among names name ≡ true → turned names (at_option given name) word ≡ None
unfolding turned
value-missing names given name word l among = go (is_among names parts.0) refl parts.1 refl
  where
    parts : List ℕ × Option (List ℕ)
    parts = name_and_value (drop 2 word)

    go : (b : Bool) → is_among names parts.0 ≡ b → (v : Option (List ℕ)) → parts.1 ≡ v
        → turned names (at_option given name) word ≡ None
    go false other v e = unknown-option names (at_option given name).held (option name) word l other
    go true known (Some v) e =
        rw (l.other, l.long, option-by-long names parts.0, known, e, option-by-id names name, among) refl
    go true known None e =
        rw (l.other, l.long, option-by-long names parts.0, known, e, option-by-id names name, among) refl

-- ---- an option, where none waits for its value

-- In two words it is a fault where what was read before isn't allowed.
pub option-begins : (names : List (List ℕ)) (given : List Setting) (last : Option Setting) (name word : List ℕ)
    → are_allowed names given ≡ true → IsLastAmong names last → IsLong word
    → name_and_value (drop 2 word) ≡ (name, None) → is_among names name ≡ true
    → turned names (at_rest given last) word
    ≡ cond (are_allowed names (with_last given last)) (Some (at_option (with_last given last) name)) None
unfolding turned walked
option-begins names given last name word allowed among l parts known =
    go (are_allowed names (with_last given last)) refl
  where
    go : (b : Bool) → are_allowed names (with_last given last) ≡ b
        → turned names (at_rest given last) word
        ≡ cond (are_allowed names (with_last given last)) (Some (at_option (with_last given last) name)) None
    go true e =
        rw (
          l.other,
          l.long ∙ ap Some parts,
          option-by-long names name,
          known,
          settled-fault names given last allowed among,
          e,
          settled-rows names given last among e,
        ) refl
    go false e =
        rw (
          l.other,
          l.long ∙ ap Some parts,
          option-by-long names name,
          known,
          settled-fault names given last allowed among,
          e,
        ) refl

-- In one word it is one where the options aren't allowed with it.
pub option-whole : (names : List (List ℕ)) (given : List Setting) (last : Option Setting) (name value word : List ℕ)
    → are_allowed names given ≡ true → IsLastAmong names last → IsLong word
    → name_and_value (drop 2 word) ≡ (name, Some value) → is_among names name ≡ true
    → turned names (at_rest given last) word
    ≡ cond (are_allowed names (with_last given last ++ setting name value ∷ []))
    (Some (at_rest (with_last given last ++ setting name value ∷ []) None)) None
unfolding turned walked
option-whole names given last name value word allowed among l parts known =
    go (are_allowed names (with_last given last)) refl (is_given name (with_last given last)) refl
  where
    now : List Setting
    now = with_last given last

    with_it : (a g : Bool) → are_allowed names now ≡ a → is_given name now ≡ g
        → are_allowed names (now ++ setting name value ∷ []) ≡ (a && not g)
    with_it a g e f = rw (allowed-last names now (setting name value), known, e, f) refl

    go : (a : Bool) → are_allowed names (with_last given last) ≡ a
        → (g : Bool) → is_given name (with_last given last) ≡ g
        → turned names (at_rest given last) word
        ≡ cond (are_allowed names (with_last given last ++ setting name value ∷ []))
        (Some (at_rest (with_last given last ++ setting name value ∷ []) None)) None
    go true e true f =
        rw (
          with_it true true e f,
          l.other,
          l.long ∙ ap Some parts,
          option-by-long names name,
          known,
          settled-fault names given last allowed among,
          e,
          settled-rows names given last among e,
          option-fault (setting name value) (with_last given last),
          f,
        ) refl
    go true e false f =
        rw (
          with_it true false e f,
          l.other,
          l.long ∙ ap Some parts,
          option-by-long names name,
          known,
          settled-fault names given last allowed among,
          e,
          settled-rows names given last among e,
          option-fault (setting name value) (with_last given last),
          f,
          used-option (setting name value) (with_last given last) f,
        ) refl
    go false e g f =
        rw (
          with_it false g e f,
          l.other,
          l.long ∙ ap Some parts,
          option-by-long names name,
          known,
          settled-fault names given last allowed among,
          e,
        ) refl

-- ---- the end

-- the rows at the end of a walk, unless its last option is a fault
abbrev pub ended : List (List ℕ) → Walk → Option (List Row)
ended names w = unless (settle_fault (built_rules names) false w.held) (Some (settled (built_rules names) w.held).rows)

pub ends-at-rest : (names : List (List ℕ)) (given : List Setting) (last : Option Setting)
    → are_allowed names given ≡ true → IsLastAmong names last
    → ended names (at_rest given last)
    ≡ cond (are_allowed names (with_last given last)) (Some (rows_for (with_last given last))) None
ends-at-rest names given last allowed among = go (are_allowed names (with_last given last)) refl
  where
    go : (b : Bool) → are_allowed names (with_last given last) ≡ b
        → ended names (at_rest given last)
        ≡ cond (are_allowed names (with_last given last)) (Some (rows_for (with_last given last))) None
    go true e =
        rw (settled-fault names given last allowed among, e, settled-rows names given last among e) refl
    go false e = rw (settled-fault names given last allowed among, e) refl

-- An option whose value is missing is one.
pub ends-at-option : (names : List (List ℕ)) (given : List Setting) (name : List ℕ) → is_among names name ≡ true
    → ended names (at_option given name) ≡ None
ends-at-option names given name among = rw (option-by-id names name, among) refl

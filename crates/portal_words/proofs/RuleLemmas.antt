-- The rules of options that are built, and the rows that `clap` keeps of options that were read.
use Rattle.std.proofs.Common.{◌≡◌, ◌∙◌, ℕ, Bool, true, false, not, ◌&&◌, ◌||◌, List, [], ◌∷◌, ◌++◌, map, refl, sym, ap}
use Rattle.std.proofs.Common.{append_assoc, Some, None, cond}
use Rattle.std.specs.Prelude.{fold, find, if◌then◌else◌}
use Rattle.std.specs.List.{list_any}
use Rattle.std.specs.Str.{bytes_eq}
use Rattle.std.proofs.lemmas.List.{append-nil}
use Rattle.std.proofs.lemmas.Slice.Eq.{bytes_eq-Decides}
use Rattle.clap.specs.Walk.{Row, Rule, arg_by_id, arg_by_index, arg_by_long, arg_by_short, used, with_values, without}
use Rattle.clap.specs.Walk.{first_of, has_row, with_default}
use Rattle.clap.specs.Simple.{App, Shape, built, filled_from}
use Rattle.clap.specs.Takes.{is_given as is_given_row}
use Rattle.clap.specs.Faults.{use_fault, defaults_fault}
use Rattle.clap.specs.Kinds.{Kinds, or_else}
use Rattle.clap.specs.declared.builder.value_parser.Reading.TheVariants.{AsWritten}
use Rattle.clap.specs.declared.builder.value_parser.ValueParser.TheVariants as vp
use Rattle.clap.specs.declared.error.kind.ErrorKind.TheVariants as kind
use Rattle.clap.specs.declared.parser.matches.ValueSource.TheVariants.{CommandLine}
use Rattle.portal_words.specs.Commands.{is_among, value_of}
use Rattle.portal_words.specs.Options.{app_with, base_app, option_rule, with_option}
use Rattle.portal_words.specs.Grammar.{Setting}
use Rattle.portal_words.proofs.AllowedLemmas.{is_given}

-- ---- what building makes of options

abbrev pub built_rule : List ℕ → Rule
built_rule name = record (option_rule name) {
  range = Some (record { start_inclusive = 1; end_inclusive = 1 });
  parser = Some vp.String;
}

abbrev pub built_rules : List (List ℕ) → List Rule
built_rules names = map built_rule names

abbrev pub app_of_rules : List Rule → App
app_of_rules rules = record base_app { top = record base_app.top { rules = rules } }

abbrev pub built_shape : List (List ℕ) → Shape
built_shape names = record (built base_app).top { rules = built_rules names }

options-added : (rules : List Rule) (names : List (List ℕ))
    → fold with_option (app_of_rules rules) names ≡ app_of_rules (rules ++ map option_rule names)
options-added rules [] = ap app_of_rules (sym (append-nil rules))
options-added rules (n ∷ names) =
    options-added (rules ++ option_rule n ∷ []) names
    ∙ ap app_of_rules (append_assoc rules (option_rule n ∷ []) (map option_rule names))

pub app_with-rules : (names : List (List ℕ)) → app_with names ≡ app_of_rules (map option_rule names)
app_with-rules names = options-added [] names

filled-options : (names : List (List ℕ)) → filled_from 1 (map option_rule names) ≡ built_rules names
filled-options [] = refl
filled-options (n ∷ names) = ap (λ rest. built_rule n ∷ rest) (filled-options names)

pub built-options : (names : List (List ℕ))
    → built (app_of_rules (map option_rule names)) ≡ record { top = built_shape names; subs = [] }
built-options names =
    ap (λ rules. record { top = record (built base_app).top { rules = rules }; subs = [] }) (filled-options names)

-- ---- look-ups among the rules

-- An option is found where its name is among the names.
found-option : (names : List (List ℕ)) (name : List ℕ)
    → find (λ a. bytes_eq a.id name) (built_rules names) ≡ cond (is_among names name) (Some (built_rule name)) None
found-option [] name = refl
found-option (n ∷ names) name = go (bytes_eq n name) refl (found-option names name)
  where
    go : (b : Bool) → bytes_eq n name ≡ b
        → find (λ a. bytes_eq a.id name) (built_rules names) ≡ cond (is_among names name) (Some (built_rule name)) None
        → cond (bytes_eq n name) (Some (built_rule n)) (find (λ a. bytes_eq a.id name) (built_rules names))
        ≡ cond (bytes_eq n name || is_among names name) (Some (built_rule name)) None
    go true e rest = rw e (ap (λ m. Some (built_rule m)) ((bytes_eq-Decides n name).0 e))
    go false e rest = rw e rest

pub option-by-id : (names : List (List ℕ)) (name : List ℕ)
    → arg_by_id (built_rules names) name ≡ cond (is_among names name) (Some (built_rule name)) None
option-by-id names name = found-option names name

pub option-by-long : (names : List (List ℕ)) (name : List ℕ)
    → arg_by_long (built_rules names) name ≡ cond (is_among names name) (Some (built_rule name)) None
option-by-long [] name = refl
option-by-long (n ∷ names) name = go (bytes_eq n name) refl (option-by-long names name)
  where
    go : (b : Bool) → bytes_eq n name ≡ b
        → arg_by_long (built_rules names) name ≡ cond (is_among names name) (Some (built_rule name)) None
        → cond (bytes_eq n name || false) (Some (built_rule n)) (arg_by_long (built_rules names) name)
        ≡ cond (bytes_eq n name || is_among names name) (Some (built_rule name)) None
    go true e rest = rw e (ap (λ m. Some (built_rule m)) ((bytes_eq-Decides n name).0 e))
    go false e rest = rw e rest

-- No option has one letter, and none is known by its position.
pub none-by-short : (names : List (List ℕ)) (x : ℕ) → arg_by_short (built_rules names) x ≡ None
none-by-short [] x = refl
none-by-short (n ∷ names) x = none-by-short names x

pub none-by-index : (names : List (List ℕ)) (i : ℕ) → arg_by_index (built_rules names) i ≡ None
none-by-index [] i = refl
none-by-index (n ∷ names) i = none-by-index names i

-- ---- rows

abbrev row_for : Setting → Row
row_for s = record {
  id = s.name;
  values = s.value ∷ [];
  count = None;
  source = Some CommandLine;
  reading = AsWritten;
}

abbrev pub rows_for : List Setting → List Row
rows_for given = map row_for given

given-row : (name : List ℕ) (given : List Setting) → has_row name (rows_for given) ≡ is_given name given
given-row name [] = refl
given-row name (s ∷ given) = ap (λ b. bytes_eq s.name name || b) (given-row name given)

-- The first value of an id is that of the option.
pub first-row : (name : List ℕ) (given : List Setting) → first_of name (rows_for given) ≡ value_of name given
first-row name [] = refl
first-row name (s ∷ given) = go (bytes_eq s.name name) refl (first-row name given)
  where
    go : (b : Bool) → bytes_eq s.name name ≡ b → first_of name (rows_for given) ≡ value_of name given
        → first_of name (rows_for (s ∷ given)) ≡ value_of name (s ∷ given)
    go true e rest = rw e refl
    go false e rest = rw e rest

-- A use of an option that wasn't given adds its row.
without-other : (s : Setting) (given : List Setting) → is_given s.name given ≡ false
    → without s.name (rows_for given) ≡ rows_for given
without-other s [] e = refl
without-other s (x ∷ given) e = go (bytes_eq x.name s.name) refl e (without-other s given)
  where
    go : (b : Bool) → bytes_eq x.name s.name ≡ b → (b || is_given s.name given) ≡ false
        → (is_given s.name given ≡ false → without s.name (rows_for given) ≡ rows_for given)
        → without s.name (rows_for (x ∷ given)) ≡ rows_for (x ∷ given)
    go true same f rest = absurd (cc)
    go false same f rest = rw same (ap (λ rows. row_for x ∷ rows) (rest f))

added-row : (s : Setting) (given : List Setting) → is_given s.name given ≡ false
    → with_values s.name AsWritten CommandLine (s.value ∷ []) (rows_for given) ≡ rows_for (given ++ s ∷ [])
added-row s [] e = refl
added-row s (x ∷ given) e = go (bytes_eq x.name s.name) refl e (added-row s given)
  where
    go : (b : Bool) → bytes_eq x.name s.name ≡ b → (b || is_given s.name given) ≡ false
        → (is_given s.name given ≡ false
        → with_values s.name AsWritten CommandLine (s.value ∷ []) (rows_for given) ≡ rows_for (given ++ s ∷ []))
        → with_values s.name AsWritten CommandLine (s.value ∷ []) (rows_for (x ∷ given))
        ≡ rows_for ((x ∷ given) ++ s ∷ [])
    go true same f rest = absurd (cc)
    go false same f rest = rw same (ap (λ rows. row_for x ∷ rows) (rest f))

pub used-option : (s : Setting) (given : List Setting) → is_given s.name given ≡ false
    → used (built_rule s.name) (s.value ∷ []) (rows_for given) ≡ rows_for (given ++ s ∷ [])
used-option s given e =
    ap (with_values s.name AsWritten CommandLine (s.value ∷ [])) (without-other s given e) ∙ added-row s given e

-- A use of an option is a fault where it was given before, and else none.
abbrev pub fault_if : Bool → Kinds
fault_if given = if given then kind.ArgumentConflict ∷ [] else []

pub option-fault : (s : Setting) (given : List Setting)
    → use_fault false (built_rule s.name) (s.value ∷ []) (rows_for given) ≡ fault_if (is_given s.name given)
option-fault s given = rw (given-row s.name given) (go (is_given s.name given))
  where
    go : (b : Bool) → or_else (cond (b && true) (kind.ArgumentConflict ∷ []) []) [] ≡ fault_if b
    go true = refl
    go false = refl

-- ---- at the end

-- No option has a default, and none is required.
pub defaults-none : (names : List (List ℕ)) (rows : List Row) → fold with_default rows (built_rules names) ≡ rows
defaults-none [] rows = refl
defaults-none (n ∷ names) rows = go (has_row n rows) (defaults-none names rows)
  where
    go : (b : Bool) → fold with_default rows (built_rules names) ≡ rows
        → fold with_default (if b then rows else rows) (built_rules names) ≡ rows
    go true rest = rest
    go false rest = rest

pub defaults-right : (names : List (List ℕ)) (rows : List Row) → defaults_fault rows (built_rules names) ≡ []
unfolding defaults_fault
defaults-right [] rows = refl
defaults-right (n ∷ names) rows = go (has_row n rows) (defaults-right names rows)
  where
    go : (b : Bool) → defaults_fault rows (built_rules names) ≡ []
        → or_else (cond (b || true) [] []) (defaults_fault (if b then rows else rows) (built_rules names)) ≡ []
    go true rest = rest
    go false rest = rest

pub required-none : (names : List (List ℕ)) (rows : List Row)
    → list_any (λ a. a.required && not (is_given_row a.id rows)) (built_rules names) ≡ false
required-none [] rows = refl
required-none (n ∷ names) rows = required-none names rows

-- For a command whose options take one value each, the result of `clap` is the one that the definition of options
-- gives.
use Rattle.std.proofs.Common.{◌≡◌, ◌∙◌, inl, inr, ℕ, Bool, true, false, not, ◌&&◌, ◌||◌, List, [], ◌∷◌, ◌++◌}
use Rattle.std.proofs.Common.{map, drop}
use Rattle.std.proofs.Common.{refl, sym, ap, cond, Option, Some, None, is_some, Result, Ok, Err, subst}
use Rattle.std.proofs.Common.{Global, String, string_bytes}
use Rattle.std.specs.Prelude.{IsErrAnd, IsErrOf}
use Rattle.std.proofs.lemmas.Str.{IsUtf8-string_bytes}
use Rattle.std.specs.Prelude.{codes, count_by, fold, unwrap_or}
use Rattle.std.specs.List.{list_all, list_any}
use Rattle.std.specs.Str.{bytes_eq}
use Rattle.std.proofs.lemmas.Slice.Eq.{bytes_eq-Decides}
use Rattle.clap.specs.Faults.{built_fault, check_fault, defaults_fault, entered_fault, fault_of, is_free_app}
use Rattle.clap.specs.Faults.{is_simple_and_free}
use Rattle.clap.specs.Faults.{settle_fault, walk_fault}
use Rattle.clap.specs.Kinds.{Kinds, HasKind, IsAmong, or_else}
use Rattle.clap.specs.Matches.{first_value, found_of}
use Rattle.clap.specs.Simple.{App, argument_words, built, entered, is_buildable, is_ready, is_ready_leaf}
use Rattle.clap.specs.Simple.{is_simple, matches_of, names_of}
use Rattle.clap.specs.Simple.{HasMatchesOf}
use Rattle.clap.specs.Values.{kind_of}
use Rattle.clap.specs.declared.error.Error.{Error}
use Rattle.portal_words.specs.declared.command.WordsFault.{WordsFault}
use Rattle.portal_words.specs.declared.command.WordsFault.TheVariants.{BadWords, OutOfMemory}
use Rattle.clap.specs.Walk.{Row, Rule, Walk, finished, first_of, is_early_multiple, nothing_held, rows_of, settled}
use Rattle.clap.specs.Walk.{rows_after, walked}
use Rattle.clap.specs.declared.error.kind.ErrorKind.{ErrorKind}
use Rattle.clap.specs.declared.parser.matches.ArgMatches.{ArgMatches}
use Rattle.clap.proofs.WalkLemmas.{first_value-rows}
use Rattle.portal_words.specs.Commands.{are_allowed, is_among, value_of}
use Rattle.portal_words.specs.Options.{HaveOtherOptions, MatchesOptions, app_with, fault_for, is_dashes, option_rule}
use Rattle.portal_words.specs.Grammar.{Setting, begins_with_dash, has_equals, is_option, options_after, options_in}
use Rattle.portal_words.specs.Grammar.{setting, setting_in, with_setting}
use Rattle.portal_words.proofs.RuleLemmas.{app_of_rules, app_with-rules, built-options, built_rule, built_rules}
use Rattle.portal_words.proofs.RuleLemmas.{built_shape}
use Rattle.portal_words.proofs.RuleLemmas.{defaults-none, defaults-right, first-row, required-none, rows_for}
use Rattle.portal_words.proofs.TurnLemmas.{at_rest, unless}
use Rattle.portal_words.proofs.WalkLemmas.{AreWords, allowed_rows, rows-after-other, rows-with, walk-reads}
use Rattle.portal_words.proofs.WalkLemmas.{walked_rows}

-- ---- the command has the form of which `clap` states all

module _ (test : Rule → Bool) (rule : List ℕ → Rule) (each : (name : List ℕ) → test (rule name) ≡ true) where
  all-rules : (names : List (List ℕ)) → list_all test (map rule names) ≡ true
  all-rules [] = refl
  all-rules (n ∷ names) = rw (each n) (all-rules names)

none-early : (n : ℕ) (names : List (List ℕ)) → list_any (is_early_multiple n) (built_rules names) ≡ false
none-early n [] = refl
none-early n (name ∷ names) = none-early n names

simple-once-built : (a b : App) → built a ≡ b → is_buildable a ≡ true
    → (is_ready b.top && list_all is_ready_leaf b.subs) ≡ true → is_simple a ≡ true
simple-once-built a b is buildable ready =
    ap (λ t. t && (is_ready (built a).top && list_all is_ready_leaf (built a).subs)) buildable
    ∙ ap (λ (c : App). is_ready c.top && list_all is_ready_leaf c.subs) is ∙ ready

options-buildable : (names : List (List ℕ)) → is_buildable (app_of_rules (map option_rule names)) ≡ true
options-buildable names = rw (all-rules (λ a. a.is_simple) option_rule (λ _. refl) names) refl

options-ready : (names : List (List ℕ)) → is_ready (built_shape names) ≡ true
options-ready names =
    rw (
      all-rules (λ a. a.is_simple) built_rule (λ _. refl) names,
      none-early (count_by (λ a. is_some a.index) (built_rules names)) names,
    ) refl

is-simple : (names : List (List ℕ)) → is_simple (app_with names) ≡ true
is-simple names =
    ap is_simple (app_with-rules names)
    ∙ simple-once-built (app_of_rules (map option_rule names)) (record { top = built_shape names; subs = [] })
    (built-options names) (options-buildable names) (ap (λ b. b && true) (options-ready names))

is-free : (names : List (List ℕ)) → is_simple_and_free (app_with names) ≡ true
is-free names =
    ap (λ b. b && is_free_app (built (app_with names))) (is-simple names)
    ∙ ap (λ a. is_free_app (built a)) (app_with-rules names) ∙ ap is_free_app (built-options names)
    ∙ ap (λ b. b && true) (all-rules (λ a. a.is_free) built_rule (λ _. refl) names)

-- ---- the result of `clap`

no-subcommand : (names : List (List ℕ)) (stop : Option (List ℕ × List (List ℕ)))
    → is_some (entered (record { top = built_shape names; subs = [] }) stop) ≡ false
no-subcommand names None = refl
no-subcommand names (Some p) = refl

no-fault-below : (names : List (List ℕ)) (stop : Option (List ℕ × List (List ℕ)))
    → entered_fault (record { top = built_shape names; subs = [] }) stop ≡ []
no-fault-below names None = refl
no-fault-below names (Some p) = refl

no-check : (names : List (List ℕ)) (rows : List Row) → check_fault (built_shape names) rows false ≡ []
no-check names rows = rw (required-none names rows) refl

level-unless : {X : Type 0} (words below last defaults checks : Kinds) (x y : Option X) → below ≡ [] → defaults ≡ []
    → checks ≡ [] → x ≡ y
    → unless (or_else words (or_else below (or_else last (or_else defaults checks)))) x ≡ unless words (unless last y)
level-unless words below last defaults checks x y b d c e = rw (b, d, c, e) (go words last)
  where
    go : (w l : Kinds) → unless (or_else w (or_else l [])) y ≡ unless w (unless l y)
    go [] [] = refl
    go [] (k ∷ ks) = refl
    go (k ∷ ks) l = refl

-- the matches of a built command, unless something is at fault
abbrev matched_rows_by : App → List (List ℕ) → Option (List Row)
matched_rows_by built words =
    unless (built_fault built nothing_held words) (Some (rows_after built.top.rules (names_of built) words))

abbrev pub matched_rows : List (List ℕ) → List (List ℕ) → Option (List Row)
matched_rows names words = unless (fault_of (app_with names) words) (Some (matches_of (app_with names) words))

matched_rows-by-level : (names words : List (List ℕ))
    → matched_rows_by (record { top = built_shape names; subs = [] }) words ≡ walked_rows names (at_rest [] None) words
unfolding walked_rows
matched_rows-by-level names words =
    let top : App = record { top = built_shape names; subs = [] } in
    let end : Walk = fold (walked (built_rules names) []) (at_rest [] None) words in
    let rows : List Row = (settled (built_rules names) end.held).rows in
    level-unless (walk_fault (built_shape names) [] (at_rest [] None) words) (entered_fault top end.stopped)
    (settle_fault (built_rules names) false end.held) (defaults_fault rows (built_rules names))
    (check_fault (built_shape names) (finished (built_rules names) end.held) (is_some (entered top end.stopped)))
    (Some (finished (built_rules names) end.held)) (Some rows)
    (no-fault-below names end.stopped) (defaults-right names rows)
    (ap (check_fault (built_shape names) (finished (built_rules names) end.held)) (no-subcommand names end.stopped)
    ∙ no-check names (finished (built_rules names) end.held))
    (ap Some (defaults-none names rows))

matched_rows-by-walk : (names words : List (List ℕ)) → matched_rows names words ≡ walked_rows names
    (at_rest [] None) words
matched_rows-by-walk names words =
    ap (λ a. matched_rows_by (built a) (argument_words a words)) (app_with-rules names)
    ∙ ap (λ b. matched_rows_by b words) (built-options names) ∙ matched_rows-by-level names words

matched_rows-parsed : (names words : List (List ℕ)) → AreWords words
    → matched_rows names words ≡ allowed_rows names [] (options_in words)
matched_rows-parsed names words sound = matched_rows-by-walk names words ∙ walk-reads names words sound

-- ---- what the result says of the words

-- If it returns matches, they are those of the options.
matches-have : (names words : List (List ℕ)) (m : ArgMatches) → AreWords words
    → fault_of (app_with names) words ≡ [] → rows_of (found_of m) ≡ matches_of (app_with names) words
    → MatchesOptions names words m
matches-have names words m sound free rows =
    go (options_in words) refl (sym (matched_rows-parsed names words sound) ∙ rw free (ap Some (sym rows)))
  where
    values : (given : List Setting) → rows_for given ≡ rows_of (found_of m) → (name : List ℕ)
        → first_value (found_of m) name ≡ value_of name given
    values given same name =
        first_value-rows (found_of m) name ∙ ap (first_of name) (sym same) ∙ first-row name given

    allowed : (given : List Setting) (b : Bool) → options_in words ≡ Some given → are_allowed names given ≡ b
        → cond (are_allowed names given) (Some (rows_for given)) None ≡ Some (rows_of (found_of m))
        → MatchesOptions names words m
    allowed given true parsed e same =
        let rows : rows_for given ≡ rows_of (found_of m) = ap (λ o. unwrap_or o []) (rw e at same) in
        record { given = given; parsed = parsed; allowed = e; values = values given rows }
    allowed given false parsed e same = let bad : None ≡ Some (rows_of (found_of m)) = rw e at same in absurd (cc)

    go : (parsed : Option (List Setting)) → options_in words ≡ parsed
        → allowed_rows names [] (options_in words) ≡ Some (rows_of (found_of m)) → MatchesOptions names words m
    go None e same = let bad : None ≡ Some (rows_of (found_of m)) = rw e at same in absurd (cc)
    go (Some given) e same = allowed given (are_allowed names given) e refl (rw e at same)

-- If there is a fault, the words have no form of options, or have others.
faults-refuse : (names words : List (List ℕ)) (kind : ErrorKind) → AreWords words
    → IsAmong kind (fault_of (app_with names) words) → HaveOtherOptions names words
faults-refuse names words kind sound among given parsed =
    go (fault_of (app_with names) words) refl among (are_allowed names given) refl
  where
    go : (kinds : Kinds) → fault_of (app_with names) words ≡ kinds → IsAmong kind kinds
        → (b : Bool) → are_allowed names given ≡ b → are_allowed names given ≡ false
    go [] e none b f = absurd none
    go (k ∷ ks) e some false f = f
    go (k ∷ ks) e some true f =
        let all : None ≡ allowed_rows names [] (options_in words) = rw e at (matched_rows-parsed names words sound) in
        let bad : None ≡ cond (are_allowed names given) (Some (rows_for given)) None = rw parsed at all in
        let worse : None ≡ Some (rows_for given) = rw f at bad in absurd (cc)

-- ---- words of dashes only

record Refuses (names words : List (List ℕ)) : Type 0 where
  pub rest : (given : List Setting) → allowed_rows names given (options_in words) ≡ None
  pub waiting : (given : List Setting) (name : List ℕ) → allowed_rows names given (options_after name words) ≡ None

-- A word of dashes only is no option of these names, and no second word of one.
dashes-refuses : (names : List (List ℕ)) (word : List ℕ) (words : List (List ℕ)) → is_among names [] ≡ false
    → is_dashes word ≡ true → Refuses names (word ∷ words)
dashes-refuses names word words named dashes = go (bytes_eq word (codes "-")) refl
  where
    two : (word : List ℕ) → word ≡ codes "--" → Refuses names (word ∷ words)
    two word same = rw same (record {
      rest = λ given. rows-after-other names given [] words named;
      waiting = λ given name. refl;
    })

    one : (word : List ℕ) → word ≡ codes "-" → Refuses names (word ∷ words)
    one word same = rw same (record { rest = λ given. refl; waiting = λ given name. refl })

    go : (b : Bool) → bytes_eq word (codes "-") ≡ b → Refuses names (word ∷ words)
    go true e = one word ((bytes_eq-Decides word (codes "-")).0 e)
    go false e = two word ((bytes_eq-Decides word (codes "--")).0 (rw e at dashes))

later-refuses : (names : List (List ℕ)) (word : List ℕ) (words : List (List ℕ)) → Refuses names words
    → Refuses names (word ∷ words)
later-refuses names word words more = record {
  rest = λ given. starts given (is_option word) (has_equals (drop 2 word));
  waiting = λ given name. goes-on given name (begins_with_dash word);
}
  where
    starts : (given : List Setting) (option equals : Bool) → allowed_rows names given (cond (not option) None
        (cond equals (with_setting (setting_in (drop 2 word)) (options_in words)) (options_after (drop 2 word) words)))
        ≡ None
    starts given false equals = refl
    starts given true true =
        rows-with names given (setting_in (drop 2 word)) (options_in words)
        ∙ more.rest (given ++ setting_in (drop 2 word) ∷ [])
    starts given true false = more.waiting given (drop 2 word)

    goes-on : (given : List Setting) (name : List ℕ) (dash : Bool)
        → allowed_rows names given (cond dash None (with_setting (setting name word) (options_in words))) ≡ None
    goes-on given name true = refl
    goes-on given name false =
        rows-with names given (setting name word) (options_in words) ∙ more.rest (given ++ setting name word ∷ [])

some-dashes : (names words : List (List ℕ)) → is_among names [] ≡ false → list_any is_dashes words ≡ true
    → Refuses names words
some-dashes names [] named dashes = absurd (cc)
some-dashes names (word ∷ words) named dashes = go (is_dashes word) refl dashes (some-dashes names words named)
  where
    go : (b : Bool) → is_dashes word ≡ b → (b || list_any is_dashes words) ≡ true
        → (list_any is_dashes words ≡ true → Refuses names words) → Refuses names (word ∷ words)
    go true e f more = dashes-refuses names word words named e
    go false e f more = later-refuses names word words (more f)

-- So words with one of dashes only have no form of options, or have others.
pub dashes-say-others : (names words : List (List ℕ)) → is_among names [] ≡ false → list_any is_dashes words ≡ true
    → HaveOtherOptions names words
dashes-say-others names words named dashes given parsed = go (are_allowed names given) refl
  where
    none : allowed_rows names [] (options_in words) ≡ None
    none = (some-dashes names words named dashes).rest []

    go : (b : Bool) → are_allowed names given ≡ b → are_allowed names given ≡ false
    go false e = e
    go true e =
        let all : cond (are_allowed names given) (Some (rows_for given)) None ≡ None = rw parsed at none in
        let bad : Some (rows_for given) ≡ None = rw e at all in absurd (cc)

-- ---- words as they are passed

pub dashes-among : (ws : List (String Global))
    → list_any (λ w. is_dashes (string_bytes w)) ws ≡ list_any is_dashes (map string_bytes ws)
dashes-among [] = refl
dashes-among (w ∷ ws) = ap (λ b. is_dashes (string_bytes w) || b) (dashes-among ws)

pub are-words : (ws : List (String Global)) → list_any is_dashes (map string_bytes ws) ≡ false
    → AreWords (map string_bytes ws)
are-words [] none = tt
are-words (w ∷ ws) none = go (is_dashes (string_bytes w)) refl none (are-words ws)
  where
    go : (b : Bool) → is_dashes (string_bytes w) ≡ b → (b || list_any is_dashes (map string_bytes ws)) ≡ false
        → (list_any is_dashes (map string_bytes ws) ≡ false → AreWords (map string_bytes ws))
        → AreWords (map string_bytes (w ∷ ws))
    go true e f rest = absurd (cc)
    go false e f rest = (IsUtf8-string_bytes w, e, rest f)

-- An error of `clap` other than out of memory means that the words have no form of options, or have others.
pub errors-refuse : {T : Type 0} (names words : List (List ℕ)) (app : App) (e : Error) (result : Result T WordsFault)
    → AreWords words → app ≡ app_with names → (is_simple_and_free app ≡ true → HasKind (fault_of app words) e)
    → IsErrAnd result (λ fault. fault ≡ fault_for (kind_of e)) → IsErrOf result BadWords → HaveOtherOptions names words
errors-refuse names words app e (Ok x) sound is kinds why bad = absurd why
errors-refuse names words app e (Err fault) sound is kinds why bad =
    elim (kinds (ap is_simple_and_free is ∙ is-free names)) [
      | inl memory ↦ let low : fault_for (kind_of e) ≡ OutOfMemory = ap fault_for memory in absurd (cc)
      | inr among ↦ faults-refuse names words (kind_of e) sound
          (subst (λ a. IsAmong (kind_of e) (fault_of a words)) is among)
    ]

-- Its matches are those of the options.
pub answers-have : (names words : List (List ℕ)) (app : App) (m : ArgMatches) → AreWords words → app ≡ app_with names
    → (is_simple_and_free app ≡ true → fault_of app words ≡ []) → HasMatchesOf app words m
    → MatchesOptions names words m
answers-have names words app m sound is free rows =
    matches-have names words m sound
    (ap (λ a. fault_of a words) (sym is) ∙ free (ap is_simple_and_free is ∙ is-free names))
    ((rows (ap is_simple is ∙ is-simple names)).0 ∙ ap (λ a. matches_of a words) is)

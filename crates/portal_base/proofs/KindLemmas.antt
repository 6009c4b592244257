-- Trimmed texts, numbers in texts, and lists that are read item by item.
use Rattle.std.proofs.Common.{◌≡◌, ◌≢◌, ℕ, ◌<◌, ◌≤◌, ◌^◌, lit<, Bool, true, false, ◌&&◌, ◌||◌, cond, eqb, leb, refl}
use Rattle.std.proofs.Common.{ap, sym, ◌∙◌, List, [], ◌∷◌, ◌++◌, length, reverse, rules, arith, eqb-true, leb-true}
use Rattle.std.specs.Prelude.{Option, Some, None, Result, Ok, option_map, MatchOption, IfNone, ℤ, pos}
use Rattle.std.specs.Char.{is_ascii_digit}
use Rattle.std.specs.List.{list_all}
use Rattle.std.specs.Str.Parse.{digits_value, ParsesUnsigned}
use Rattle.std.proofs.lemmas.List.{reverse-reverse, reverse-append}
use Rattle.std.proofs.lemmas.Str.Parse.{IsDigitsTest, IsNumeralModel, numerals_by_value, digits_value_short}
use Rattle.std.proofs.lemmas.Str.Parse.{parse_gives}
use denote.Ref.{Bor}
use Rattle.portal_base.specs.declared.json_value.Json.{Json}
use Rattle.portal_base.specs.Kinds.{negated, is_digits, digits_spelled, whole_spelled, is_blank, trimmed_start}
use Rattle.portal_base.specs.Kinds.{trimmed_end, trimmed, is_nonempty, kept_parts, all_of}

-- ---- blanks

-- A text that does not begin with a blank is not trimmed at its start.
pub trimmed_start_none : (text : List ℕ) → ((rest : List ℕ) → text ≢ 32 ∷ rest) → ((rest : List ℕ) → text ≢ 9 ∷ rest)
    → trimmed_start text ≡ text
trimmed_start_none [] space tab = refl
trimmed_start_none (c ∷ cs) space tab =
    let P : Bool → Type 0 = λ b. is_blank c ≡ b → cond b (trimmed_start cs) (c ∷ cs) ≡ c ∷ cs in
    (elim (is_blank c) as P [ true ↦ λ e. absurd (either (eqb c 32) (eqb c 9) refl refl e) | false ↦ λ e. refl ]) refl
  where
    either : (a b : Bool) → eqb c 32 ≡ a → eqb c 9 ≡ b → (a || b) ≡ true → ⊥
    either true b s t e = space cs (ap (λ d. d ∷ cs) (eqb-true c 32 s))
    either false true s t e = tab cs (ap (λ d. d ∷ cs) (eqb-true c 9 t))
    either false false s t e = cc

-- A text that does not end with a blank is not trimmed at its end.
pub trimmed_end_none : (text : List ℕ) → ((front : List ℕ) → text ≢ front ++ 32 ∷ [])
    → ((front : List ℕ) → text ≢ front ++ 9 ∷ []) → trimmed_end text ≡ text
trimmed_end_none text space tab =
    ap reverse (trimmed_start_none (reverse text)
    (λ rest e. space (reverse rest) (turned 32 rest e)) (λ rest e. tab (reverse rest) (turned 9 rest e)))
    ∙ reverse-reverse text
  where
    turned : (c : ℕ) (rest : List ℕ) → reverse text ≡ c ∷ rest → text ≡ reverse rest ++ c ∷ []
    turned c rest e = sym (reverse-reverse text) ∙ ap reverse e ∙ reverse-append (c ∷ []) rest

-- The same, from the result of the second test.
pub trimmed_start_if_none : (text : List ℕ) (r : Option (Bor (List ℕ))) → ((rest : List ℕ) → text ≢ 32 ∷ rest)
    → MatchOption r ((rest : List ℕ) → text ≢ 9 ∷ rest) (λ x. text ≡ 9 ∷ x.now) → IfNone r (trimmed_start text ≡ text)
trimmed_start_if_none text None space tab = trimmed_start_none text space tab
trimmed_start_if_none text (Some x) space tab = tt

pub trimmed_end_if_none : (text : List ℕ) (r : Option (Bor (List ℕ)))
    → ((front : List ℕ) → text ≢ front ++ 32 ∷ [])
    → MatchOption r ((front : List ℕ) → text ≢ front ++ 9 ∷ []) (λ x. text ≡ x.now ++ 9 ∷ [])
    → IfNone r (trimmed_end text ≡ text)
trimmed_end_if_none text None space tab = trimmed_end_none text space tab
trimmed_end_if_none text (Some x) space tab = tt

-- ---- numbers

digits_test : IsDigitsTest (λ ds. list_all is_ascii_digit ds ≡ true)
digits_test = search rules

pub numerals : IsNumeralModel (λ ds. list_all is_ascii_digit ds ≡ true) (digits_value 10)
numerals = numerals_by_value _ digits_test

-- The properties of 1 to 18 digits.
pub digits_parts : (text : List ℕ) → is_digits text ≡ true
    → (0 < length text) × (length text ≤ 18) × (list_all is_ascii_digit text ≡ true)
digits_parts text e =
    parts (leb 1 (length text)) (leb (length text) 18) (list_all is_ascii_digit text) refl refl refl e
  where
    parts : (a b c : Bool) → leb 1 (length text) ≡ a → leb (length text) 18 ≡ b → list_all is_ascii_digit text ≡ c
        → (a && b && c) ≡ true → (0 < length text) × (length text ≤ 18) × (list_all is_ascii_digit text ≡ true)
    parts true true true some few digits h = (leb-true 1 (length text) some, leb-true (length text) 18 few, digits)
    parts true true false some few digits h = absurd (cc)
    parts true false c some few digits h = absurd (cc)
    parts false b c some few digits h = absurd (cc)

-- They parse as their number, which fits 64 bits.
pub digits_parse : {E : Type 0} (text : List ℕ) (r : Result ℕ E) → ParsesUnsigned 64 10 text r
    → is_digits text ≡ true → r ≡ Ok (digits_value 10 text)
digits_parse text r parsed e =
    let p = digits_parts text e in
    let small : digits_value 10 text < 10 ^ 18 = digits_value_short numerals text 18 p.2 p.1 in
    let room : 10 ^ 18 < 2 ^ 64 = lit< tt in
    parse_gives numerals 64 text r parsed p.2 p.0 (omega arith)

pub digits_spelled_number : (text : List ℕ) → is_digits text ≡ true → digits_spelled text ≡ Some (digits_value 10 text)
digits_spelled_number text e = ap (λ b. cond b (Some (digits_value 10 text)) None) e

-- A text without a sign is read as its digits are.
pub whole_spelled_unsigned : (text : List ℕ) → ((rest : List ℕ) → text ≢ 45 ∷ rest)
    → whole_spelled text ≡ option_map pos (digits_spelled text)
whole_spelled_unsigned [] unsigned = refl
whole_spelled_unsigned (c ∷ cs) unsigned =
    let whole : Option ℤ = option_map pos (digits_spelled (c ∷ cs)) in
    let P : Bool → Type 0 = λ b. eqb c 45 ≡ b → cond b (option_map negated (digits_spelled cs)) whole ≡ whole in
    (elim (eqb c 45) as P [
      | true ↦ λ e. absurd (unsigned cs (ap (λ d. d ∷ cs) (eqb-true c 45 e)))
      | false ↦ λ e. refl
    ]) refl

-- ---- lists that are read item by item

-- the items that were read so far, and what the remaining items are read as
abbrev pub read_on : {A : Type 0} → (Json → Option A) → List A → List Json → Option (List A)
read_on read before items = option_map (λ xs. before ++ xs) (all_of read items)

-- The kept parts of two lists together.
pub kept_parts-append : (xs ys : List (List ℕ)) → kept_parts (xs ++ ys) ≡ kept_parts xs ++ kept_parts ys
kept_parts-append [] ys = refl
kept_parts-append (x ∷ xs) ys =
    let kept : Bool → List (List ℕ) → List (List ℕ) = λ b rest. cond b (trimmed x ∷ rest) rest in
    let P : Bool → Type 0 = λ b. kept b (kept_parts (xs ++ ys)) ≡ kept b (kept_parts xs) ++ kept_parts ys in
    elim (is_nonempty (trimmed x)) as P [
      | true ↦ ap (λ l. trimmed x ∷ l) (kept_parts-append xs ys)
      | false ↦ kept_parts-append xs ys
    ]

-- The parts of a number, as they are read from the left.
use Rattle.std.proofs.Common.{◌≡◌, ◌⊎◌, inl, inr, ℕ, suc, ◌+◌, ◌-◌, ◌*◌, ◌^◌, ◌<◌, ◌≤◌, true, false, ◌&&◌, cond, eqb}
use Rattle.std.proofs.Common.{refl, sym, ap, ◌∙◌, subst, arith, Bool, List, [], ◌∷◌, ◌++◌, length, append_assoc}
use Rattle.std.proofs.Common.{length-append}
use Rattle.std.specs.Prelude.{Option, Some, None, filter, min}
use Rattle.std.specs.List.{list_all}
use Rattle.std.specs.Str.{chars, IsUtf8, encode_utf8_all}
use Rattle.std.proofs.Math.Nat.{pow-suc, one-le-pow, mul-le-mul_left}
use Rattle.std.proofs.lemmas.Bool.{and_from, cases_lt, eqb-true, eqb-false}
use Rattle.std.proofs.lemmas.List.Folds.{list_all-append}
use Rattle.std.proofs.lemmas.Str.{length-le-encodes, encodes-chars}
use Rattle.lexical_forms.specs.declared.form.NumberForm.{NumberForm}
use Rattle.lexical_forms.specs.declared.number.significand.Significand.{Significand}
use Rattle.lexical_forms.specs.Digits.{is_digit, is_digits, is_empty, spelled, from_first}
use Rattle.lexical_forms.specs.Number.{is_grouped, is_exponent_mark, split_at_first}
use Rattle.lexical_forms.specs.Significand.{Spells, IsLong, Adds, TakesDigits, TakesWhole, ends_whole_part, whole_in}
use Rattle.lexical_forms.specs.Significand.{exponent_limit}
use Rattle.lexical_forms.proofs.CharacterLemmas.{chars-none}
use Rattle.lexical_forms.proofs.NumberLemmas.{is_digit-no_mark, is_digit-no_point, split_at_first-past}
use Rattle.lexical_forms.proofs.NumberLemmas.{split_at_first-here}
use Rattle.lexical_forms.proofs.SignificandLemmas.{IsLong-append}

pub length-chars : (bs : List ℕ) → IsUtf8 bs → length (chars bs) ≤ length bs
length-chars bs utf8 = omega (arith, length-le-encodes (chars bs), ap length (encodes-chars bs utf8))

-- ---- the decimal places of a fraction

-- The invariant while they are read.
abbrev pub PlacesSoFar : Significand → Significand → List ℕ → List ℕ → Type 0
PlacesSoFar before now text rest =
    (from_first is_exponent_mark rest ≡ from_first is_exponent_mark text)
    × ((done : List ℕ) × ((split_at_first is_exponent_mark text).0 ≡ done ++ (split_at_first is_exponent_mark rest).0)
    × (list_all is_digit done ≡ true)
    × (length done + length rest ≤ length text)
    × ((cs : List ℕ) → Spells before cs → Spells now (cs ++ done)))

one_digit : (c : ℕ) → is_digit c ≡ true → list_all is_digit (c ∷ []) ≡ true
one_digit c h = and_from (is_digit c) true h refl

pub PlacesSoFar-more : (before now new : Significand) (text rest after : List ℕ) (c d : ℕ) → rest ≡ c ∷ after
    → is_exponent_mark c ≡ false → is_digit c ≡ true → c ≡ d + 48 → Adds now ((d + 48) ∷ []) (Some new)
    → PlacesSoFar before now text rest → PlacesSoFar before new text after
PlacesSoFar-more before now new text rest after c d e mark digit number adds so_far =
    let done = so_far.1.0 in
    let passed : from_first is_exponent_mark rest ≡ from_first is_exponent_mark after = rw (e, mark) refl in
    let split : (split_at_first is_exponent_mark rest).0 ≡ c ∷ (split_at_first is_exponent_mark after).0 =
    rw (e, mark) refl in (
      sym passed ∙ so_far.0,
      (
        done ++ c ∷ [],
        so_far.1.1 ∙ ap (λ xs. done ++ xs) split
            ∙ sym (append_assoc done (c ∷ []) (split_at_first is_exponent_mark after).0),
        list_all-append is_digit done (c ∷ []) ∙ and_from (list_all is_digit done) _ so_far.1.2 (one_digit c digit),
        omega (arith, so_far.1.3, length-append done (c ∷ []), ap length e),
        λ cs h. subst (λ (xs : List ℕ). Spells new xs)
            (append_assoc cs done ((d + 48) ∷ []) ∙ ap (λ n. cs ++ (done ++ n ∷ [])) (sym number))
            (adds (cs ++ done) (so_far.1.4 cs h)),
      ),
    )

-- The digits with these decimal places are too long.
pub PlacesSoFar-long : (before now : Significand) (text rest after : List ℕ) (c d : ℕ) → rest ≡ c ∷ after
    → is_exponent_mark c ≡ false → is_digit c ≡ true → c ≡ d + 48 → Adds now ((d + 48) ∷ []) None
    → PlacesSoFar before now text rest → TakesDigits before text None
PlacesSoFar-long before now text rest after c d e mark digit number adds so_far =
    by_rest (list_all is_digit (split_at_first is_exponent_mark after).0) refl
  where
    split : (split_at_first is_exponent_mark rest).0 ≡ c ∷ (split_at_first is_exponent_mark after).0
    split = rw (e, mark) refl

    places : (split_at_first is_exponent_mark text).0 ≡ so_far.1.0 ++ c ∷ (split_at_first is_exponent_mark after).0
    places = so_far.1.1 ∙ ap (λ xs. so_far.1.0 ++ xs) split

    long : (cs : List ℕ) → Spells before cs → list_all is_digit (split_at_first is_exponent_mark after).0 ≡ true
        → IsLong (cs ++ (split_at_first is_exponent_mark text).0)
    long cs h digits =
        let more = (split_at_first is_exponent_mark after).0 in
        let step =
        IsLong-append (cs ++ so_far.1.0 ++ (d + 48) ∷ []) more digits (adds (cs ++ so_far.1.0) (so_far.1.4 cs h)) in
        let same : cs ++ so_far.1.0 ++ (d + 48) ∷ [] ++ more ≡ cs ++ (split_at_first is_exponent_mark text).0 =
        ap (λ n. cs ++ so_far.1.0 ++ n ∷ [] ++ more) (sym number) ∙ append_assoc (cs ++ so_far.1.0) (c ∷ []) more
        ∙ append_assoc cs so_far.1.0 (c ∷ more) ∙ ap (λ xs. cs ++ xs) (sym places) in
        subst IsLong same step

    by_rest : (b : Bool) → list_all is_digit (split_at_first is_exponent_mark after).0 ≡ b
        → TakesDigits before text None
    by_rest true digits = inr (λ cs h. long cs h digits)
    by_rest false other =
        let all : list_all is_digit (split_at_first is_exponent_mark text).0
        ≡ (list_all is_digit so_far.1.0
        && (is_digit c && list_all is_digit (split_at_first is_exponent_mark after).0)) = ap (list_all is_digit)
        places ∙ list_all-append is_digit so_far.1.0 (c ∷ (split_at_first is_exponent_mark after).0) in
        inl (all ∙ rw (so_far.1.2, digit, other) refl)

-- ---- the whole part

-- The invariant while it is read.
abbrev pub WholeSoFar : NumberForm → Bool → Significand → List ℕ → List ℕ → Type 0
WholeSoFar form after_digit now text rest =
    (from_first (ends_whole_part form) rest ≡ from_first (ends_whole_part form) text)
    × (is_grouped form.group false (whole_in form text) ≡ is_grouped form.group after_digit (whole_in form rest))
    × ((done : List ℕ) × (filter is_digit (whole_in form text) ≡ done ++ filter is_digit (whole_in form rest))
    × (length done + length rest ≤ length text)
    × Spells now done)

is_digit-no_stop : (form : NumberForm) (c : ℕ) → is_digit c ≡ true → ends_whole_part form c ≡ false
is_digit-no_stop form c h = rw (is_digit-no_point form c h, is_digit-no_mark c h) refl

pub whole_in-past : (form : NumberForm) (c : ℕ) (cs : List ℕ) → ends_whole_part form c ≡ false
    → whole_in form (c ∷ cs) ≡ c ∷ whole_in form cs
whole_in-past form c cs e =
    ap (λ (x : List ℕ × Option (List ℕ)). x.0) (split_at_first-past (ends_whole_part form) c cs e)

pub whole_in-here : (form : NumberForm) (c : ℕ) (cs : List ℕ) → ends_whole_part form c ≡ true
    → whole_in form (c ∷ cs) ≡ []
whole_in-here form c cs e =
    ap (λ (x : List ℕ × Option (List ℕ)). x.0) (split_at_first-here (ends_whole_part form) c cs e)

pub WholeSoFar-digit : (form : NumberForm) (after_digit : Bool) (now new : Significand) (text rest after : List ℕ)
    (c d : ℕ) → rest ≡ c ∷ after → is_digit c ≡ true → c ≡ d + 48 → Adds now ((d + 48) ∷ []) (Some new)
    → WholeSoFar form after_digit now text rest → WholeSoFar form true new text after
WholeSoFar-digit form after_digit now new text rest after c d e digit number adds so_far =
    let goes_on = is_digit-no_stop form c digit in
    let done = so_far.2.0 in
    let passed : from_first (ends_whole_part form) rest ≡ from_first (ends_whole_part form) after =
    rw (e, goes_on) refl in
    let whole : whole_in form rest ≡ c ∷ whole_in form after =
    ap (whole_in form) e ∙ whole_in-past form c after goes_on in
    let grouped : is_grouped form.group after_digit (c ∷ whole_in form after)
    ≡ is_grouped form.group true (whole_in form after) = rw digit refl in
    let kept : filter is_digit (c ∷ whole_in form after) ≡ c ∷ filter is_digit (whole_in form after) =
    rw digit refl in (
      sym passed ∙ so_far.0,
      so_far.1 ∙ ap (is_grouped form.group after_digit) whole ∙ grouped,
      (
        done ++ c ∷ [],
        so_far.2.1 ∙ ap (λ xs. done ++ filter is_digit xs) whole ∙ ap (λ xs. done ++ xs) kept
            ∙ sym (append_assoc done (c ∷ []) (filter is_digit (whole_in form after))),
        omega (arith, so_far.2.2, length-append done (c ∷ []), ap length e),
        subst (λ (xs : List ℕ). Spells new xs) (ap (λ n. done ++ n ∷ []) (sym number)) (adds done so_far.2.3),
      ),
    )

list_all-filter : (cs : List ℕ) → list_all is_digit (filter is_digit cs) ≡ true
list_all-filter [] = refl
list_all-filter (c ∷ cs) = by_test (list_all-filter cs) (is_digit c) refl
  where
    by_test : list_all is_digit (filter is_digit cs) ≡ true → (b : Bool) → is_digit c ≡ b
        → list_all is_digit (cond b (c ∷ filter is_digit cs) (filter is_digit cs)) ≡ true
    by_test ih true e = and_from (is_digit c) _ e ih
    by_test ih false e = ih

-- The digits of the whole part are too long.
pub WholeSoFar-long : (form : NumberForm) (after_digit : Bool) (now : Significand) (text rest after : List ℕ)
    (c d : ℕ) → rest ≡ c ∷ after → is_digit c ≡ true → c ≡ d + 48 → Adds now ((d + 48) ∷ []) None
    → WholeSoFar form after_digit now text rest → TakesWhole form text None
WholeSoFar-long form after_digit now text rest after c d e digit number adds so_far =
    let goes_on = is_digit-no_stop form c digit in
    let done = so_far.2.0 in
    let more = filter is_digit (whole_in form after) in
    let whole : whole_in form rest ≡ c ∷ whole_in form after =
    ap (whole_in form) e ∙ whole_in-past form c after goes_on in
    let kept : filter is_digit (c ∷ whole_in form after) ≡ c ∷ more = rw digit refl in
    let same : done ++ (d + 48) ∷ [] ++ more ≡ filter is_digit (whole_in form text) =
    ap (λ n. done ++ n ∷ [] ++ more) (sym number) ∙ append_assoc done (c ∷ []) more
    ∙ sym (so_far.2.1 ∙ ap (λ xs. done ++ filter is_digit xs) whole ∙ ap (λ xs. done ++ xs) kept) in
    inr (subst IsLong same
    (IsLong-append (done ++ (d + 48) ∷ []) more (list_all-filter (whole_in form after)) (adds done so_far.2.3)))

pub WholeSoFar-room : (form : NumberForm) (after_digit : Bool) (now : Significand) (text rest after : List ℕ)
    (c : ℕ) → rest ≡ c ∷ after → WholeSoFar form after_digit now text rest → now.count + 1 ≤ length text
WholeSoFar-room form after_digit now text rest after c e so_far =
    omega (arith, so_far.2.2, so_far.2.3.counted, ap length e)

-- ---- digits of a whole number

-- The invariant while digits are read: the value of the digits so far, shifted left by the remaining ones, plus the
-- value of the remaining ones, is the value of all.
abbrev pub DigitsSoFar : ℕ → List ℕ → List ℕ → Type 0
DigitsSoFar value text rest =
    (is_empty text ≡ false)
    × (list_all is_digit rest ≡ list_all is_digit text)
    × (value * 10 ^ length rest + spelled rest ≡ spelled text)

abbrev pub LimitedSoFar : ℕ → List ℕ → List ℕ → Type 0
LimitedSoFar value text rest =
    (is_empty text ≡ false)
    × (list_all is_digit rest ≡ list_all is_digit text)
    × (value ≤ exponent_limit)
    × (min exponent_limit (value * 10 ^ length rest + spelled rest) ≡ min exponent_limit (spelled text))

pub is_empty-chars : (bs : List ℕ) → IsUtf8 bs → (length bs ≡ 0 → ⊥) → is_empty (chars bs) ≡ false
is_empty-chars bs utf8 some = by_chars (chars bs) refl
  where
    by_chars : (cs : List ℕ) → chars bs ≡ cs → is_empty cs ≡ false
    by_chars [] e =
        absurd (some (sym (ap length (encodes-chars bs utf8)) ∙ ap (λ (xs : List ℕ). length (encode_utf8_all xs)) e))
    by_chars (c ∷ cs) e = refl

pub no_digits : (cs : List ℕ) → cs ≡ [] → is_digits cs ≡ false
no_digits cs e = rw e refl

-- the digits shifted left by one place, and one more digit
moved_left : (v d k s t : ℕ) (p q : ℕ) → q ≡ p * 10 → v * q + (d * p + s) ≡ (v * 10 + d) * p + s
moved_left v d k s t p q e = omega (arith, ap (λ n. v * n) e)

pub spelled-turn : (value c d : ℕ) (rest after : List ℕ) → rest ≡ c ∷ after → c ≡ d + 48
    → value * 10 ^ length rest + spelled rest ≡ (value * 10 + d) * 10 ^ length after + spelled after
spelled-turn value c d rest after e number =
    let digit : c - 48 ≡ d = omega arith in
    ap (λ (xs : List ℕ). value * 10 ^ length xs + spelled xs) e
    ∙ ap (λ n. value * 10 ^ suc (length after) + (n * 10 ^ length after + spelled after)) digit
    ∙ moved_left value d 0 (spelled after) 0 (10 ^ length after) (10 ^ suc (length after))
    (pow-suc 10 (length after))

pub DigitsSoFar-more : (value c d : ℕ) (text rest after : List ℕ) → rest ≡ c ∷ after → is_digit c ≡ true
    → c ≡ d + 48 → DigitsSoFar value text rest → DigitsSoFar (value * 10 + d) text after
DigitsSoFar-more value c d text rest after e digit number so_far =
    let all : list_all is_digit rest ≡ list_all is_digit after = rw (e, digit) refl in
    (so_far.0, sym all ∙ so_far.1, sym (spelled-turn value c d rest after e number) ∙ so_far.2)

pub at_least_power : (n : ℕ) (cs : List ℕ) → n ≤ n * 10 ^ length cs + spelled cs
at_least_power n cs =
    let one : 1 ≤ 10 ^ length cs = one-le-pow (length cs) 10 (omega arith) in
    let raised : n * 1 ≤ n * 10 ^ length cs = mul-le-mul_left n one in
    omega (arith, raised)

pub LimitedSoFar-more : (value c d next : ℕ) (text rest after : List ℕ) → rest ≡ c ∷ after → is_digit c ≡ true
    → c ≡ d + 48 → next ≡ min exponent_limit (value * 10 + d) → LimitedSoFar value text rest
    → LimitedSoFar next text after
LimitedSoFar-more value c d next text rest after e digit number made so_far =
    let all : list_all is_digit rest ≡ list_all is_digit after = rw (e, digit) refl in
    let turn = spelled-turn value c d rest after e number in (
      so_far.0,
      sym all ∙ so_far.1,
      omega arith,
      by_size (cases_lt exponent_limit (value * 10 + d))
          ∙ ap (min exponent_limit) (sym turn) ∙ so_far.3,
    )
  where
    by_size : (exponent_limit < value * 10 + d) ⊎ (value * 10 + d ≤ exponent_limit)
        → min exponent_limit (next * 10 ^ length after + spelled after)
        ≡ min exponent_limit ((value * 10 + d) * 10 ^ length after + spelled after)
    by_size (inl h) = omega (arith, at_least_power next after, at_least_power (value * 10 + d) after)
    by_size (inr h) =
        let same : next ≡ value * 10 + d = omega arith in
        ap (λ n. min exponent_limit (n * 10 ^ length after + spelled after)) same

-- a text is empty, or it isn't
pub empty-text : (bs : List ℕ) (b : Bool) → b ≡ eqb (length bs) 0 → b ≡ true → is_digits (chars bs) ≡ false
empty-text bs b e h = no_digits (chars bs) (chars-none bs (eqb-true (length bs) 0 (sym e ∙ h)))

pub filled-text : (bs : List ℕ) (b : Bool) → IsUtf8 bs → b ≡ eqb (length bs) 0 → b ≡ false → is_empty (chars bs) ≡ false
filled-text bs b utf8 e h = is_empty-chars bs utf8 (eqb-false (length bs) 0 (sym e ∙ h))

-- The invariant before the first digit.
pub DigitsSoFar-start : (text : List ℕ) → is_empty text ≡ false → DigitsSoFar 0 text text
DigitsSoFar-start text h = (h, refl, omega arith)

pub LimitedSoFar-start : (text : List ℕ) → is_empty text ≡ false → LimitedSoFar 0 text text
LimitedSoFar-start text h = let same : 0 * 10 ^ length text + spelled text ≡ spelled text = omega arith in
    (h, refl, omega arith, ap (min exponent_limit) same)

-- The number is too large already.
pub DigitsSoFar-large : (value c d : ℕ) (text rest after : List ℕ) → rest ≡ c ∷ after → c ≡ d + 48
    → 2 ^ 64 ≤ value * 10 + d → DigitsSoFar value text rest → 2 ^ 64 ≤ spelled text
DigitsSoFar-large value c d text rest after e number large so_far =
    omega (arith, at_least_power (value * 10 + d) after, spelled-turn value c d rest after e number, so_far.2)

pub DigitsSoFar-next : (value c d next : ℕ) (text rest after : List ℕ) → rest ≡ c ∷ after → is_digit c ≡ true
    → c ≡ d + 48 → next ≡ value * 10 + d → DigitsSoFar value text rest → DigitsSoFar next text after
DigitsSoFar-next value c d next text rest after e digit number made so_far =
    subst (λ (n : ℕ). DigitsSoFar n text after) (sym made)
    (DigitsSoFar-more value c d text rest after e digit number so_far)

-- Printed numbers read back as the same numbers.
use Rattle.std.proofs.Common.{◌≡◌, ◌≢◌, ℕ, zero, suc, ◌+◌, ◌/◌, ◌%◌, ◌^◌, ◌<◌, ◌≤◌, true, false, eqb, refl, sym, ap}
use Rattle.std.proofs.Common.{◌∙◌, arith, Bool, List, [], ◌∷◌, ◌++◌, ℤ, pos, negsuc, append-nil, append_assoc}
use Rattle.std.specs.Prelude.{Some, decimal, unsigned_abs}
use Rattle.std.specs.List.{list_all}
use Rattle.std.specs.Str.{IsAscii, chars}
use Rattle.std.proofs.Math.Nat.{pow-suc, one-le-pow}
use Rattle.std.proofs.lemmas.Nat.{div_below, mod_below}
use Rattle.std.proofs.lemmas.Bool.{and_parts, cond-false, ne_eqb}
use Rattle.std.proofs.lemmas.Bool.Decides.{nat_tests}
use Rattle.std.proofs.lemmas.Str.{IsAscii-append, chars-IsAscii}
use Rattle.lexical_forms.specs.Digits.{is_digit, is_sign, is_empty, is_negative, unsigned}
use Rattle.lexical_forms.specs.Number.{parts_of, unsigned_reading, number_text_reading, number_reading}
use Rattle.lexical_forms.specs.Number.{default_spelling}
use Rattle.lexical_forms.specs.NumberText.{places_text, fraction_text, size_text, number_text}
use Rattle.lexical_forms.proofs.NumberLemmas.{is_digit-bounds, decimal-Numeral, Numeral, places_text-Places, Places}
use Rattle.lexical_forms.proofs.NumberLemmas.{parts_of-whole, parts_of-fraction, printed}

-- ---- characters of ASCII

pub IsAscii-cons : (c : ℕ) (cs : List ℕ) → c < 128 → IsAscii cs → IsAscii (c ∷ cs)
IsAscii-cons c cs h all zero = h
IsAscii-cons c cs h all (suc i) = all i

pub IsAscii-nil : IsAscii []
IsAscii-nil i = omega arith

pub IsAscii-digits : (cs : List ℕ) → list_all is_digit cs ≡ true → IsAscii cs
IsAscii-digits [] h = IsAscii-nil
IsAscii-digits (c ∷ cs) h =
    let parts = and_parts (is_digit c) (list_all is_digit cs) h in
    IsAscii-cons c cs (omega (arith, is_digit-bounds c parts.0)) (IsAscii-digits cs parts.1)

-- ---- numbers

-- A text that starts with digits has no sign.
unsigned-digits : (ws cs : List ℕ) → list_all is_digit ws ≡ true → is_empty ws ≡ false
    → (unsigned (ws ++ cs) ≡ ws ++ cs) × (is_negative (ws ++ cs) ≡ false)
unsigned-digits [] cs h e = cc
unsigned-digits (w ∷ ws) cs h e =
    let bounds = is_digit-bounds w (and_parts (is_digit w) (list_all is_digit ws) h).0 in
    let sign : is_sign w ≡ false = no_sign w bounds.0 in
    let minus : eqb w 45 ≡ false = no_minus w bounds.0 in
    (rw sign refl, minus)
  where
    no_sign : (w : ℕ) → 48 ≤ w → is_sign w ≡ false
    no_sign w h = grind (arith, nat_tests)

    no_minus : (w : ℕ) → 48 ≤ w → eqb w 45 ≡ false
    no_minus w h = grind (arith, nat_tests)

record Sized (n : ℕ) : Type 0 where
  reading : unsigned_reading default_spelling (parts_of default_spelling (size_text n)) ≡ Some n
  no_sign : unsigned (size_text n) ≡ size_text n
  positive : is_negative (size_text n) ≡ false
  ascii : IsAscii (size_text n)

size_text-Sized : (n : ℕ) → n < 10 ^ 27 → Sized n
size_text-Sized n h = by_fraction (eqb (n % 10 ^ 9) 0) refl
  where
    ws : Numeral (n / 10 ^ 9) (decimal (n / 10 ^ 9))
    ws = decimal-Numeral (n / 10 ^ 9) (omega (arith, div_below n (10 ^ 9) (10 ^ 18) (omega arith) (omega arith)))

    fs : Places 9 (n % 10 ^ 9) (places_text 9 (n % 10 ^ 9))
    fs = places_text-Places 9 (n % 10 ^ 9) (mod_below n (10 ^ 9) (omega arith))

    by_fraction : (b : Bool) → eqb (n % 10 ^ 9) 0 ≡ b → Sized n
    by_fraction true e =
        let none : fraction_text (n % 10 ^ 9) ≡ [] = rw e refl in
        let text : size_text n ≡ decimal (n / 10 ^ 9) = rw none (append-nil (decimal (n / 10 ^ 9))) in
        let first = unsigned-digits (decimal (n / 10 ^ 9)) (fraction_text (n % 10 ^ 9)) ws.digits ws.some in
        let zero_rest : n % 10 ^ 9 ≡ 0 = grind (arith, nat_tests) in
        record {
          reading = ap (λ t. unsigned_reading default_spelling (parts_of default_spelling t)) text
              ∙ (ap (unsigned_reading default_spelling) (parts_of-whole (decimal (n / 10 ^ 9)) ws.digits)
              ∙ (printed n 9 (decimal (n / 10 ^ 9)) [] ws.digits refl ws.some refl ws.spells (sym zero_rest) h));
          no_sign = first.0;
          positive = first.1;
          ascii = rw text (IsAscii-digits (decimal (n / 10 ^ 9)) ws.digits);
        }
    by_fraction false e =
        let some : fraction_text (n % 10 ^ 9) ≡ 46 ∷ places_text 9 (n % 10 ^ 9) = rw e refl in
        let text : size_text n ≡ decimal (n / 10 ^ 9) ++ 46 ∷ places_text 9 (n % 10 ^ 9) = rw some refl in
        let first = unsigned-digits (decimal (n / 10 ^ 9)) (fraction_text (n % 10 ^ 9)) ws.digits ws.some in
        record {
          reading = ap (λ t. unsigned_reading default_spelling (parts_of default_spelling t)) text
              ∙ (ap (unsigned_reading default_spelling)
              (parts_of-fraction (decimal (n / 10 ^ 9)) (places_text 9 (n % 10 ^ 9)) ws.digits fs.digits)
              ∙ (printed n fs.pad (decimal (n / 10 ^ 9)) (places_text 9 (n % 10 ^ 9)) ws.digits fs.digits ws.some
              fs.count ws.spells fs.spells h));
          no_sign = first.0;
          positive = first.1;
          ascii = rw text
              (IsAscii-append (decimal (n / 10 ^ 9)) (46 ∷ places_text 9 (n % 10 ^ 9))
              (IsAscii-digits (decimal (n / 10 ^ 9)) ws.digits)
              (IsAscii-cons 46 (places_text 9 (n % 10 ^ 9)) (omega arith)
              (IsAscii-digits (places_text 9 (n % 10 ^ 9)) fs.digits)));
        }

number_text-reading : (z : ℤ) → unsigned_abs z < 10 ^ 27 → number_text_reading default_spelling (number_text z) ≡ Some z
unfolding number_text_reading
number_text-reading (pos n) h =
    let sized = size_text-Sized n h in
    rw (sized.no_sign, sized.positive, sized.reading) refl
number_text-reading (negsuc n) h =
    let sized = size_text-Sized (suc n) h in
    rw sized.reading refl

number_text-IsAscii : (z : ℤ) → unsigned_abs z < 10 ^ 27 → IsAscii (number_text z)
number_text-IsAscii (pos n) h = (size_text-Sized n h).ascii
number_text-IsAscii (negsuc n) h = IsAscii-cons 45 (size_text (suc n)) (omega arith) (size_text-Sized (suc n) h).ascii

-- A printed number reads as that number.
pub number_text-back : (z : ℤ) → unsigned_abs z < 10 ^ 27
    → number_reading default_spelling (chars (number_text z)) ≡ Some z
number_text-back z h = rw (chars-IsAscii (number_text z) (number_text-IsAscii z h)) (number_text-reading z h)

-- ---- the fraction of a number, as it is printed

-- The invariant while it is printed: the printed part and the remaining part make up the fraction.
abbrev pub FractionSoFar : List ℕ → List ℕ → ℕ → ℕ → ℕ → Type 0
FractionSoFar text start rest unit billionths =
    (left : ℕ) × (left ≤ 9) × (rest < 10 ^ left) × (unit ≡ 10 ^ left / 10)
    × (text ++ places_text left rest ≡ start ++ places_text 9 billionths)

pub record Turn (text start : List ℕ) (rest unit billionths : ℕ) : Type 0 where
  pub some : 0 < unit
  pub digit : rest / unit < 10
  pub next : (new : List ℕ) → new ≡ text ++ (48 + rest / unit) ∷ []
      → FractionSoFar new start (rest % unit) (unit / 10) billionths

pub fraction-turn : (text start : List ℕ) (rest unit billionths : ℕ) → FractionSoFar text start rest unit billionths
    → rest ≢ 0 → Turn text start rest unit billionths
fraction-turn text start rest unit billionths so_far some = by_left so_far.0 so_far.1 so_far.2 so_far.3 so_far.4
  where
    by_left : (left : ℕ) → left ≤ 9 → rest < 10 ^ left → unit ≡ 10 ^ left / 10
        → text ++ places_text left rest ≡ start ++ places_text 9 billionths → Turn text start rest unit billionths
    by_left zero h lt e written = absurd (some (omega arith))
    by_left (suc more) h lt e written =
        let power = pow-suc 10 more in
        let same : unit ≡ 10 ^ more = omega arith in
        let positive : 0 < 10 ^ more = one-le-pow more 10 (omega arith) in
        let digit : rest / 10 ^ more < 10 = div_below rest (10 ^ more) 10 positive (omega arith) in
        let not_zero : eqb rest 0 ≡ false = ne_eqb rest 0 some in
        let first : places_text (suc more) rest ≡ (48 + rest / 10 ^ more) ∷ places_text more (rest % 10 ^ more) =
        cond-false _ _ _ not_zero in
        record {
          some = omega arith;
          digit = rw same digit;
          next = λ new made. (
            more,
            omega arith,
            rw same (mod_below rest (10 ^ more) positive),
            ap (λ n. n / 10) same,
            ap (λ xs. xs ++ places_text more (rest % unit)) made ∙ append_assoc text ((48 + rest / unit) ∷ [])
                (places_text more (rest % unit))
                ∙ ap (λ n. text ++ (48 + rest / n) ∷ places_text more (rest % n)) same
                ∙ sym (ap (λ xs. text ++ xs) first) ∙ written,
          );
        }

pub fraction-end : (text start old : List ℕ) (unit billionths rest : ℕ)
    → FractionSoFar text start rest unit billionths → rest ≡ 0 → start ≡ old ++ 46 ∷ [] → billionths ≢ 0
    → text ≡ old ++ fraction_text billionths
fraction-end text start old unit billionths rest so_far none begun some =
    let nothing : places_text so_far.0 rest ≡ [] = ap (places_text so_far.0) none ∙ empty so_far.0 in
    let not_zero : eqb billionths 0 ≡ false = ne_eqb billionths 0 some in
    sym (append-nil text) ∙ sym (ap (λ xs. text ++ xs) nothing) ∙ so_far.4 ∙ ap (λ xs. xs ++ places_text 9 billionths)
    begun ∙ append_assoc old (46 ∷ []) (places_text 9 billionths)
    ∙ ap (λ xs. old ++ xs) (sym (cond-false _ _ _ not_zero))
  where
    empty : (k : ℕ) → places_text k 0 ≡ []
    empty zero = refl
    empty (suc k) = refl

-- The number of decimal digits is read back.
use Rattle.std.proofs.Common.{◌≡◌, ℕ, ◌+◌, ◌-◌, ◌*◌, ◌/◌, ◌%◌, ◌^◌, ◌<◌, ◌≤◌, Bool, true, false, cond, List, []}
use Rattle.std.proofs.Common.{◌∷◌, ◌++◌, refl, ap, ◌∙◌, arith, ltb-true, subst}
use Rattle.std.specs.Prelude.{Option, Some, None, decimal, nat_le, nat_lt, ◌&&◌, option_and_then, unwrap_or}
use Rattle.std.proofs.lemmas.Bool.Decides.{nat_tests}
use Rattle.std.proofs.lemmas.Fmt.{decimal_by_steps}
use Rattle.std.proofs.lemmas.Option.{same_Some}
use Rattle.harvest_rows.specs.Readings.{digits_from, number_spelled, with_digit}

-- ---- the digits of a number

last_digit : (o : Option ℕ) → option_and_then (λ m. digits_from m []) o ≡ o
last_digit None = refl
last_digit (Some m) = refl

digits_from-last : (n : ℕ) (cs : List ℕ) (c : ℕ)
    → digits_from n (cs ++ c ∷ []) ≡ option_and_then (λ m. with_digit m c) (digits_from n cs)
digits_from-last n [] c = last_digit (with_digit n c)
digits_from-last n (x ∷ cs) c = by (with_digit n x) (λ m. digits_from-last m cs c)
  where
    by : (o : Option ℕ)
        → ((m : ℕ) → digits_from m (cs ++ c ∷ []) ≡ option_and_then (λ k. with_digit k c) (digits_from m cs))
        → option_and_then (λ m. digits_from m (cs ++ c ∷ [])) o
        ≡ option_and_then (λ k. with_digit k c) (option_and_then (λ m. digits_from m cs) o)
    by None rest = refl
    by (Some m) rest = rest m

-- one more digit
with_digit-more : (k d : ℕ) → d < 10 → k * 10 + d < 2 ^ 64 → with_digit k (48 + d) ≡ Some (k * 10 + d)
with_digit-more k d digit small =
    let low : nat_le 48 (48 + d) ≡ true = grind (arith, nat_tests) in
    let high : nat_le (48 + d) 57 ≡ true = (let below : 48 + d ≤ 57 = omega arith in grind (arith, nat_tests)) in
    let same : k * 10 + (48 + d - 48) ≡ k * 10 + d = omega arith in
    let fits : nat_lt (k * 10 + d) (2 ^ 64) ≡ true = grind (arith, nat_tests) in
    rw (low, high, same, fits) refl

-- the digits have this number, if it is a `u64`
abbrev AreDigitsOf : ℕ → List ℕ → Type 0
AreDigitsOf n digits = n < 2 ^ 64 → digits_from 0 digits ≡ Some n

first_digit : (n : ℕ) → n < 10 → AreDigitsOf n ((48 + n) ∷ [])
first_digit n digit small =
    last_digit (with_digit 0 (48 + n)) ∙ with_digit-more 0 n digit (omega (arith, digit))
    ∙ ap Some (omega arith)

more_digits : (n : ℕ) (digits : List ℕ) → 10 ≤ n → AreDigitsOf (n / 10) digits
    → AreDigitsOf n (digits ++ ((48 + n % 10) ∷ []))
more_digits n digits long front small =
    let whole : n / 10 * 10 + n % 10 ≡ n = omega arith in
    digits_from-last 0 digits (48 + n % 10)
    ∙ ap (option_and_then (λ m. with_digit m (48 + n % 10))) (front (omega arith))
    ∙ with_digit-more (n / 10) (n % 10) (omega arith) (omega (arith, whole, small))
    ∙ ap Some whole

digits_from-decimal : (n : ℕ) → n < 2 ^ 64 → digits_from 0 (decimal n) ≡ Some n
digits_from-decimal n small = decimal_by_steps AreDigitsOf first_digit more_digits n small small

pub number_spelled-decimal : (n : ℕ) → n < 2 ^ 64 → number_spelled (decimal n) ≡ n
unfolding number_spelled
number_spelled-decimal n small = ap (λ o. unwrap_or o 0) (digits_from-decimal n small)

-- ---- a number that is read is a `u64`

within : (n : ℕ) (b : Bool) (m : ℕ) → nat_lt n (2 ^ 64) ≡ b → cond b (Some n) None ≡ Some m → m < 2 ^ 64
within n true m is e = subst (λ k. k < 2 ^ 64) (same_Some n m e) (ltb-true n (2 ^ 64) is)
within n false m is e = absurd (cc)

with_digit-small : (n c m : ℕ) → with_digit n c ≡ Some m → m < 2 ^ 64
with_digit-small n c m e = by (nat_le 48 c && nat_le c 57) e
  where
    by : (b : Bool)
        → cond (b && nat_lt (n * 10 + (c - 48)) (2 ^ 64)) (Some (n * 10 + (c - 48))) None ≡ Some m → m < 2 ^ 64
    by true h = within (n * 10 + (c - 48)) (nat_lt (n * 10 + (c - 48)) (2 ^ 64)) m refl h
    by false h = absurd (cc)

digits_from-small : (n : ℕ) (cs : List ℕ) (m : ℕ) → n < 2 ^ 64 → digits_from n cs ≡ Some m → m < 2 ^ 64
digits_from-small n [] m small e = subst (λ k. k < 2 ^ 64) (same_Some n m e) small
digits_from-small n (c ∷ cs) m small e = by (with_digit n c) refl e (λ k fits h. digits_from-small k cs m fits h)
  where
    by : (o : Option ℕ) → with_digit n c ≡ o → option_and_then (λ k. digits_from k cs) o ≡ Some m
        → ((k : ℕ) → k < 2 ^ 64 → digits_from k cs ≡ Some m → m < 2 ^ 64) → m < 2 ^ 64
    by None is h rest = absurd (cc)
    by (Some k) is h rest = rest k (with_digit-small n c k is) h

spelled_small : (text : List ℕ) (o : Option ℕ) → digits_from 0 text ≡ o → unwrap_or o 0 < 2 ^ 64
spelled_small text None is = omega arith
spelled_small text (Some n) is = digits_from-small 0 text n (omega arith) is

pub number_spelled-small : (text : List ℕ) → number_spelled text < 2 ^ 64
unfolding number_spelled
number_spelled-small text = spelled_small text (digits_from 0 text) refl

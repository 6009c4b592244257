-- The digits of a number, as they are read.
use Rattle.std.proofs.Common.{◌≡◌, ◌≢◌, inl, inr, ⊎_elim, ℕ, zero, suc, ◌+◌, ◌-◌, ◌*◌, ◌/◌, ◌%◌, ◌^◌, ◌<◌, ◌≤◌, true}
use Rattle.std.proofs.Common.{false, cond, eqb, ltb, refl, sym, ap, ◌∙◌, subst, arith, Bool, List, [], ◌∷◌, ◌++◌}
use Rattle.std.proofs.Common.{length, ℤ, pos, negsuc, ◌+ℤ◌, ◌-ℤ◌, ◌<ℤ◌, ◌≤ℤ◌, neg_ℤ, to_z, of_z, length-append}
use Rattle.std.specs.Prelude.{Option, Some, None, IfNone, IfSome, option_and_then, unsigned_abs}
use Rattle.std.specs.Bool.{then_some}
use lib.Signed.{lt_z}
use Rattle.std.specs.Int.{w128}
use Rattle.std.specs.List.{list_all}
use Rattle.std.proofs.Math.Nat.{pow-suc, one-le-pow, pow-le-pow_right, mul-le-mul_left, mul-le-mul_right}
use Rattle.std.proofs.Math.Nat.{le-mul_of_pos_right, le_of_mul-le-mul_left, eq_of_mul-eq-mul_right, mul-mod_left}
use Rattle.std.proofs.Math.Nat.{mul-div_cancel}
use Rattle.std.proofs.lemmas.Nat.{pow-add, div-add-mod', same_from_place}
use Rattle.std.proofs.lemmas.Grind.{pow_more}
use Rattle.std.proofs.lemmas.Int.{ints}
use Rattle.std.proofs.lemmas.Bool.{cases_lt, le-ltb, eq-eqb, eqb-true, ltb-true, ltb-false, lt-ltb, ne_eqb, cond-true}
use Rattle.std.proofs.lemmas.Bool.{cond-false}
use Rattle.lexical_forms.specs.declared.number.significand.Significand.{Significand}
use Rattle.lexical_forms.specs.Digits.{is_digit, spelled}
use Rattle.lexical_forms.specs.Number.{scaled, in_range}
use Rattle.lexical_forms.specs.Significand.{Spells, IsLong, Adds, IsLimited}
use Rattle.lexical_forms.proofs.NumberLemmas.{spelled-append, spelled-push, spelled-lt}

-- ---- powers of ten

pub one_more : (value start k : ℕ) → value ≡ start * 10 ^ k → value * 10 ≡ start * 10 ^ (k + 1)
one_more value start k e = step value start (10 ^ k) (10 ^ (k + 1)) e (pow_more 10 k)
  where
    step : (v s p q : ℕ) → v ≡ s * p → q ≡ p * 10 → v * 10 ≡ s * q
    step v s p q e f = omega (arith, ap (λ n. s * n) f)

pub no_less : (start j k : ℕ) → j ≤ k → start * 10 ^ j ≤ start * 10 ^ k
no_less start j k h =
    let power : 10 ^ j ≤ 10 ^ k = pow-le-pow_right (omega arith) h in
    mul-le-mul_left start power

pub long_already : (value start k zeros : ℕ) → value ≡ start * 10 ^ k → k < zeros → 10 ^ 27 ≤ value * 10
    → 10 ^ 27 ≤ start * 10 ^ zeros
long_already value start k zeros e h long =
    omega (arith, one_more value start k e, no_less start (k + 1) zeros (omega arith))

ten : (k : ℕ) → 0 < 10 ^ k
ten k = one-le-pow k 10 (omega arith)

-- ---- numbers that are too long

times_power : (value k : ℕ) → (value * 10 ^ suc k) % 10 ≡ 0
times_power value k =
    let e : value * 10 ^ suc k ≡ value * 10 ^ k * 10 = step value (10 ^ k) (10 ^ suc k) (pow-suc 10 k) in
    rw e (mul-mod_left (value * 10 ^ k) 10)
  where
    step : (v p q : ℕ) → q ≡ p * 10 → v * q ≡ v * p * 10
    step v p q e = omega (arith, ap (λ n. v * n) e)

pub IsLong-last : (cs : List ℕ) → 10 ^ 27 ≤ spelled cs → 0 < spelled cs % 10 → IsLong cs
IsLong-last cs long last value zero e = omega arith
IsLong-last cs long last value (suc k) e = absurd (omega (arith, times_power value k, ap (λ n. n % 10) e))

-- Appending digits keeps a too long number too long.
pub IsLong-append : (cs ds : List ℕ) → list_all is_digit ds ≡ true → IsLong cs → IsLong (cs ++ ds)
IsLong-append cs ds digits long value zeros e =
    let total : spelled cs * 10 ^ length ds + spelled ds ≡ value * 10 ^ zeros = sym (spelled-append cs ds) ∙ e in
    ⊎_elim (λ h. short h total) (λ h. whole h total) (cases_lt zeros (length ds))
  where
    big : 10 ^ 27 ≤ spelled cs
    big = long (spelled cs) 0 (omega arith)

    short : zeros < length ds → spelled cs * 10 ^ length ds + spelled ds ≡ value * 10 ^ zeros → 10 ^ 27 ≤ value
    short h total =
        let power : 10 ^ length ds ≡ 10 ^ (length ds - zeros) * 10 ^ zeros =
        ap (λ n. 10 ^ n) (let n : length ds ≡ length ds - zeros + zeros = omega arith in n)
        ∙ pow-add 10 (length ds - zeros) zeros in
        omega (
          arith,
          big,
          at_least (spelled cs) (10 ^ length ds) (spelled ds) value (10 ^ zeros)
              (10 ^ (length ds - zeros)) power (ten (length ds - zeros)) (ten zeros) total,
        )
      where
        at_least : (s p t v z w : ℕ) → p ≡ w * z → 0 < w → 0 < z → s * p + t ≡ v * z → s ≤ v
        at_least s p t v z w e h k f =
            let wider : s ≤ s * w = le-mul_of_pos_right s h in
            let raised : z * s ≤ z * (s * w) = mul-le-mul_left z wider in
            let low : z * s ≤ z * v = omega (arith, raised, ap (λ n. s * n) e, f) in
            le_of_mul-le-mul_left low k

    whole : length ds ≤ zeros → spelled cs * 10 ^ length ds + spelled ds ≡ value * 10 ^ zeros → 10 ^ 27 ≤ value
    whole h total =
        let power : 10 ^ zeros ≡ 10 ^ (zeros - length ds) * 10 ^ length ds =
        ap (λ n. 10 ^ n) (let n : zeros ≡ zeros - length ds + length ds = omega arith in n)
        ∙ pow-add 10 (zeros - length ds) (length ds) in
        long value (zeros - length ds)
        (same (spelled cs) (10 ^ length ds) (spelled ds) value (10 ^ zeros) (10 ^ (zeros - length ds)) power
        (spelled-lt ds digits) total)
      where
        same : (s p t v z w : ℕ) → z ≡ w * p → t < p → s * p + t ≡ v * z → s ≡ v * w
        same s p t v z w e h f =
            let total : s * p + t ≡ v * w * p + 0 = omega (arith, ap (λ n. v * n) e) in
            (same_from_place s t (v * w) 0 p h (omega arith) total).0

-- A too long number isn't a number of billionths.
pub scaled-long : (cs : List ℕ) (e : ℤ) → IsLong cs → option_and_then in_range (scaled (spelled cs) e) ≡ None
scaled-long cs (pos up) long =
    let big : 10 ^ 27 ≤ spelled cs = long (spelled cs) 0 (omega arith) in
    let size : ltb (spelled cs * 10 ^ up) (10 ^ 27) ≡ false =
    le-ltb (spelled cs * 10 ^ up) (10 ^ 27) (omega (arith, no_less (spelled cs) 0 up (omega arith))) in
    rw size refl
scaled-long cs (negsuc down) long = by_rest (eqb (spelled cs % 10 ^ suc down) 0) refl
  where
    by_rest : (b : Bool) → eqb (spelled cs % 10 ^ suc down) 0 ≡ b
        → option_and_then in_range (cond b (Some (spelled cs / 10 ^ suc down)) None) ≡ None
    by_rest true e =
        let rest : spelled cs % 10 ^ suc down ≡ 0 = eqb-true (spelled cs % 10 ^ suc down) 0 e in
        let total : spelled cs ≡ spelled cs / 10 ^ suc down * 10 ^ suc down =
        omega (arith, div-add-mod' (spelled cs) (10 ^ suc down)) in
        let big : 10 ^ 27 ≤ spelled cs / 10 ^ suc down = long (spelled cs / 10 ^ suc down) (suc down) total in
        let size : ltb (spelled cs / 10 ^ suc down) (10 ^ 27) ≡ false =
        le-ltb (spelled cs / 10 ^ suc down) (10 ^ 27) big in
        rw size refl
    by_rest false e = refl

-- ---- the size of a number in billionths

-- The decimal point moves to the end of the trailing zeros.
pub scaled-exact : (value zeros k : ℕ) (e : ℤ) → e +ℤ pos zeros ≡ pos k
    → scaled (value * 10 ^ zeros) e ≡ Some (value * 10 ^ k)
scaled-exact value zeros k (pos up) h =
    let n : zeros + up ≡ k = omega (arith, ints) in
    ap Some (step value (10 ^ zeros) (10 ^ up) (10 ^ k) (ap (λ x. 10 ^ x) (sym n) ∙ pow-add 10 zeros up))
  where
    step : (v p q r : ℕ) → r ≡ p * q → v * p * q ≡ v * r
    step v p q r e = omega (arith, ap (λ n. v * n) e)
scaled-exact value zeros k (negsuc down) h =
    let n : zeros ≡ k + suc down = omega (arith, ints) in
    let total : value * 10 ^ zeros ≡ value * 10 ^ k * 10 ^ suc down =
    step value (10 ^ k) (10 ^ suc down) (10 ^ zeros) (ap (λ x. 10 ^ x) n ∙ pow-add 10 k (suc down)) in
    let whole : eqb ((value * 10 ^ zeros) % 10 ^ suc down) 0 ≡ true =
    eq-eqb ((value * 10 ^ zeros) % 10 ^ suc down) 0
    (ap (λ x. x % 10 ^ suc down) total ∙ mul-mod_left (value * 10 ^ k) (10 ^ suc down)) in
    cond-true _ _ _ whole
    ∙ ap Some (ap (λ x. x / 10 ^ suc down) total ∙ mul-div_cancel (value * 10 ^ k) (ten (suc down)))
  where
    step : (v p q r : ℕ) → r ≡ p * q → v * r ≡ v * p * q
    step v p q r e = omega (arith, ap (λ n. v * n) e)

scaled-low : (value places : ℕ) (e : ℤ) → 0 < value % 10 → (e +ℤ pos places) <ℤ pos 0
    → scaled (value * 10 ^ places) e ≡ None
scaled-low value places (pos up) last h = absurd (omega (arith, ints))
scaled-low value places (negsuc down) last h =
    cond-false _ _ _ (ne_eqb ((value * 10 ^ places) % 10 ^ suc down) 0 refused)
  where
    refused : (value * 10 ^ places) % 10 ^ suc down ≡ 0 → ⊥
    refused rest =
        let n : suc down ≡ suc (down - places) + places = omega (arith, ints) in
        let power : 10 ^ suc down ≡ 10 ^ suc (down - places) * 10 ^ places =
        ap (λ x. 10 ^ x) n ∙ pow-add 10 (suc (down - places)) places in
        let quotient = value * 10 ^ places / 10 ^ suc down in
        let total : value * 10 ^ places ≡ quotient * 10 ^ suc (down - places) * 10 ^ places =
        omega (arith, div-add-mod' (value * 10 ^ places) (10 ^ suc down), ap (λ x. quotient * x) power) in
        let same : value ≡ quotient * 10 ^ suc (down - places) =
        eq_of_mul-eq-mul_right (10 ^ places) (ten places) value (quotient * 10 ^ suc (down - places)) total in
        omega (arith, times_power quotient (down - places), ap (λ x. x % 10) same)

in_range-high : (value k : ℕ) → 0 < value → 26 < k → in_range (value * 10 ^ k) ≡ None
in_range-high value k h high =
    let bound : 10 ^ 27 ≤ 10 ^ k = pow-le-pow_right (omega arith) high in
    let raised : 1 * 10 ^ k ≤ value * 10 ^ k = mul-le-mul_right (10 ^ k) h in
    cond-false _ _ _ (le-ltb (value * 10 ^ k) (10 ^ 27) (omega (arith, bound, raised)))

pub natural : (z : ℤ) → pos 0 ≤ℤ z → z ≡ pos (unsigned_abs z)
natural (pos n) h = refl
natural (negsuc n) h = absurd (omega (arith, ints))

-- The size in billionths, by the count of zeros after the value.
pub record Moved (digits : Significand) (cs : List ℕ) (e z : ℤ) : Type 0 where
  pub low : z <ℤ pos 0 → option_and_then in_range (scaled (spelled cs) e) ≡ None
  pub high : pos 26 <ℤ z → option_and_then in_range (scaled (spelled cs) e) ≡ None
  pub exact : (k : ℕ) → z ≡ pos k → k ≤ 26
      → option_and_then in_range (scaled (spelled cs) e) ≡ in_range (digits.value * 10 ^ k)

moved-by : (digits : Significand) (cs : List ℕ) (e z : ℤ) → Spells digits cs → 0 < digits.value % 10
    → (z <ℤ pos 0 → (e +ℤ pos digits.zeros) <ℤ pos 0) → (pos 26 <ℤ z → pos 26 <ℤ (e +ℤ pos digits.zeros))
    → ((k : ℕ) → z ≡ pos k → k ≤ 26 → e +ℤ pos digits.zeros ≡ pos k) → Moved digits cs e z
moved-by digits cs e z spells last low high exact = record {
  low = λ h. rw number (rw (scaled-low digits.value digits.zeros e last (low h)) refl);
  high = λ h. above (high h);
  exact = λ k h small. rw number (rw (scaled-exact digits.value digits.zeros k e (exact k h small)) refl);
}
  where
    number : spelled cs ≡ digits.value * 10 ^ digits.zeros
    number = spells.number

    above : pos 26 <ℤ (e +ℤ pos digits.zeros) → option_and_then in_range (scaled (spelled cs) e) ≡ None
    above h =
        let k = unsigned_abs (e +ℤ pos digits.zeros) in
        let there : e +ℤ pos digits.zeros ≡ pos k = natural (e +ℤ pos digits.zeros) (omega (arith, ints)) in
        let filled : 0 < digits.value = omega arith in
        rw number
        (rw (scaled-exact digits.value digits.zeros k e there)
        (in_range-high digits.value k filled (omega (arith, ints))))

pub moved : (digits : Significand) (cs : List ℕ) (whole exponent after : ℤ) → Spells digits cs
    → IsLimited whole exponent → digits.value ≢ 0 → digits.zeros < 2 ^ 64 → pos 0 ≤ℤ after → after <ℤ pos (2 ^ 64)
    → Moved digits cs (pos 9 +ℤ whole -ℤ after) (pos 9 +ℤ exponent +ℤ pos digits.zeros -ℤ after)
moved digits cs whole exponent after spells limited some small low high =
    let last : 0 < digits.value % 10 = ⊎_elim (λ h. absurd (some h.0)) (λ h. h) spells.trimmed in
    by_case last limited
  where
    by_case : 0 < digits.value % 10 → IsLimited whole exponent
        → Moved digits cs (pos 9 +ℤ whole -ℤ after) (pos 9 +ℤ exponent +ℤ pos digits.zeros -ℤ after)
    by_case last (inl e) = moved-by digits cs _ _ spells last (λ h. omega (arith, ints)) (λ h. omega (arith, ints))
        (λ k h le. omega (arith, ints))
    by_case last (inr (inl e)) = moved-by digits cs _ _ spells last (λ h. omega (arith, ints, e.0, e.1))
        (λ h. omega (arith, ints, e.0, e.1)) (λ k h le. omega (arith, ints, e.0, e.1))
    by_case last (inr (inr e)) = moved-by digits cs _ _ spells last (λ h. omega (arith, ints, e.0, e.1))
        (λ h. omega (arith, ints, e.0, e.1)) (λ k h le. omega (arith, ints, e.0, e.1))

-- the sum of the zeros, as it is computed
pub zeros_computed : (exponent other after : ℤ) (places : ℕ) → neg_ℤ (pos (2 ^ 100)) ≤ℤ exponent
    → exponent ≤ℤ pos (2 ^ 100) → other ≡ pos places → places < 2 ^ 64 → pos 0 ≤ℤ after → after <ℤ pos (2 ^ 64)
    → to_z w128
    (of_z w128
    (to_z w128
    (of_z w128 (to_z w128 (of_z w128 (pos 9 +ℤ to_z w128 (of_z w128 exponent))) +ℤ to_z w128 (of_z w128 other))) -ℤ
    to_z w128 (of_z w128 after))) ≡ pos 9 +ℤ exponent +ℤ pos places -ℤ after
zeros_computed exponent other after places low high same small first last = omega (arith, ints)

pub at_zeros : (digits : Significand) (cs : List ℕ) (e z computed : ℤ) → Moved digits cs e z → computed ≡ z
    → lt_z computed (pos 0) ≡ false → lt_z (pos 26) computed ≡ false
    → in_range (digits.value * 10 ^ unsigned_abs computed) ≡ option_and_then in_range (scaled (spelled cs) e)
at_zeros digits cs e z computed m same low high =
    let there = natural z (omega (arith, ints)) in
    ap (λ x. in_range (digits.value * 10 ^ unsigned_abs x)) same
    ∙ sym (m.exact (unsigned_abs z) there (omega (arith, ints)))

pub shifted-is : (o : Option ℕ) (n : ℕ) → IfNone o (10 ^ 27 ≤ n) → IfSome o (λ v. (v ≡ n) × (v < 10 ^ 27))
    → o ≡ in_range n
shifted-is None n h k = sym (cond-false _ _ _ (le-ltb n (10 ^ 27) h))
shifted-is (Some v) n h k = ap Some k.0 ∙ sym (cond-true _ _ _ (lt-ltb n (10 ^ 27) (omega (arith, k.0, k.1))))

-- ---- one more digit

abbrev pub pushed : ℕ → ℕ → ℕ → Significand
pushed value zeros count = record { value = value; zeros = zeros; count = count }

pub Spells-zero : (self : Significand) (cs : List ℕ) (digit : ℕ) → self.value ≡ 0 → digit ≡ 0 → Spells self cs
    → Spells (pushed self.value self.zeros (self.count + 1)) (cs ++ (digit + 48) ∷ [])
Spells-zero self cs digit none last h = record {
  number = step (spelled cs) self.value (10 ^ self.zeros) (spelled (cs ++ (digit + 48) ∷ [])) h.number none
      (omega (arith, spelled-push cs (digit + 48)));
  small = h.small;
  trimmed = h.trimmed;
  counted = omega (arith, h.counted, length-append cs ((digit + 48) ∷ []));
  few = omega (arith, h.few);
}
  where
    step : (s v p t : ℕ) → s ≡ v * p → v ≡ 0 → t ≡ s * 10 → t ≡ v * p
    step s v p t e f g = omega (arith, ap (λ n. n * p) f)

pub Spells-more_zeros : (self : Significand) (cs : List ℕ) (digit : ℕ) → self.value ≢ 0 → digit ≡ 0 → Spells self cs
    → Spells (pushed self.value (self.zeros + 1) (self.count + 1)) (cs ++ (digit + 48) ∷ [])
Spells-more_zeros self cs digit some last h = record {
  number = omega (arith, spelled-push cs (digit + 48), one_more (spelled cs) self.value self.zeros h.number);
  small = h.small;
  trimmed = inr (⊎_elim (λ k. absurd (some k.0)) (λ k. k) h.trimmed);
  counted = omega (arith, h.counted, length-append cs ((digit + 48) ∷ []));
  few = omega (arith, h.few);
}

pub Spells-digit : (self : Significand) (cs : List ℕ) (digit value shifted : ℕ) → 0 < digit → digit < 10
    → shifted ≡ self.value * 10 ^ (self.zeros + 1) → value ≡ shifted + digit → value < 10 ^ 27 → Spells self cs
    → Spells (pushed value 0 (self.count + 1)) (cs ++ (digit + 48) ∷ [])
Spells-digit self cs digit value shifted some ten e f small h =
    let tens : spelled cs * 10 ≡ shifted = one_more (spelled cs) self.value self.zeros h.number ∙ sym e in
    record {
      number = omega (arith, spelled-push cs (digit + 48));
      small = small;
      trimmed = inr (omega arith);
      counted = omega (arith, h.counted, length-append cs ((digit + 48) ∷ []));
      few = omega arith;
    }

pub IsLong-digit : (self : Significand) (cs : List ℕ) (digit : ℕ) → 0 < digit → digit < 10
    → 10 ^ 27 ≤ self.value * 10 ^ (self.zeros + 1) + digit → Spells self cs → IsLong (cs ++ (digit + 48) ∷ [])
IsLong-digit self cs digit some low long h =
    let tens = one_more (spelled cs) self.value self.zeros h.number in
    let total = spelled-push cs (digit + 48) in
    IsLong-last (cs ++ (digit + 48) ∷ []) (omega arith) (omega arith)

pub Adds-digit : (self : Significand) (digit value shifted : ℕ) (b : Bool) (o : Option Significand) → 0 < digit
    → digit < 10 → shifted ≡ self.value * 10 ^ (self.zeros + 1) → value ≡ shifted + digit → b ≡ ltb value (10 ^ 27)
    → o ≡ then_some b (pushed value 0 (self.count + 1)) → Adds self ((digit + 48) ∷ []) o
Adds-digit self digit value shifted true o some low e f small made =
    subst (Adds self ((digit + 48) ∷ [])) (sym made)
    (λ cs h. Spells-digit self cs digit value shifted some low e f (ltb-true value (10 ^ 27) (sym small)) h)
Adds-digit self digit value shifted false o some low e f small made =
    subst (Adds self ((digit + 48) ∷ [])) (sym made)
    (λ cs h. IsLong-digit self cs digit some low (omega (arith, ltb-false value (10 ^ 27) (sym small))) h)

-- The size of a number: moving the decimal point multiplies or divides by powers of ten.
use Rattle.std.proofs.Common.{◌≡◌, ℕ, suc, ◌+◌, ◌*◌, ◌/◌, ◌%◌, ◌^◌, ◌<◌, refl, sym, ap, ◌∙◌, arith, eqb, ℤ, pos}
use Rattle.std.proofs.Common.{negsuc, ◌+ℤ◌, ◌-ℤ◌}
use Rattle.std.specs.Prelude.{Some}
use Rattle.std.proofs.Math.Nat.{one-le-pow, eq_of_mul-eq-mul_right}
use Rattle.std.proofs.lemmas.Bool.{eqb-true}
use Rattle.std.proofs.lemmas.Int.{ints}
use Rattle.std.proofs.lemmas.Nat.{pow-add, div-add-mod'}
use Rattle.lexical_forms.specs.Forms.{multiplier, divisor}
use Rattle.lexical_forms.specs.Number.{scaled}
use Rattle.lexical_forms.proofs.ReadingLemmas.{if-some}
use Rattle.lexical_forms.proofs.SignificandLemmas.{scaled-exact}

ten : (k : ℕ) → 0 < 10 ^ k
ten k = one-le-pow k 10 (omega arith)

-- a product with a factor that is a product
regroup : (v p q r : ℕ) → r ≡ p * q → v * p * q ≡ v * r
regroup v p q r e = omega (arith, ap (λ n. v * n) e)

raised : (v j k m : ℕ) → m ≡ j + k → v * 10 ^ j * 10 ^ k ≡ v * 10 ^ m
raised v j k m e = regroup v (10 ^ j) (10 ^ k) (10 ^ m) (ap (λ n. 10 ^ n) e ∙ pow-add 10 j k)

-- The equation of two numbers stays true when both powers of ten move by the same count.
scaled-gives : (value n down up : ℕ) (e : ℤ) → e +ℤ pos down ≡ pos up → scaled value e ≡ Some n
    → n * 10 ^ down ≡ value * 10 ^ up
scaled-gives value n down up (pos k) h e =
    let same : value * 10 ^ k ≡ n = cc (e) in
    ap (λ x. x * 10 ^ down) (sym same) ∙ raised value k down up (omega (arith, ints))
scaled-gives value n down up (negsuc k) h e =
    let kept = if-some (eqb (value % 10 ^ suc k) 0) (Some (value / 10 ^ suc k)) n e in
    let rest : value % 10 ^ suc k ≡ 0 = eqb-true (value % 10 ^ suc k) 0 kept.0 in
    let same : value / 10 ^ suc k ≡ n = cc (kept.1) in
    let total : n * 10 ^ suc k ≡ value =
    ap (λ x. x * 10 ^ suc k) (sym same) ∙ whole (value / 10 ^ suc k * 10 ^ suc k) (value % 10 ^ suc k) value rest
    (div-add-mod' value (10 ^ suc k)) in
    sym (raised n (suc k) up down (omega (arith, ints))) ∙ ap (λ x. x * 10 ^ up) total
  where
    whole : (a b c : ℕ) → b ≡ 0 → a + b ≡ c → a ≡ c
    whole a b c e f = omega arith

gives-scaled : (value n down up : ℕ) (e : ℤ) → e +ℤ pos down ≡ pos up → n * 10 ^ down ≡ value * 10 ^ up
    → scaled value e ≡ Some n
gives-scaled value n down up (pos k) h e =
    let total : value * 10 ^ k * 10 ^ down ≡ n * 10 ^ down = raised value k down up (omega (arith, ints)) ∙ sym e in
    ap Some (eq_of_mul-eq-mul_right (10 ^ down) (ten down) (value * 10 ^ k) n total)
gives-scaled value n down up (negsuc k) h e =
    let total : n * 10 ^ suc k * 10 ^ up ≡ value * 10 ^ up = raised n (suc k) up down (omega (arith, ints)) ∙ e in
    let same : n * 10 ^ suc k ≡ value = eq_of_mul-eq-mul_right (10 ^ up) (ten up) (n * 10 ^ suc k) value total in
    ap (λ x. scaled x (negsuc k)) (sym same) ∙ scaled-exact n (suc k) 0 (negsuc k) (omega (arith, ints))
    ∙ ap Some (omega arith)

-- ---- billionths

one_more : (a b : ℕ) → a ≡ b → a * 1 ≡ b
one_more a b e = omega arith

pub size_of : (value n places : ℕ) (power : ℤ) → scaled value (pos 9 +ℤ power -ℤ pos places) ≡ Some n
    → n * 10 ^ places * divisor power ≡ value * 10 ^ 9 * multiplier power
size_of value n places (pos up) e =
    one_more (n * 10 ^ places) (value * 10 ^ 9 * 10 ^ up)
    (scaled-gives value n places (9 + up) _ (omega (arith, ints)) e ∙ sym (raised value 9 up (9 + up) refl))
size_of value n places (negsuc down) e =
    raised n places (suc down) (places + suc down) refl
    ∙ scaled-gives value n (places + suc down) 9 _ (omega (arith, ints)) e ∙ sym (one_more (value * 10 ^ 9) _ refl)

pub of_size : (value n places : ℕ) (power : ℤ) → n * 10 ^ places * divisor power ≡ value * 10 ^ 9 * multiplier power
    → scaled value (pos 9 +ℤ power -ℤ pos places) ≡ Some n
of_size value n places (pos up) e =
    gives-scaled value n places (9 + up) _ (omega (arith, ints))
    (sym (one_more (n * 10 ^ places) _ refl) ∙ e ∙ raised value 9 up (9 + up) refl)
of_size value n places (negsuc down) e =
    gives-scaled value n (places + suc down) 9 _ (omega (arith, ints))
    (sym (raised n places (suc down) (places + suc down) refl) ∙ e ∙ one_more (value * 10 ^ 9) _ refl)

-- Texts read as whole numbers if and only if they have the form of one.
use Rattle.std.proofs.Common.{◌≡◌, ℕ, ◌^◌, true, false}
use Rattle.std.proofs.Common.{◌||◌, eqb, refl, sym, ap, ◌∙◌, subst, arith, Bool, List, [], ◌∷◌, ◌++◌}
use Rattle.std.proofs.Common.{ℤ, pos, negsuc}
use Rattle.std.specs.Prelude.{◌↔◌, Some}
use Rattle.std.specs.List.{list_all}
use Rattle.std.proofs.lemmas.Bool.{and_parts, cond-true, eqb-true, ltb-true, lt-ltb}
use Rattle.std.proofs.lemmas.Bool.Decides.{nat_tests}
use Rattle.std.proofs.lemmas.Int.{ints}
use Rattle.lexical_forms.specs.Digits.{is_digit, is_sign, is_digits, is_negative, spelled, unsigned, signed}
use Rattle.lexical_forms.specs.Forms.{IsSign, IsIntegerText, IsI64}
use Rattle.lexical_forms.specs.Forms.IsSign.{none, plus, minus}
use Rattle.lexical_forms.specs.Number.{i64_only, is_i64, integer_text_reading}
use Rattle.lexical_forms.proofs.ReadingLemmas.{if-some}

-- ---- the leading sign of a text

pub record SignIn (text : List ℕ) : Type 0 where
  pub sign : List ℕ
  pub cut : text ≡ sign ++ unsigned text
  pub signs : IsSign sign (is_negative text)

pub sign_in : (text : List ℕ) → SignIn text
sign_in [] = record { sign = []; cut = refl; signs = none }
sign_in (c ∷ cs) = by_sign (eqb c 43) (eqb c 45) refl refl
  where
    by_sign : (p m : Bool) → eqb c 43 ≡ p → eqb c 45 ≡ m → SignIn (c ∷ cs)
    by_sign true true e f = absurd (omega (arith, eqb-true c 43 e, eqb-true c 45 f))
    by_sign true false e f =
        record {
          sign = 43 ∷ [];
          cut = rw e (ap (λ n. n ∷ cs) (eqb-true c 43 e));
          signs = rw f plus;
        }
    by_sign false true e f =
        record {
          sign = 45 ∷ [];
          cut = rw (e, f) (ap (λ n. n ∷ cs) (eqb-true c 45 f));
          signs = rw f minus;
        }
    by_sign false false e f = record { sign = []; cut = rw (e, f) refl; signs = rw f none }

-- the text starts with no sign
abbrev pub HasNoSign : List ℕ → Type 0
HasNoSign [] = Unit {0}
HasNoSign (c ∷ cs) = is_sign c ≡ false

unsigned-none : (text : List ℕ) → HasNoSign text → unsigned text ≡ text
unsigned-none [] h = refl
unsigned-none (c ∷ cs) h = rw h refl

is_negative-none : (text : List ℕ) → HasNoSign text → is_negative text ≡ false
is_negative-none [] h = refl
is_negative-none (c ∷ cs) h = by_sign (eqb c 43) (eqb c 45) h
  where
    by_sign : (p m : Bool) → (p || m) ≡ false → m ≡ false
    by_sign true m e = cc
    by_sign false m e = e

pub unsigned-sign : (sign rest : List ℕ) (negative : Bool) → IsSign sign negative → HasNoSign rest
    → unsigned (sign ++ rest) ≡ rest
unsigned-sign _ rest _ none h = unsigned-none rest h
unsigned-sign _ rest _ plus h = refl
unsigned-sign _ rest _ minus h = refl

pub is_negative-sign : (sign rest : List ℕ) (negative : Bool) → IsSign sign negative → HasNoSign rest
    → is_negative (sign ++ rest) ≡ negative
is_negative-sign _ rest _ none h = is_negative-none rest h
is_negative-sign _ rest _ plus h = refl
is_negative-sign _ rest _ minus h = refl

pub is_digit-no_sign : (c : ℕ) → is_digit c ≡ true → is_sign c ≡ false
is_digit-no_sign c h = grind (arith, nat_tests)

pub digits-no_sign : (ds : List ℕ) → is_digits ds ≡ true → HasNoSign ds
digits-no_sign [] h = tt
digits-no_sign (c ∷ cs) h = is_digit-no_sign c (and_parts (is_digit c) (list_all is_digit cs) h).0

-- ---- whole numbers

IsI64-from : (z : ℤ) → is_i64 z ≡ true → IsI64 z
IsI64-from (pos n) h =
    let small = ltb-true n (2 ^ 63) h in
    record { low = omega (arith, ints); high = omega (arith, ints) }
IsI64-from (negsuc n) h =
    let small = ltb-true n (2 ^ 63) h in
    record { low = omega (arith, ints); high = omega (arith, ints) }

is_i64-from : (z : ℤ) → IsI64 z → is_i64 z ≡ true
is_i64-from (pos n) h = lt-ltb n (2 ^ 63) (omega (arith, ints, h.low, h.high))
is_i64-from (negsuc n) h = lt-ltb n (2 ^ 63) (omega (arith, ints, h.low, h.high))

pub integer_form : (text : List ℕ) → is_digits (unsigned text) ≡ true
    → IsIntegerText text (signed (is_negative text) (spelled (unsigned text)))
integer_form text digits =
    let found = sign_in text in
    record {
      sign = found.sign;
      negative = is_negative text;
      digits = unsigned text;
      cut = found.cut;
      signs = found.signs;
      some = digits;
      value = refl;
    }

pub record SameInteger (text : List ℕ) (z : ℤ) : Type 0 where
  pub digits : is_digits (unsigned text) ≡ true
  pub value : signed (is_negative text) (spelled (unsigned text)) ≡ z

pub form_integer : (text : List ℕ) (z : ℤ) → IsIntegerText text z → SameInteger text z
form_integer text z h =
    let no_sign = digits-no_sign h.digits h.some in
    let rest : unsigned text ≡ h.digits =
    ap unsigned h.cut ∙ unsigned-sign h.sign h.digits h.negative h.signs no_sign in
    let minus : is_negative text ≡ h.negative =
    ap is_negative h.cut ∙ is_negative-sign h.sign h.digits h.negative h.signs no_sign in
    record {
      digits = ap is_digits rest ∙ h.some;
      value = ap (λ b. signed b (spelled (unsigned text))) minus ∙ ap (λ ds. signed h.negative (spelled ds)) rest
          ∙ sym h.value;
    }

read_integer : (text : List ℕ) (z : ℤ) → integer_text_reading text ≡ Some z → IsIntegerText text z × IsI64 z
unfolding integer_text_reading
read_integer text z e =
    let found = if-some (is_digits (unsigned text))
    (i64_only (signed (is_negative text) (spelled (unsigned text)))) z e in
    let value = signed (is_negative text) (spelled (unsigned text)) in
    let kept = if-some (is_i64 value) (Some value) z found.1 in
    let same : value ≡ z = cc (kept.1) in
    (subst (IsIntegerText text) same (integer_form text found.0), subst IsI64 same (IsI64-from value kept.0))

integer_reads : (text : List ℕ) (z : ℤ) → IsIntegerText text z × IsI64 z → integer_text_reading text ≡ Some z
unfolding integer_text_reading
integer_reads text z h =
    let same = form_integer text z h.0 in
    cond-true _ _ _ same.digits ∙ ap i64_only same.value ∙ cond-true _ _ _ (is_i64-from z h.1)

pub integer_where_of_form : (text : List ℕ) (z : ℤ)
    → (integer_text_reading text ≡ Some z) ↔ (IsIntegerText text z × IsI64 z)
integer_where_of_form text z = (read_integer text z, integer_reads text z)

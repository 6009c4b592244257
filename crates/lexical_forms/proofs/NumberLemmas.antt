-- Digits and the numbers that they spell, and numbers that are printed and read.
use Rattle.std.proofs.Common.{◌≡◌, ℕ, zero, suc, ◌+◌, ◌-◌, ◌*◌, ◌/◌, ◌%◌, ◌^◌, ◌<◌, ◌≤◌, true, false, ◌&&◌, not, cond}
use Rattle.std.proofs.Common.{eqb, refl, sym, ap, ◌∙◌, arith, ltb, Bool, List, [], ◌∷◌, ◌++◌, length, pos, ◌+ℤ◌, ◌-ℤ◌}
use Rattle.std.proofs.Common.{length-append}
use Rattle.std.specs.Prelude.{Option, Some, None, decimal, filter}
use Rattle.std.specs.List.{list_all}
use Rattle.std.proofs.Math.Nat.{pow-suc, one-le-pow}
use Rattle.std.proofs.lemmas.Nat.{pow-add, div-add-mod', mod_below, div_below}
use Rattle.std.proofs.lemmas.Bool.{and_parts, and_from, lt-ltb}
use Rattle.std.proofs.lemmas.Bool.Decides.{nat_tests}
use Rattle.std.proofs.lemmas.List.Folds.{list_all-append}
use Rattle.std.proofs.lemmas.Int.{ints}
use Rattle.std.proofs.lemmas.Fmt.{decimal_by_steps_wide}
use Rattle.lexical_forms.specs.declared.form.NumberForm.{NumberForm}
use Rattle.lexical_forms.specs.Digits.{is_digit, is_empty, spelled}
use Rattle.lexical_forms.specs.Number.{is_grouped, is_exponent_mark, is_point, split_at_first, parts_of}
use Rattle.lexical_forms.specs.Number.{unsigned_reading}
use Rattle.lexical_forms.specs.NumberText.{places_text}
use Rattle.lexical_forms.specs.Number.{default_spelling}

-- ---- digits

pub is_digit-bounds : (c : ℕ) → is_digit c ≡ true → (48 ≤ c) × (c ≤ 57)
is_digit-bounds c h = (grind (arith, nat_tests), grind (arith, nat_tests))

pub is_digit-of : (d : ℕ) → d < 10 → is_digit (48 + d) ≡ true
is_digit-of d h = grind (arith, nat_tests)

pub is_digit-no_mark : (c : ℕ) → is_digit c ≡ true → is_exponent_mark c ≡ false
is_digit-no_mark c h = grind (arith, nat_tests)

pub spelled-append : (xs ys : List ℕ) → spelled (xs ++ ys) ≡ spelled xs * 10 ^ length ys + spelled ys
spelled-append [] ys = omega arith
spelled-append (x ∷ xs) ys =
    let ih = spelled-append xs ys in
    let power : 10 ^ length (xs ++ ys) ≡ 10 ^ length xs * 10 ^ length ys = ap (λ n. 10 ^ n) (length-append xs ys)
    ∙ pow-add 10 (length xs) (length ys) in
    step (x - 48) (10 ^ length (xs ++ ys)) (10 ^ length xs) (10 ^ length ys) (spelled (xs ++ ys)) (spelled xs)
    (spelled ys) power ih
  where
    step : (d p q r s t u : ℕ) → p ≡ q * r → s ≡ t * r + u → d * p + s ≡ (d * q + t) * r + u
    step d p q r s t u e f = grind arith

pub spelled-push : (xs : List ℕ) (c : ℕ) → spelled (xs ++ c ∷ []) ≡ spelled xs * 10 + (c - 48)
spelled-push xs c = omega (arith, spelled-append xs (c ∷ []))

pub spelled-lt : (cs : List ℕ) → list_all is_digit cs ≡ true → spelled cs < 10 ^ length cs
spelled-lt [] h = omega arith
spelled-lt (c ∷ cs) h =
    let parts = and_parts (is_digit c) (list_all is_digit cs) h in
    step (c - 48) (10 ^ length cs) (spelled cs) (omega (arith, is_digit-bounds c parts.0)) (spelled-lt cs parts.1)
    (10 ^ suc (length cs)) (pow-suc 10 (length cs))
  where
    step : (d p s : ℕ) → d ≤ 9 → s < p → (q : ℕ) → q ≡ p * 10 → d * p + s < q
    step d p s h lt q e = omega (arith, small d p h)
      where
        small : (d p : ℕ) → d ≤ 9 → d * p ≤ 9 * p
        small d p h = grind arith

-- ---- the digits that `decimal` writes

pub record Numeral (n : ℕ) (ds : List ℕ) : Type 0 where
  pub spells : spelled ds ≡ n
  pub digits : list_all is_digit ds ≡ true
  pub some : is_empty ds ≡ false

list_all-push : (ds : List ℕ) (c : ℕ) → list_all is_digit ds ≡ true → is_digit c ≡ true
    → list_all is_digit (ds ++ c ∷ []) ≡ true
list_all-push [] c h d = and_from (is_digit c) true d refl
list_all-push (x ∷ ds) c h d =
    let parts = and_parts (is_digit x) (list_all is_digit ds) h in
    and_from (is_digit x) (list_all is_digit (ds ++ c ∷ [])) parts.0 (list_all-push ds c parts.1 d)

is_empty-push : (ds : List ℕ) (c : ℕ) → is_empty (ds ++ c ∷ []) ≡ false
is_empty-push [] c = refl
is_empty-push (x ∷ ds) c = refl

pub decimal-Numeral : (n : ℕ) → n < 10 ^ 64 → Numeral n (decimal n)
decimal-Numeral = decimal_by_steps_wide Numeral
    (λ n lt. record {
      spells = omega arith;
      digits = and_from (is_digit (48 + n)) true (is_digit-of n lt) refl;
      some = refl;
    })
    (λ n ds low front. record {
      spells = omega (arith, spelled-push ds (48 + n % 10), front.spells, mod_below n 10 (omega arith));
      digits = list_all-push ds (48 + n % 10) front.digits (is_digit-of (n % 10) (mod_below n 10 (omega arith)));
      some = is_empty-push ds (48 + n % 10);
    })

-- ---- the decimal places

pub record Places (places rest : ℕ) (cs : List ℕ) : Type 0 where
  pub pad : ℕ
  pub count : length cs + pad ≡ places
  pub spells : spelled cs * 10 ^ pad ≡ rest
  pub digits : list_all is_digit cs ≡ true

pub places_text-Places : (places rest : ℕ) → rest < 10 ^ places → Places places rest (places_text places rest)
places_text-Places zero rest h = record { pad = 0; count = refl; spells = omega arith; digits = refl }
places_text-Places (suc more) rest h =
    by_rest (places_text-Places more (rest % 10 ^ more)
    (mod_below rest (10 ^ more) (one-le-pow more 10 (omega arith)))) (eqb rest 0) refl
  where
    unit : 0 < 10 ^ more
    unit = one-le-pow more 10 (omega arith)

    first : rest / 10 ^ more < 10
    first = div_below rest (10 ^ more) 10 unit (omega (arith, pow-suc 10 more))

    step : (q p l s r w : ℕ) → p ≡ l * w → s * w + q * p ≡ r → (q * l + s) * w ≡ r
    step q p l s r w e f = grind arith

    by_rest : Places more (rest % 10 ^ more) (places_text more (rest % 10 ^ more)) → (b : Bool) → eqb rest 0 ≡ b
        → Places (suc more) rest (cond b [] ((48 + rest / 10 ^ more) ∷ places_text more (rest % 10 ^ more)))
    by_rest ih true e = record { pad = suc more; count = omega arith; spells = grind (arith, nat_tests); digits = refl }
    by_rest ih false e = record {
      pad = ih.pad;
      count = omega (arith, ih.count);
      spells = step (48 + rest / 10 ^ more - 48) (10 ^ more) (10 ^ length (places_text more (rest % 10 ^ more)))
          (spelled (places_text more (rest % 10 ^ more))) rest (10 ^ ih.pad)
          (ap (λ n. 10 ^ n) (sym ih.count) ∙ pow-add 10 _ ih.pad)
          (let same : 48 + rest / 10 ^ more - 48 ≡ rest / 10 ^ more = omega arith in rw same
          (omega (arith, ih.spells, div-add-mod' rest (10 ^ more))));
      digits = and_from (is_digit (48 + rest / 10 ^ more)) _ (is_digit-of _ first) ih.digits;
    }

-- ---- a number's parts

abbrev pub cut : List ℕ → Option (List ℕ) → List ℕ × Option (List ℕ)
cut before after = (before, after)

pub split_at_first-none : (p : ℕ → Bool) (cs : List ℕ) → list_all (λ c. not (p c)) cs ≡ true
    → split_at_first p cs ≡ cut cs None
split_at_first-none p [] h = refl
split_at_first-none p (c ∷ cs) h = by_test (split_at_first-none p cs) (p c) h
  where
    by_test : (list_all (λ c. not (p c)) cs ≡ true → split_at_first p cs ≡ cut cs None) → (b : Bool)
        → (not b && list_all (λ c. not (p c)) cs) ≡ true
        → cond b (cut [] (Some cs)) (cut (c ∷ (split_at_first p cs).0) (split_at_first p cs).1) ≡ cut (c ∷ cs) None
    by_test ih true h = cc
    by_test ih false h = rw (ih h) refl

-- a first character that doesn't pass the test, and one that does
pub split_at_first-past : (p : ℕ → Bool) (c : ℕ) (cs : List ℕ) → p c ≡ false
    → split_at_first p (c ∷ cs) ≡ cut (c ∷ (split_at_first p cs).0) (split_at_first p cs).1
split_at_first-past p c cs e = rw e refl

pub split_at_first-here : (p : ℕ → Bool) (c : ℕ) (cs : List ℕ) → p c ≡ true
    → split_at_first p (c ∷ cs) ≡ cut [] (Some cs)
split_at_first-here p c cs e = rw e refl

-- the first character that passes the test is this one
pub split_at_first-at : (p : ℕ → Bool) (xs : List ℕ) (c : ℕ) (cs : List ℕ) → list_all (λ c. not (p c)) xs ≡ true
    → p c ≡ true → split_at_first p (xs ++ c ∷ cs) ≡ cut xs (Some cs)
split_at_first-at p [] c cs h e = rw e refl
split_at_first-at p (x ∷ xs) c cs h e = by_test (λ i. split_at_first-at p xs c cs i e) (p x) h
  where
    by_test : (list_all (λ c. not (p c)) xs ≡ true → split_at_first p (xs ++ c ∷ cs) ≡ cut xs (Some cs)) → (b : Bool)
        → (not b && list_all (λ c. not (p c)) xs) ≡ true
        → cond b (cut [] (Some (xs ++ c ∷ cs)))
        (cut (x ∷ (split_at_first p (xs ++ c ∷ cs)).0) (split_at_first p (xs ++ c ∷ cs)).1) ≡ cut (x ∷ xs) (Some cs)
    by_test ih true h = cc
    by_test ih false h = rw (ih h) refl

-- a test that no digit passes
pub list_all-without : (p : ℕ → Bool) → ((c : ℕ) → is_digit c ≡ true → p c ≡ false) → (cs : List ℕ)
    → list_all is_digit cs ≡ true → list_all (λ c. not (p c)) cs ≡ true
list_all-without p fails [] h = refl
list_all-without p fails (c ∷ cs) h =
    let parts = and_parts (is_digit c) (list_all is_digit cs) h in
    and_from (not (p c)) _ (ap not (fails c parts.0)) (list_all-without p fails cs parts.1)

pub is_digit-no_point : (form : NumberForm) (c : ℕ) → is_digit c ≡ true → is_point form c ≡ false
is_digit-no_point form c h = rw h (no_third (eqb c form.decimal) (not (is_exponent_mark c)))
  where
    no_third : (a b : Bool) → (a && false && b) ≡ false
    no_third true b = refl
    no_third false b = refl

pub is_grouped-digits : (group : Option ℕ) (after : Bool) (cs : List ℕ) → list_all is_digit cs ≡ true
    → is_grouped group after cs ≡ true
is_grouped-digits group after [] h = refl
is_grouped-digits group after (c ∷ cs) h =
    let parts = and_parts (is_digit c) (list_all is_digit cs) h in
    rw parts.0 (is_grouped-digits group true cs parts.1)

pub filter-digits : (cs : List ℕ) → list_all is_digit cs ≡ true → filter is_digit cs ≡ cs
filter-digits [] h = refl
filter-digits (c ∷ cs) h =
    let parts = and_parts (is_digit c) (list_all is_digit cs) h in
    rw parts.0 (ap (λ xs. c ∷ xs) (filter-digits cs parts.1))

-- ---- a printed number

-- the parts of a number without its fraction, and with one
pub parts_of-whole : (cs : List ℕ) → list_all is_digit cs ≡ true
    → parts_of default_spelling cs ≡ record { whole = cs; fraction = []; exponent = None }
parts_of-whole cs h =
    let exponent = split_at_first-none is_exponent_mark cs (list_all-without is_exponent_mark is_digit-no_mark cs h) in
    let point =
    split_at_first-none (is_point default_spelling) cs
    (list_all-without (is_point default_spelling) (is_digit-no_point default_spelling) cs h) in
    rw (exponent, point) refl

pub parts_of-fraction : (cs ds : List ℕ) → list_all is_digit cs ≡ true → list_all is_digit ds ≡ true
    → parts_of default_spelling (cs ++ 46 ∷ ds) ≡ record { whole = cs; fraction = ds; exponent = None }
parts_of-fraction cs ds h k =
    let exponent : split_at_first is_exponent_mark (cs ++ 46 ∷ ds) ≡ cut (cs ++ 46 ∷ ds) None =
    split_at_first-none is_exponent_mark (cs ++ 46 ∷ ds)
    (without (list_all-without is_exponent_mark is_digit-no_mark cs h)
    (list_all-without is_exponent_mark is_digit-no_mark ds k)) in
    let point =
    split_at_first-at (is_point default_spelling) cs 46 ds
    (list_all-without (is_point default_spelling) (is_digit-no_point default_spelling) cs h) refl in
    rw (exponent, point) refl
  where
    without : list_all (λ c. not (is_exponent_mark c)) cs ≡ true → list_all (λ c. not (is_exponent_mark c)) ds ≡ true
        → list_all (λ c. not (is_exponent_mark c)) (cs ++ 46 ∷ ds) ≡ true
    without a b = rw list_all-append (rw a b)

-- The digits of a printed number spell it once the trailing zeros are put back.
pub printed : (size pad : ℕ) (ws fs : List ℕ) → list_all is_digit ws ≡ true → list_all is_digit fs ≡ true
    → is_empty ws ≡ false → length fs + pad ≡ 9 → spelled ws ≡ size / 10 ^ 9 → spelled fs * 10 ^ pad ≡ size % 10 ^ 9
    → size < 10 ^ 27
    → unsigned_reading default_spelling (record { whole = ws; fraction = fs; exponent = None }) ≡ Some size
printed size pad ws fs w f some count whole places h =
    let grouped = is_grouped-digits None false ws w in
    let kept = filter-digits ws w in
    let filled = not_empty ws fs some in
    let up : pos 9 +ℤ pos 0 -ℤ pos (length fs) ≡ pos pad = omega (arith, ints) in
    let total : spelled (ws ++ fs) * 10 ^ pad ≡ size =
    ap (λ n. n * 10 ^ pad) (spelled-append ws fs) ∙ step (spelled ws) (10 ^ length fs) (10 ^ pad) (spelled fs)
    (10 ^ 9) (size / 10 ^ 9) (size % 10 ^ 9) size (ap (λ n. 10 ^ n) (sym count) ∙ pow-add 10 (length fs) pad)
    whole places (div-add-mod' size (10 ^ 9)) in
    let below : ltb size (10 ^ 27) ≡ true = lt-ltb size (10 ^ 27) h in
    rw (grouped, f, kept, filled, up, total, below) refl
  where
    not_empty : (xs ys : List ℕ) → is_empty xs ≡ false → is_empty (xs ++ ys) ≡ false
    not_empty [] ys h = cc
    not_empty (x ∷ xs) ys h = refl

    step : (s p w t n q r z : ℕ) → n ≡ p * w → s ≡ q → t * w ≡ r → q * n + r ≡ z → (s * p + t) * w ≡ z
    step s p w t n q r z a b c d = grind arith

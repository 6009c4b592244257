-- Texts read as numbers if and only if they have the form of one.
use Rattle.std.proofs.Common.{◌≡◌, ◌≢◌, ℕ, ◌^◌, ◌<◌, true, false, ◌&&◌, not, cond, eqb, ltb}
use Rattle.std.proofs.Common.{refl, sym, ap, ◌∙◌, subst, Bool, List, [], ◌∷◌, ◌++◌, length, append-nil}
use Rattle.std.proofs.Common.{append_assoc, ℤ, pos, ◌+ℤ◌, ◌-ℤ◌}
use Rattle.std.specs.Prelude.{◌↔◌, Option, Some, None, IfSome, filter, unwrap_or, option_map, option_and_then}
use Rattle.std.specs.List.{list_all}
use Rattle.std.specs.Str.{all_scalars}
use Rattle.std.proofs.lemmas.Bool.{and_parts, and_from, cond-true, eqb-true, eq-eqb, ne_eqb, ltb-true, lt-ltb}
use Rattle.std.proofs.lemmas.List.Folds.{list_all-append}
use Rattle.lexical_forms.specs.declared.form.NumberForm.{NumberForm}
use Rattle.lexical_forms.specs.Digits.{is_digit, is_sign, is_empty, is_negative, spelled, unsigned, signed}
use Rattle.lexical_forms.specs.Forms.{IsGroups, IsWholePart, IsFractionPart, IsExponentPart, IsUnsignedText}
use Rattle.lexical_forms.specs.Forms.{IsNumberText, IsSpelling, IsSize}
use Rattle.lexical_forms.specs.Forms.IsGroups.{one, digit, mark}
use Rattle.lexical_forms.specs.Forms.IsWholePart.{none as no_whole, some as some_whole}
use Rattle.lexical_forms.specs.Forms.IsFractionPart.{none as no_fraction, point}
use Rattle.lexical_forms.specs.Forms.IsExponentPart.{none as no_exponent, ten_to}
use Rattle.lexical_forms.specs.Separator.{is_separator}
use Rattle.lexical_forms.specs.Number.{is_same_character, is_grouped, is_exponent_mark, is_point, split_at_first}
use Rattle.lexical_forms.specs.Number.{begins_with_digit}
use Rattle.lexical_forms.specs.Number.{Parts, parts_of, digits_of, is_exponent, exponent_of, is_number, scaled}
use Rattle.lexical_forms.specs.Number.{in_range}
use Rattle.lexical_forms.specs.Number.{billionths_of, unsigned_reading, number_text_reading}
use Rattle.lexical_forms.proofs.FormLemmas.{HasNoSign, sign_in, unsigned-sign, is_negative-sign, is_digit-no_sign}
use Rattle.lexical_forms.proofs.FormLemmas.{integer_form, form_integer}
use Rattle.lexical_forms.proofs.InsideLemmas.{NonePasses}
use Rattle.lexical_forms.proofs.NumberLemmas.{cut, split_at_first-none, split_at_first-at, is_digit-no_mark}
use Rattle.lexical_forms.proofs.NumberLemmas.{is_digit-no_point}
use Rattle.lexical_forms.proofs.ReadingLemmas.{if-some, then-some, map-some}
use Rattle.lexical_forms.proofs.SizeLemmas.{size_of, of_size}

-- ---- a text that is split

-- the characters before the first one that passes the test, and those after it
abbrev Behind : (ℕ → Bool) → List ℕ → List ℕ → Option (List ℕ) → Type 0
Behind p cs before None = cs ≡ before
Behind p cs before (Some after) = (c : ℕ) × (p c ≡ true) × (cs ≡ before ++ c ∷ after)

Behind-more : (p : ℕ → Bool) (c : ℕ) (cs before : List ℕ) (after : Option (List ℕ)) → Behind p cs before after
    → Behind p (c ∷ cs) (c ∷ before) after
Behind-more p c cs before None h = ap (λ xs. c ∷ xs) h
Behind-more p c cs before (Some after) h = (h.0, h.1, ap (λ xs. c ∷ xs) h.2)

split_at_first-cut : (p : ℕ → Bool) (cs : List ℕ) → Behind p cs (split_at_first p cs).0 (split_at_first p cs).1
split_at_first-cut p [] = refl
split_at_first-cut p (c ∷ cs) = by_test (split_at_first-cut p cs) (p c) refl
  where
    by_test : Behind p cs (split_at_first p cs).0 (split_at_first p cs).1 → (b : Bool) → p c ≡ b
        → Behind p (c ∷ cs) (cond b (cut [] (Some cs)) (cut (c ∷ (split_at_first p cs).0) (split_at_first p cs).1)).0
        (cond b (cut [] (Some cs)) (cut (c ∷ (split_at_first p cs).0) (split_at_first p cs).1)).1
    by_test later true e = (c, e, refl)
    by_test later false e = Behind-more p c cs (split_at_first p cs).0 (split_at_first p cs).1 later

-- ---- from the parts that are read to the form

that-is : (group : Option ℕ) (c : ℕ) → is_same_character group c ≡ true → group ≡ Some c
that-is None c h = cc
that-is (Some m) c h = ap Some (sym (eqb-true c m h))

-- the text after a digit
groups-from : (group : Option ℕ) (c : ℕ) (cs : List ℕ) → is_digit c ≡ true → is_grouped group true cs ≡ true
    → IsGroups group (c ∷ cs) (c ∷ filter is_digit cs)
groups-from group c [] is h = one c is
groups-from group c (d ∷ []) is h = by_test (is_digit d) refl h
  where
    by_test : (b : Bool) → is_digit d ≡ b → cond b true (is_same_character group d && true && false && true) ≡ true
        → IsGroups group (c ∷ d ∷ []) (c ∷ cond b (d ∷ []) [])
    by_test true e h = digit c (d ∷ []) (d ∷ []) is (one d e)
    by_test false e h = absurd (never (is_same_character group d) h)
      where
        never : (a : Bool) → (a && true && false && true) ≡ true → ⊥
        never true h = cc
        never false h = cc
groups-from group c (d ∷ e ∷ cs) is h =
    by_test (λ k i. groups-from group d (e ∷ cs) k i) (λ k i. groups-from group e cs k i) (is_digit d) refl h
  where
    by_test : (is_digit d ≡ true → is_grouped group true (e ∷ cs) ≡ true
        → IsGroups group (d ∷ e ∷ cs) (d ∷ filter is_digit (e ∷ cs)))
        → (is_digit e ≡ true → is_grouped group true cs ≡ true → IsGroups group (e ∷ cs) (e ∷ filter is_digit cs))
        → (b : Bool) → is_digit d ≡ b
        → cond b (is_grouped group true (e ∷ cs))
        (is_same_character group d && true && is_digit e && is_grouped group false (e ∷ cs)) ≡ true
        → IsGroups group (c ∷ d ∷ e ∷ cs) (c ∷ cond b (d ∷ filter is_digit (e ∷ cs)) (filter is_digit (e ∷ cs)))
    by_test next over true k h = digit c (d ∷ e ∷ cs) (d ∷ filter is_digit (e ∷ cs)) is (next k h)
    by_test next over false k h =
        let parts = and_parts (is_same_character group d && true && is_digit e) (is_grouped group false (e ∷ cs)) h in
        let front = and_parts (is_same_character group d && true) (is_digit e) parts.0 in
        let given = and_parts (is_same_character group d) true front.0 in
        let here = front.1 in
        let grouped : is_grouped group true cs ≡ true = sym (after_digit here) ∙ parts.1 in
        let same : filter is_digit (e ∷ cs) ≡ e ∷ filter is_digit cs = rw here refl in
        subst (λ xs. IsGroups group (c ∷ d ∷ e ∷ cs) (c ∷ xs)) (sym same)
        (mark c d (e ∷ cs) (e ∷ filter is_digit cs) is (that-is group d given.0) (over here grouped))
      where
        after_digit : is_digit e ≡ true → is_grouped group false (e ∷ cs) ≡ is_grouped group true cs
        after_digit here = rw here refl

whole-from : (group : Option ℕ) (cs : List ℕ) → is_grouped group false cs ≡ true
    → IsWholePart group cs (filter is_digit cs)
whole-from group [] h = no_whole
whole-from group (c ∷ cs) h = by_test (is_digit c) refl h
  where
    by_test : (b : Bool) → is_digit c ≡ b
        → cond b (is_grouped group true cs)
        (is_same_character group c && false && begins_with_digit cs && is_grouped group false cs) ≡ true
        → IsWholePart group (c ∷ cs) (cond b (c ∷ filter is_digit cs) (filter is_digit cs))
    by_test true e h = some_whole (c ∷ cs) (c ∷ filter is_digit cs) (groups-from group c cs e h)
    by_test false e h = absurd (never (is_same_character group c) (begins_with_digit cs) (is_grouped group false cs) h)
      where
        never : (a b d : Bool) → (a && false && b && d) ≡ true → ⊥
        never true b d h = cc
        never false b d h = cc

record FractionFrom (form : NumberForm) (before w : List ℕ) (found : Option (List ℕ)) : Type 0 where
  pub text : List ℕ
  pub joined : before ≡ w ++ text
  pub part : IsFractionPart form.decimal text (unwrap_or found [])

point-is : (form : NumberForm) (c : ℕ) → is_point form c ≡ true → c ≡ form.decimal
point-is form c h =
    let parts = and_parts (eqb c form.decimal && not (is_digit c)) (not (is_exponent_mark c)) h in
    eqb-true c form.decimal (and_parts (eqb c form.decimal) (not (is_digit c)) parts.0).0

fraction-from : (form : NumberForm) (before w : List ℕ) (found : Option (List ℕ))
    → Behind (is_point form) before w found → list_all is_digit (unwrap_or found []) ≡ true
    → FractionFrom form before w found
fraction-from form before w None h digits =
    record { text = []; joined = h ∙ sym (append-nil w); part = no_fraction }
fraction-from form before w (Some places) h digits = record {
  text = form.decimal ∷ places;
  joined = h.2 ∙ ap (λ c. w ++ c ∷ places) (point-is form h.0 h.1);
  part = point places digits;
}

record ExponentFrom (cs before : List ℕ) (found : Option (List ℕ)) : Type 0 where
  pub text : List ℕ
  pub joined : cs ≡ before ++ text
  pub part : IsExponentPart text (exponent_of found)

exponent-from : (cs before : List ℕ) (found : Option (List ℕ)) → Behind is_exponent_mark cs before found
    → is_exponent found ≡ true → ExponentFrom cs before found
exponent-from cs before None h e =
    record { text = []; joined = h ∙ sym (append-nil before); part = no_exponent }
exponent-from cs before (Some after) h e = record {
  text = h.0 ∷ after;
  joined = h.2;
  part = ten_to h.0 after _ h.1 (integer_form after e);
}

not-true : (b : Bool) → not b ≡ true → b ≡ false
not-true true e = cc
not-true false e = refl

from_parts : (form : NumberForm) (cs before w : List ℕ) (f e : Option (List ℕ)) (n : ℕ)
    → Behind is_exponent_mark cs before e → Behind (is_point form) before w f
    → unsigned_reading form (record { whole = w; fraction = unwrap_or f []; exponent = e }) ≡ Some n
    → IsUnsignedText form cs n
from_parts form cs before w f e n at_exponent at_point read =
    let parts : Parts = record { whole = w; fraction = unwrap_or f []; exponent = e } in
    let found = if-some (is_number form parts) (billionths_of parts) n read in
    let last = and_parts
    (is_grouped form.group false w && list_all is_digit (unwrap_or f []) && not (is_empty (digits_of parts)))
    (is_exponent e) found.0 in
    let third = and_parts (is_grouped form.group false w && list_all is_digit (unwrap_or f []))
    (not (is_empty (digits_of parts))) last.0 in
    let second = and_parts (is_grouped form.group false w) (list_all is_digit (unwrap_or f [])) third.0 in
    let places = fraction-from form before w f at_point second.1 in
    let power = exponent-from cs before e at_exponent last.1 in
    let moved = then-some in_range
    (scaled (spelled (digits_of parts)) (pos 9 +ℤ exponent_of e -ℤ pos (length (unwrap_or f [])))) n found.1 in
    let small = if-some (ltb moved.0 (10 ^ 27)) (Some moved.0) n moved.2 in
    let same : moved.0 ≡ n = cc (small.1) in
    record {
      whole = w;
      fraction = places.text;
      exponent = power.text;
      digits = filter is_digit w;
      places = unwrap_or f [];
      power = exponent_of e;
      cut = power.joined ∙ ap (λ xs. xs ++ power.text) places.joined;
      whole_part = whole-from form.group w second.0;
      fraction_part = places.part;
      exponent_part = power.part;
      some = not-true (is_empty (digits_of parts)) third.1;
      exact = size_of (spelled (digits_of parts)) n (length (unwrap_or f [])) (exponent_of e)
          (moved.1 ∙ ap Some same);
      small = subst (λ (x : ℕ). x < 10 ^ 27) same (ltb-true moved.0 (10 ^ 27) small.0);
    }

size_form : (form : NumberForm) (cs : List ℕ) (n : ℕ) → unsigned_reading form (parts_of form cs) ≡ Some n
    → IsUnsignedText form cs n
size_form form cs n e =
    let at_exponent = split_at_first is_exponent_mark cs in
    let at_point = split_at_first (is_point form) at_exponent.0 in
    from_parts form cs at_exponent.0 at_point.0 at_point.1 at_exponent.1 n (split_at_first-cut is_exponent_mark cs)
    (split_at_first-cut (is_point form) at_exponent.0) e

number_form : (form : NumberForm) (text : List ℕ) (b : ℤ) → number_text_reading form text ≡ Some b
    → IsNumberText form text b
unfolding number_text_reading
number_form form text b e =
    let found = map-some (signed (is_negative text)) (unsigned_reading form (parts_of form (unsigned text))) b e in
    let front = sign_in text in
    record {
      sign = front.sign;
      negative = is_negative text;
      rest = unsigned text;
      size = found.0;
      cut = front.cut;
      signs = front.signs;
      number = size_form form (unsigned text) found.0 found.1;
      value = sym found.2;
    }

-- ---- from the form to the parts that are read

not-false : (b : Bool) → b ≡ false → not b ≡ true
not-false b e = ap not e

-- no digit, no sign and no exponent mark
record IsSeparator (c : ℕ) : Type 0 where
  pub digit : is_digit c ≡ false
  pub sign : is_sign c ≡ false
  pub exponent : is_exponent_mark c ≡ false

separator : (c : ℕ) → is_separator c ≡ true → IsSeparator c
separator c h =
    let last = and_parts (all_scalars (c ∷ []) && not (is_digit c) && not (is_sign c)) (not (is_exponent_mark c)) h in
    let third = and_parts (all_scalars (c ∷ []) && not (is_digit c)) (not (is_sign c)) last.0 in
    let second = and_parts (all_scalars (c ∷ [])) (not (is_digit c)) third.0 in
    record {
      digit = not-true (is_digit c) second.1;
      sign = not-true (is_sign c) third.1;
      exponent = not-true (is_exponent_mark c) last.1;
    }

decimal-point : (form : NumberForm) → IsSeparator form.decimal → is_point form form.decimal ≡ true
decimal-point form h =
    and_from (eqb form.decimal form.decimal && not (is_digit form.decimal)) _
    (and_from (eqb form.decimal form.decimal) _ (eq-eqb form.decimal form.decimal refl)
    (not-false (is_digit form.decimal) h.digit)) (not-false (is_exponent_mark form.decimal) h.exponent)

-- A test that each digit passes, and the group character if there is one, holds of all of the whole part.
record AllPass (group : Option ℕ) (q : ℕ → Bool) : Type 0 where
  pub digits : (c : ℕ) → is_digit c ≡ true → q c ≡ true
  pub marks : (m : ℕ) → group ≡ Some m → q m ≡ true

groups-all : (group : Option ℕ) (q : ℕ → Bool) (text digits : List ℕ) → AllPass group q → IsGroups group text digits
    → list_all q text ≡ true
groups-all group q _ _ pass (one c h) = and_from (q c) true (pass.digits c h) refl
groups-all group q _ _ pass (digit c text digits h more) =
    and_from (q c) _ (pass.digits c h) (groups-all group q text digits pass more)
groups-all group q _ _ pass (mark c m text digits h e more) =
    and_from (q c) _ (pass.digits c h)
    (and_from (q m) _ (pass.marks m e) (groups-all group q text digits pass more))

-- the reading of such a text
record GroupsRead (group : Option ℕ) (text digits : List ℕ) : Type 0 where
  pub kept : filter is_digit text ≡ digits
  pub begins : begins_with_digit text ≡ true
  pub grouped : (after : Bool) → is_grouped group after text ≡ true

groups-read : (group : Option ℕ) (text digits : List ℕ) → ((m : ℕ) → group ≡ Some m → is_digit m ≡ false)
    → IsGroups group text digits → GroupsRead group text digits
groups-read group _ _ none (one c h) =
    record { kept = rw h refl; begins = h; grouped = λ after. rw h refl }
groups-read group _ _ none (digit c text digits h more) =
    let later = groups-read group text digits none more in
    record {
      kept = rw h (ap (λ xs. c ∷ xs) later.kept);
      begins = h;
      grouped = λ after. rw h (later.grouped true);
    }
groups-read group _ _ none (mark c m text digits h e more) =
    let later = groups-read group text digits none more in
    let other = none m e in
    let same : is_same_character group m ≡ true = ap (λ o. is_same_character o m) e ∙ eq-eqb m m refl in
    record {
      kept = rw (h, other) (ap (λ xs. c ∷ xs) later.kept);
      begins = h;
      grouped = λ after. rw (h, other)
          (and_from (is_same_character group m && true && begins_with_digit text) _
          (and_from (is_same_character group m && true) _ (and_from (is_same_character group m) true same refl)
          later.begins)
          (later.grouped false));
    }

record WholeRead (group : Option ℕ) (text digits : List ℕ) : Type 0 where
  pub kept : filter is_digit text ≡ digits
  pub grouped : is_grouped group false text ≡ true

whole-read : (group : Option ℕ) (text digits : List ℕ) → ((m : ℕ) → group ≡ Some m → is_digit m ≡ false)
    → IsWholePart group text digits → WholeRead group text digits
whole-read group _ _ separator no_whole = record { kept = refl; grouped = refl }
whole-read group _ _ separator (some_whole text digits h) =
    let read = groups-read group text digits separator h in
    record { kept = read.kept; grouped = read.grouped false }

whole-all : (group : Option ℕ) (q : ℕ → Bool) (text digits : List ℕ) → AllPass group q → IsWholePart group text digits
    → list_all q text ≡ true
whole-all group q _ _ pass no_whole = refl
whole-all group q _ _ pass (some_whole text digits h) = groups-all group q text digits pass h

-- a fraction after a whole part, and an exponent after both
record FractionRead (form : NumberForm) (w text places : List ℕ) : Type 0 where
  pub found : Option (List ℕ)
  pub split : split_at_first (is_point form) (w ++ text) ≡ cut w found
  pub same : unwrap_or found [] ≡ places
  pub digits : list_all is_digit places ≡ true

fraction-read : (form : NumberForm) (w text places : List ℕ) → IsSeparator form.decimal → NonePasses (is_point form) w
    → IsFractionPart form.decimal text places → FractionRead form w text places
fraction-read form w _ _ h none no_fraction = record {
  found = None;
  split = ap (split_at_first (is_point form)) (append-nil w) ∙ split_at_first-none (is_point form) w none;
  same = refl;
  digits = refl;
}
fraction-read form w _ _ h none (point places digits) = record {
  found = Some places;
  split = split_at_first-at (is_point form) w form.decimal places none (decimal-point form h);
  same = refl;
  digits = digits;
}

record ExponentRead (before text : List ℕ) (power : ℤ) : Type 0 where
  pub found : Option (List ℕ)
  pub split : split_at_first is_exponent_mark (before ++ text) ≡ cut before found
  pub good : is_exponent found ≡ true
  pub value : exponent_of found ≡ power

exponent-read : (before text : List ℕ) (power : ℤ) → NonePasses is_exponent_mark before → IsExponentPart text power
    → ExponentRead before text power
exponent-read before _ _ none no_exponent = record {
  found = None;
  split = ap (split_at_first is_exponent_mark) (append-nil before) ∙ split_at_first-none is_exponent_mark before none;
  good = refl;
  value = refl;
}
exponent-read before _ _ none (ten_to c text power h number) =
    let same = form_integer text power number in
    record {
      found = Some text;
      split = split_at_first-at is_exponent_mark before c text none h;
      good = same.digits;
      value = same.value;
    }

fraction-all : (form : NumberForm) (q : ℕ → Bool) (text places : List ℕ) → q form.decimal ≡ true
    → ((c : ℕ) → is_digit c ≡ true → q c ≡ true) → IsFractionPart form.decimal text places → list_all q text ≡ true
fraction-all form q _ _ passes digits no_fraction = refl
fraction-all form q _ _ passes digits (point places h) = and_from (q form.decimal) _ passes (all places h)
  where
    all : (cs : List ℕ) → list_all is_digit cs ≡ true → list_all q cs ≡ true
    all [] h = refl
    all (c ∷ cs) h =
        let parts = and_parts (is_digit c) (list_all is_digit cs) h in
        and_from (q c) _ (digits c parts.0) (all cs parts.1)

-- ---- a number from its form

abbrev made : List ℕ → List ℕ → Option (List ℕ) → Parts
made w f e = record { whole = w; fraction = f; exponent = e }

parts-are : (form : NumberForm) (w f e places : List ℕ) (at_point at_exponent : Option (List ℕ))
    → split_at_first is_exponent_mark (w ++ f ++ e) ≡ cut (w ++ f) at_exponent
    → split_at_first (is_point form) (w ++ f) ≡ cut w at_point → unwrap_or at_point [] ≡ places
    → parts_of form (w ++ f ++ e) ≡ made w places at_exponent
parts-are form w f e places at_point at_exponent exponent fraction same =
    rw (exponent, fraction) (ap (λ xs. made w xs at_exponent) same)

-- the reading of the parts
reading-of : (form : NumberForm) (w digits places : List ℕ) (found : Option (List ℕ)) (n : ℕ)
    → filter is_digit w ≡ digits → is_grouped form.group false w ≡ true → list_all is_digit places ≡ true
    → is_exponent found ≡ true → is_empty (digits ++ places) ≡ false → n < 10 ^ 27
    → IsSize n (digits ++ places) (length places) (exponent_of found)
    → unsigned_reading form (made w places found) ≡ Some n
reading-of form w digits places found n kept grouped fraction exponent some small size =
    let all : digits_of (made w places found) ≡ digits ++ places = ap (λ xs. xs ++ places) kept in
    let number : is_number form (made w places found) ≡ true =
    and_from (is_grouped form.group false w && list_all is_digit places && not (is_empty (filter is_digit w ++ places)))
    _ (and_from (is_grouped form.group false w && list_all is_digit places) _
    (and_from (is_grouped form.group false w) _ grouped fraction)
    (ap (λ xs. not (is_empty xs)) all ∙ not-false (is_empty (digits ++ places)) some)) exponent in
    let moved = of_size (spelled (digits ++ places)) n (length places) (exponent_of found) size in
    cond-true _ _ _ number
    ∙ ap (λ xs. option_and_then in_range (scaled (spelled xs)
    (pos 9 +ℤ exponent_of found -ℤ pos (length places)))) all
    ∙ ap (option_and_then in_range) moved ∙ cond-true _ _ _ (lt-ltb n (10 ^ 27) small)

group-separator : (form : NumberForm) → IsSpelling form → (m : ℕ) → form.group ≡ Some m
    → IsSeparator m × (m ≢ form.decimal)
group-separator form h m e = (
  separator m (subst (λ o. IfSome o (λ c. is_separator c ≡ true)) e h.group),
  subst (λ o. IfSome o (λ c. c ≢ form.decimal)) e h.apart,
)

group-no_point : (form : NumberForm) (m : ℕ) → m ≢ form.decimal → is_point form m ≡ false
group-no_point form m h =
    ap (λ b. b && not (is_digit m) && not (is_exponent_mark m)) (ne_eqb m form.decimal h)

form_size : (form : NumberForm) (text : List ℕ) (n : ℕ) → IsSpelling form → IsUnsignedText form text n
    → unsigned_reading form (parts_of form text) ≡ Some n
form_size form text n spelling h =
    let decimal = separator form.decimal spelling.decimal in
    let marks = group-separator form spelling in
    let read = whole-read form.group h.whole h.digits (λ m e. (marks m e).0.digit) h.whole_part in
    let no_point : NonePasses (is_point form) h.whole =
    whole-all form.group (λ c. not (is_point form c)) h.whole h.digits
    (record {
      digits = λ c d. not-false (is_point form c) (is_digit-no_point form c d);
      marks = λ m e. not-false (is_point form m) (group-no_point form m (marks m e).1);
    }) h.whole_part in
    let front : NonePasses is_exponent_mark h.whole =
    whole-all form.group (λ c. not (is_exponent_mark c)) h.whole h.digits
    (record {
      digits = λ c d. not-false (is_exponent_mark c) (is_digit-no_mark c d);
      marks = λ m e. not-false (is_exponent_mark m) (marks m e).0.exponent;
    }) h.whole_part in
    let after : NonePasses is_exponent_mark h.fraction =
    fraction-all form (λ c. not (is_exponent_mark c)) h.fraction h.places
    (not-false (is_exponent_mark form.decimal) decimal.exponent)
    (λ c d. not-false (is_exponent_mark c) (is_digit-no_mark c d)) h.fraction_part in
    let before : NonePasses is_exponent_mark (h.whole ++ h.fraction) =
    list_all-append (λ c. not (is_exponent_mark c)) h.whole h.fraction ∙ and_from _ _ front after in
    let fraction = fraction-read form h.whole h.fraction h.places decimal no_point h.fraction_part in
    let exponent = exponent-read (h.whole ++ h.fraction) h.exponent h.power before h.exponent_part in
    let size : IsSize n (h.digits ++ h.places) (length h.places) (exponent_of exponent.found) =
    subst (IsSize n (h.digits ++ h.places) (length h.places)) (sym exponent.value) h.exact in
    ap (λ xs. unsigned_reading form (parts_of form xs)) h.cut
    ∙ ap (unsigned_reading form)
    (parts-are form h.whole h.fraction h.exponent h.places fraction.found exponent.found exponent.split fraction.split
    fraction.same)
    ∙ reading-of form h.whole h.digits h.places exponent.found n read.kept read.grouped fraction.digits exponent.good
    h.some h.small size

-- ---- its sign

-- A number without its sign begins with a digit or the decimal character.
begins-whole : (group : Option ℕ) (text digits tail : List ℕ) → IsGroups group text digits → HasNoSign (text ++ tail)
begins-whole group _ _ tail (one c h) = is_digit-no_sign c h
begins-whole group _ _ tail (digit c text digits h more) = is_digit-no_sign c h
begins-whole group _ _ tail (mark c m text digits h e more) = is_digit-no_sign c h

begins-fraction : (decimal : ℕ) (text places tail : List ℕ) → is_sign decimal ≡ false → is_empty places ≡ false
    → IsFractionPart decimal text places → HasNoSign (text ++ tail)
begins-fraction decimal _ _ tail separator some no_fraction = cc
begins-fraction decimal _ _ tail separator some (point places h) = separator

no_sign : (form : NumberForm) (w f e digits places : List ℕ) → is_sign form.decimal ≡ false
    → is_empty (digits ++ places) ≡ false → IsWholePart form.group w digits
    → IsFractionPart form.decimal f places → HasNoSign (w ++ f ++ e)
no_sign form _ f e _ places separator some no_whole fraction =
    begins-fraction form.decimal f places e separator some fraction
no_sign form _ f e _ places separator some (some_whole w digits h) fraction =
    subst HasNoSign (sym (append_assoc w f e)) (begins-whole form.group w digits (f ++ e) h)

form_number : (form : NumberForm) (text : List ℕ) (b : ℤ) → IsSpelling form → IsNumberText form text b
    → number_text_reading form text ≡ Some b
unfolding number_text_reading
form_number form text b spelling h =
    let decimal = separator form.decimal spelling.decimal in
    let number = h.number in
    let begins : HasNoSign h.rest =
    subst HasNoSign (sym number.cut)
    (no_sign form number.whole number.fraction number.exponent number.digits number.places decimal.sign number.some
    number.whole_part number.fraction_part) in
    let rest : unsigned text ≡ h.rest = ap unsigned h.cut ∙ unsigned-sign h.sign h.rest h.negative h.signs begins in
    let minus : is_negative text ≡ h.negative =
    ap is_negative h.cut ∙ is_negative-sign h.sign h.rest h.negative h.signs begins in
    ap (λ xs. option_map (signed (is_negative text)) (unsigned_reading form (parts_of form xs))) rest
    ∙ ap (option_map (signed (is_negative text))) (form_size form h.rest h.size spelling number)
    ∙ ap (λ (s : Bool). Some (signed s h.size)) minus ∙ ap Some (sym h.value)

pub number_where_of_form : (form : NumberForm) (text : List ℕ) (b : ℤ) → IsSpelling form
    → (number_text_reading form text ≡ Some b) ↔ IsNumberText form text b
number_where_of_form form text b spelling = (number_form form text b, form_number form text b spelling)

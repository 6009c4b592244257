-- Numbers that are computed from the parts that were read.
use Rattle.std.proofs.Common.{◌≡◌, ◌⊎◌, inl, inr, ℕ, zero, suc, ◌+◌, ◌-◌, ◌^◌, ◌<◌, ◌≤◌, true, false, ◌&&◌, ◌||◌, not}
use Rattle.std.proofs.Common.{cond, eqb, ltb, refl, sym, ap, ◌∙◌, subst, arith, Bool, List, [], ◌∷◌, ◌++◌, length, ℤ}
use Rattle.std.proofs.Common.{pos, neg_ℤ, ◌+ℤ◌, ◌-ℤ◌, to_z, of_z, length-append}
use Rattle.std.specs.Prelude.{Option, Some, None, filter, option_map, option_and_then, unwrap_or, min}
use Rattle.std.specs.Int.{w128}
use Rattle.std.specs.List.{list_all}
use Rattle.std.proofs.lemmas.Bool.{and_from, and_left, and_right, cases_lt, cond-true, cond-false, le-ltb, ltb-true}
use Rattle.std.proofs.lemmas.Int.{ints}
use Rattle.std.proofs.lemmas.List.{nil_from_length}
use Rattle.lexical_forms.specs.declared.form.NumberForm.{NumberForm}
use Rattle.lexical_forms.specs.declared.number.significand.Significand.{Significand}
use Rattle.lexical_forms.specs.Digits.{is_digit, is_digits, is_empty, is_negative, spelled, unsigned, signed}
use Rattle.lexical_forms.specs.Digits.{from_first}
use Rattle.lexical_forms.specs.Number.{i64_only, integer_text_reading, is_grouped, is_exponent_mark, is_point}
use Rattle.lexical_forms.specs.Number.{split_at_first}
use Rattle.lexical_forms.specs.Number.{Parts, parts_of, digits_of, is_exponent, exponent_of, is_number, scaled}
use Rattle.lexical_forms.specs.Number.{in_range, billionths_of, unsigned_reading}
use Rattle.lexical_forms.specs.Significand.{Spells, IsLong, TakesWhole, TakesFraction, IsDigitsValue, IsExponentOf}
use Rattle.lexical_forms.specs.Significand.{IsInLimits, IsLimited, is_exponent_text, exponent_in, exponent_limit}
use Rattle.lexical_forms.specs.Significand.{ends_whole_part, whole_in, fraction_in, after_fraction}
use Rattle.lexical_forms.proofs.PartLemmas.{whole_in-past, whole_in-here}
use Rattle.lexical_forms.proofs.NumberLemmas.{split_at_first-past, split_at_first-here, cut}
use Rattle.lexical_forms.proofs.SignificandLemmas.{IsLong-append, scaled-long}

-- ---- options

pub map-some : {X Y : Type 0} (f : X → Y) (o : Option X) (y : Y) → option_map f o ≡ Some y
    → (x : X) × (o ≡ Some x) × (f x ≡ y)
map-some f None y e = cc
map-some f (Some x) y e = (x, refl, cc)

pub then-some : {X Y : Type 0} (f : X → Option Y) (o : Option X) (y : Y) → option_and_then f o ≡ Some y
    → (x : X) × (o ≡ Some x) × (f x ≡ Some y)
then-some f None y e = cc
then-some f (Some x) y e = (x, refl, e)

pub if-some : {X : Type 0} (b : Bool) (o : Option X) (x : X) → cond b o None ≡ Some x → (b ≡ true) × (o ≡ Some x)
if-some true o x e = (refl, e)
if-some false o x e = cc

-- ---- whole numbers

i64_only-large : (negative : Bool) (n : ℕ) → 2 ^ 64 ≤ n → i64_only (signed negative n) ≡ None
i64_only-large false n h = cond-false _ _ _ (le-ltb n (2 ^ 63) (omega arith))
i64_only-large true zero h = absurd (omega arith)
i64_only-large true (suc n) h = cond-false _ _ _ (le-ltb n (2 ^ 63) (omega arith))

pub integer_text_reading-none : (cs : List ℕ) → IsDigitsValue (unsigned cs) None → None ≡ integer_text_reading cs
unfolding integer_text_reading
integer_text_reading-none cs (inl h) = sym (cond-false _ _ _ h)
integer_text_reading-none cs (inr h) = sym (by_digits (is_digits (unsigned cs)))
  where
    by_digits : (b : Bool) → cond b (i64_only (signed (is_negative cs) (spelled (unsigned cs)))) None ≡ None
    by_digits true = i64_only-large (is_negative cs) (spelled (unsigned cs)) h
    by_digits false = refl

-- ---- exponents

pub limited_signed : (negative : Bool) (n m : ℕ) → m ≡ min exponent_limit n
    → IsLimited (signed negative n) (signed negative m)
limited_signed negative n m e = by_size (cases_lt exponent_limit n)
  where
    large : (negative : Bool) → exponent_limit < n → m ≡ exponent_limit
        → IsLimited (signed negative n) (signed negative m)
    large false h same = inr (inl (omega (arith, ints), ap pos same))
    large true h same = inr (inr (omega (arith, ints), ap (λ k. neg_ℤ (pos k)) same))

    by_size : (exponent_limit < n) ⊎ (n ≤ exponent_limit) → IsLimited (signed negative n) (signed negative m)
    by_size (inl h) = large negative h (omega arith)
    by_size (inr h) = inl (ap (signed negative) (let same : m ≡ n = omega arith in same))

abbrev pub limited_in : List ℕ → ℕ
limited_in cs = min exponent_limit (spelled cs)

pub negated : (n : ℕ) → n ≤ exponent_limit → to_z w128 (of_z w128 (pos 0 -ℤ to_z w128 n)) ≡ neg_ℤ (pos n)
negated n h = omega (arith, ints)

pub no_exponent : (text after : List ℕ) (c : ℕ) → text ≡ c ∷ after
    → (is_exponent_mark c && is_digits (unsigned after)) ≡ false → is_exponent_text text ≡ false
no_exponent text after c e h = ap is_exponent_text e ∙ h

pub IsInLimits-signed : (negative : Bool) (n : ℕ) → n ≤ exponent_limit → IsInLimits (signed negative n)
IsInLimits-signed true n h = (omega (arith, ints), omega (arith, ints))
IsInLimits-signed false n h = (omega (arith, ints), omega (arith, ints))

pub unchanged : (n : ℕ) → n ≤ exponent_limit → to_z w128 n ≡ pos n
unchanged n h = omega (arith, ints)

pub kept_exponent : (z : ℤ) → IsInLimits z → to_z w128 (of_z w128 z) ≡ z
kept_exponent z h = omega (arith, ints, h.0, h.1)

pub some_exponent : (text after : List ℕ) (c n : ℕ) (limited : ℤ) → text ≡ c ∷ after → is_exponent_mark c ≡ true
    → is_digits (unsigned after) ≡ true → n ≡ min exponent_limit (spelled (unsigned after))
    → limited ≡ signed (is_negative after) n → IsExponentOf text (Some limited)
some_exponent text after c n limited e mark digits number same = (
  ap is_exponent_text e ∙ and_from (is_exponent_mark c) _ mark digits,
  subst IsInLimits (sym same) (IsInLimits-signed (is_negative after) n (omega arith)),
  subst (λ (z : ℤ). IsLimited (exponent_in text) z) (sym same)
      (subst (λ (xs : List ℕ). IsLimited (exponent_in xs) (signed (is_negative after) n)) (sym e)
      (limited_signed (is_negative after) (spelled (unsigned after)) n number)),
)

-- ---- the parts of a number are those that are read from the left

abbrev pub exponent_part : List ℕ → Option (List ℕ)
exponent_part [] = None
exponent_part (c ∷ cs) = Some cs

split_at_first-after : (p : ℕ → Bool) (cs : List ℕ) → (split_at_first p cs).1 ≡ exponent_part (from_first p cs)
split_at_first-after p [] = refl
split_at_first-after p (c ∷ cs) = by_test (split_at_first-after p cs) (p c)
  where
    by_test : (split_at_first p cs).1 ≡ exponent_part (from_first p cs) → (b : Bool)
        → (cond b (cut [] (Some cs)) (cut (c ∷ (split_at_first p cs).0) (split_at_first p cs).1)).1
        ≡ exponent_part (cond b (c ∷ cs) (from_first p cs))
    by_test ih true = refl
    by_test ih false = ih

mark-no_point : (form : NumberForm) (c : ℕ) → is_exponent_mark c ≡ true → is_point form c ≡ false
mark-no_point form c h = and_right (eqb c form.decimal && not (is_digit c)) (not (is_exponent_mark c)) (ap not h)

pub record SameParts (form : NumberForm) (cs : List ℕ) : Type 0 where
  pub whole : (split_at_first (is_point form) (split_at_first is_exponent_mark cs).0).0 ≡ whole_in form cs
  pub fraction : unwrap_or (split_at_first (is_point form) (split_at_first is_exponent_mark cs).0).1 []
      ≡ fraction_in form (from_first (ends_whole_part form) cs)
  pub exponent : (split_at_first is_exponent_mark cs).1
      ≡ exponent_part (after_fraction form (from_first (ends_whole_part form) cs))

-- One more leading character, by the three cases of what it is.
more_mark : (form : NumberForm) (c : ℕ) (cs : List ℕ) → is_exponent_mark c ≡ true → SameParts form (c ∷ cs)
more_mark form c cs mark =
    let split : split_at_first is_exponent_mark (c ∷ cs) ≡ cut [] (Some cs) =
    split_at_first-here is_exponent_mark c cs mark in
    let point = mark-no_point form c mark in
    let stop : ends_whole_part form c ≡ true = rw (point, mark) refl in
    let stays : from_first (ends_whole_part form) (c ∷ cs) ≡ c ∷ cs = cond-true _ _ _ stop in
    record {
      whole = ap (λ (x : List ℕ × Option (List ℕ)). (split_at_first (is_point form) x.0).0) split
          ∙ sym (whole_in-here form c cs stop);
      fraction = ap (λ (x : List ℕ × Option (List ℕ)). unwrap_or (split_at_first (is_point form) x.0).1 []) split
          ∙ sym (ap (fraction_in form) stays ∙ cond-false _ _ _ point);
      exponent = ap (λ (x : List ℕ × Option (List ℕ)). x.1) split
          ∙ sym (ap (λ xs. exponent_part (after_fraction form xs)) stays ∙ ap exponent_part (cond-false _ _ _ point));
    }

more_point : (form : NumberForm) (c : ℕ) (cs : List ℕ) → is_exponent_mark c ≡ false → is_point form c ≡ true
    → SameParts form (c ∷ cs)
more_point form c cs mark point =
    let split : split_at_first is_exponent_mark (c ∷ cs) ≡ cut (c ∷ (split_at_first is_exponent_mark cs).0)
    (split_at_first is_exponent_mark cs).1 = split_at_first-past is_exponent_mark c cs mark in
    let at : split_at_first (is_point form) (c ∷ (split_at_first is_exponent_mark cs).0)
    ≡ cut [] (Some (split_at_first is_exponent_mark cs).0) =
    split_at_first-here (is_point form) c (split_at_first is_exponent_mark cs).0 point in
    let stop : ends_whole_part form c ≡ true = rw point refl in
    let stays : from_first (ends_whole_part form) (c ∷ cs) ≡ c ∷ cs = cond-true _ _ _ stop in
    record {
      whole = ap (λ (x : List ℕ × Option (List ℕ)). (split_at_first (is_point form) x.0).0) split
          ∙ ap (λ (x : List ℕ × Option (List ℕ)). x.0) at ∙ sym (whole_in-here form c cs stop);
      fraction = ap (λ (x : List ℕ × Option (List ℕ)). unwrap_or (split_at_first (is_point form) x.0).1 []) split
          ∙ ap (λ (x : List ℕ × Option (List ℕ)). unwrap_or x.1 []) at ∙ sym
          (ap (fraction_in form) stays ∙ cond-true _ _ _ point);
      exponent = ap (λ (x : List ℕ × Option (List ℕ)). x.1) split ∙ split_at_first-after is_exponent_mark cs
          ∙ sym (ap (λ xs. exponent_part (after_fraction form xs)) stays ∙ ap exponent_part (cond-true _ _ _ point));
    }

more_other : (form : NumberForm) (c : ℕ) (cs : List ℕ) → is_exponent_mark c ≡ false → is_point form c ≡ false
    → SameParts form cs → SameParts form (c ∷ cs)
more_other form c cs mark point same =
    let split : split_at_first is_exponent_mark (c ∷ cs) ≡ cut (c ∷ (split_at_first is_exponent_mark cs).0)
    (split_at_first is_exponent_mark cs).1 = split_at_first-past is_exponent_mark c cs mark in
    let at = split_at_first-past (is_point form) c (split_at_first is_exponent_mark cs).0 point in
    let stop : ends_whole_part form c ≡ false = rw (point, mark) refl in
    let goes_on : from_first (ends_whole_part form) (c ∷ cs) ≡ from_first (ends_whole_part form) cs =
    cond-false _ _ _ stop in
    record {
      whole = ap (λ (x : List ℕ × Option (List ℕ)). (split_at_first (is_point form) x.0).0) split
          ∙ ap (λ (x : List ℕ × Option (List ℕ)). x.0) at ∙ ap (λ xs. c ∷ xs) same.whole
          ∙ sym (whole_in-past form c cs stop);
      fraction = ap (λ (x : List ℕ × Option (List ℕ)). unwrap_or (split_at_first (is_point form) x.0).1 []) split
          ∙ ap (λ (x : List ℕ × Option (List ℕ)). unwrap_or x.1 []) at ∙ same.fraction
          ∙ sym (ap (fraction_in form) goes_on);
      exponent = ap (λ (x : List ℕ × Option (List ℕ)). x.1) split ∙ same.exponent
          ∙ sym (ap (λ xs. exponent_part (after_fraction form xs)) goes_on);
    }

same_parts : (form : NumberForm) (cs : List ℕ) → SameParts form cs
same_parts form [] = record { whole = refl; fraction = refl; exponent = refl }
same_parts form (c ∷ cs) = by_mark (same_parts form cs) (is_exponent_mark c) refl
  where
    by_point : SameParts form cs → is_exponent_mark c ≡ false → (b : Bool) → is_point form c ≡ b
        → SameParts form (c ∷ cs)
    by_point ih mark true e = more_point form c cs mark e
    by_point ih mark false e = more_other form c cs mark e ih

    by_mark : SameParts form cs → (b : Bool) → is_exponent_mark c ≡ b → SameParts form (c ∷ cs)
    by_mark ih true e = more_mark form c cs e
    by_mark ih false e = by_point ih e (is_point form c) refl

abbrev made : List ℕ → List ℕ → Option (List ℕ) → Parts
made whole fraction exponent = record { whole = whole; fraction = fraction; exponent = exponent }

-- The parts of a number, from the left.
abbrev pub parts_in : NumberForm → List ℕ → Parts
parts_in form cs =
    made (whole_in form cs) (fraction_in form (from_first (ends_whole_part form) cs))
    (exponent_part (after_fraction form (from_first (ends_whole_part form) cs)))

parts_of-in : (form : NumberForm) (cs : List ℕ) → parts_of form cs ≡ parts_in form cs
parts_of-in form cs =
    let same = same_parts form cs in
    same_made _ _ _ _ _ _ same.whole same.fraction same.exponent
  where
    same_made : (w v f g : List ℕ) (d e : Option (List ℕ)) → w ≡ v → f ≡ g → d ≡ e → made w f d ≡ made v g e
    same_made w v f g d e p q r = ap (λ x. made x f d) p ∙ ap (λ x. made v x d) q ∙ ap (λ x. made v g x) r

-- ---- a number from its parts

no_number : (form : NumberForm) (parts : Parts) → (is_number form parts ≡ false) ⊎ (billionths_of parts ≡ None)
    → unsigned_reading form parts ≡ None
no_number form parts (inl h) = cond-false _ _ _ h
no_number form parts (inr h) = by_test (is_number form parts)
  where
    by_test : (b : Bool) → cond b (billionths_of parts) None ≡ None
    by_test true = h
    by_test false = refl

long_digits : (parts : Parts) → IsLong (digits_of parts) → billionths_of parts ≡ None
long_digits parts h = scaled-long (digits_of parts) _ h

pub reading-no_whole : (form : NumberForm) (cs : List ℕ) → TakesWhole form cs None
    → None ≡ unsigned_reading form (parts_of form cs)
reading-no_whole form cs none =
    sym (ap (unsigned_reading form) (parts_of-in form cs) ∙ no_number form (parts_in form cs) (by_case none))
  where
    parts : Parts
    parts = parts_in form cs

    by_digits : IsLong (filter is_digit (whole_in form cs)) → (b : Bool)
        → list_all is_digit (fraction_in form (from_first (ends_whole_part form) cs)) ≡ b
        → (is_number form (parts_in form cs) ≡ false) ⊎ (billionths_of (parts_in form cs) ≡ None)
    by_digits long true digits =
        inr (long_digits (parts_in form cs)
        (IsLong-append (filter is_digit (whole_in form cs)) (fraction_in form (from_first (ends_whole_part form) cs))
        digits
        long))
    by_digits long false other = inl (and_left _ _ (and_left _ _ (and_right _ _ other)))

    by_case : TakesWhole form cs None
        → (is_number form (parts_in form cs) ≡ false) ⊎ (billionths_of (parts_in form cs) ≡ None)
    by_case (inl h) = inl (and_left _ _ (and_left _ _ (and_left _ _ h)))
    by_case (inr long) =
        by_digits long (list_all is_digit (fraction_in form (from_first (ends_whole_part form) cs))) refl

pub reading-no_fraction : (form : NumberForm) (cs : List ℕ) (digits : Significand)
    → Spells digits (filter is_digit (whole_in form cs))
    → TakesFraction form digits (from_first (ends_whole_part form) cs) None
    → None ≡ unsigned_reading form (parts_of form cs)
reading-no_fraction form cs digits spells none =
    sym (ap (unsigned_reading form) (parts_of-in form cs) ∙ no_number form (parts_in form cs) (by_case none))
  where
    by_case : TakesFraction form digits (from_first (ends_whole_part form) cs) None
        → (is_number form (parts_in form cs) ≡ false) ⊎ (billionths_of (parts_in form cs) ≡ None)
    by_case (inl h) = inl (and_left _ _ (and_left _ _ (and_right _ _ h)))
    by_case (inr adds) = inr (long_digits (parts_in form cs) (adds (filter is_digit (whole_in form cs)) spells))

abbrev FirstPasses : (ℕ → Bool) → List ℕ → Type 0
FirstPasses p [] = Unit {0}
FirstPasses p (c ∷ cs) = p c ≡ true

from_first-passes : (p : ℕ → Bool) (cs : List ℕ) → FirstPasses p (from_first p cs)
from_first-passes p [] = tt
from_first-passes p (c ∷ cs) = by_test (from_first-passes p cs) (p c) refl
  where
    by_test : FirstPasses p (from_first p cs) → (b : Bool) → p c ≡ b → FirstPasses p (cond b (c ∷ cs) (from_first p cs))
    by_test ih true e = e
    by_test ih false e = ih

after-passes : (form : NumberForm) (cs : List ℕ) → FirstPasses (ends_whole_part form) cs
    → FirstPasses is_exponent_mark (after_fraction form cs)
after-passes form [] h = tt
after-passes form (c ∷ cs) h = by_test (is_point form c) refl
  where
    by_test : (b : Bool) → is_point form c ≡ b
        → FirstPasses is_exponent_mark (cond b (from_first is_exponent_mark cs) (c ∷ cs))
    by_test true e = from_first-passes is_exponent_mark cs
    by_test false e = sym (ap (λ b. b || is_exponent_mark c) e) ∙ h

mark_text : (cs : List ℕ) → FirstPasses is_exponent_mark cs → is_exponent_text cs ≡ is_exponent (exponent_part cs)
mark_text [] h = refl
mark_text (c ∷ cs) h = ap (λ b. b && is_digits (unsigned cs)) h

exponent_in-part : (cs : List ℕ) → exponent_in cs ≡ exponent_of (exponent_part cs)
exponent_in-part [] = refl
exponent_in-part (c ∷ cs) = refl

-- the text after the fraction
abbrev pub exponent_text_in : NumberForm → List ℕ → List ℕ
exponent_text_in form cs = after_fraction form (from_first (ends_whole_part form) cs)

abbrev pub digits_in : NumberForm → List ℕ → List ℕ
digits_in form cs = filter is_digit (whole_in form cs) ++ fraction_in form (from_first (ends_whole_part form) cs)

exponent_test : (form : NumberForm) (cs : List ℕ)
    → is_exponent_text (exponent_text_in form cs) ≡ is_exponent (exponent_part (exponent_text_in form cs))
exponent_test form cs =
    mark_text (exponent_text_in form cs)
    (after-passes form (from_first (ends_whole_part form) cs) (from_first-passes (ends_whole_part form) cs))

pub reading-no_exponent : (form : NumberForm) (cs : List ℕ) → is_exponent_text (exponent_text_in form cs) ≡ false
    → None ≡ unsigned_reading form (parts_of form cs)
reading-no_exponent form cs h =
    sym (ap (unsigned_reading form) (parts_of-in form cs)
    ∙ no_number form (parts_in form cs) (inl (and_right _ _ (sym (exponent_test form cs) ∙ h))))

pub reading-empty : (form : NumberForm) (cs : List ℕ) → length (digits_in form cs) ≡ 0
    → None ≡ unsigned_reading form (parts_of form cs)
reading-empty form cs h =
    let none : is_empty (digits_in form cs) ≡ true = ap is_empty (nil_from_length (digits_in form cs) h) in
    sym (ap (unsigned_reading form) (parts_of-in form cs)
    ∙ no_number form (parts_in form cs) (inl (and_left _ _ (and_right _ _ (ap not none)))))

some_digits : (cs : List ℕ) → (length cs ≡ 0 → ⊥) → is_empty cs ≡ false
some_digits [] h = absurd (h refl)
some_digits (c ∷ cs) h = refl

pub reading-number : (form : NumberForm) (cs : List ℕ) → is_grouped form.group false (whole_in form cs) ≡ true
    → list_all is_digit (fraction_in form (from_first (ends_whole_part form) cs)) ≡ true
    → (length (digits_in form cs) ≡ 0 → ⊥) → is_exponent_text (exponent_text_in form cs) ≡ true
    → option_and_then in_range
    (scaled (spelled (digits_in form cs))
    (pos 9 +ℤ exponent_in (exponent_text_in form cs)
    -ℤ pos (length (fraction_in form (from_first (ends_whole_part form) cs)))))
    ≡ unsigned_reading form (parts_of form cs)
reading-number form cs grouped digits some exponent =
    let number : is_number form (parts_in form cs) ≡ true =
    and_from _ _ (and_from _ _ (and_from _ _ grouped digits) (ap not (some_digits (digits_in form cs) some)))
    (sym (exponent_test form cs) ∙ exponent) in
    ap (λ (z : ℤ). option_and_then in_range
    (scaled (spelled (digits_in form cs))
    (pos 9 +ℤ z -ℤ pos (length (fraction_in form (from_first (ends_whole_part form) cs))))))
    (exponent_in-part (exponent_text_in form cs))
    ∙ sym (ap (unsigned_reading form) (parts_of-in form cs) ∙ cond-true _ _ _ number)

-- ---- the lengths of the parts

length-from_first : (p : ℕ → Bool) (cs : List ℕ) → length (split_at_first p cs).0 + length (from_first p cs) ≡ length cs
length-from_first p [] = refl
length-from_first p (c ∷ cs) = by_test (length-from_first p cs) (p c)
  where
    by_test : length (split_at_first p cs).0 + length (from_first p cs) ≡ length cs → (b : Bool)
        → length (cond b (cut [] (Some cs)) (cut (c ∷ (split_at_first p cs).0) (split_at_first p cs).1)).0 + length
        (cond b (c ∷ cs) (from_first p cs)) ≡ suc (length cs)
    by_test ih true = omega arith
    by_test ih false = omega arith

length-filter-le : (cs : List ℕ) → length (filter is_digit cs) ≤ length cs
length-filter-le [] = omega arith
length-filter-le (c ∷ cs) = by_test (length-filter-le cs) (is_digit c)
  where
    by_test : length (filter is_digit cs) ≤ length cs → (b : Bool)
        → length (cond b (c ∷ filter is_digit cs) (filter is_digit cs)) ≤ suc (length cs)
    by_test ih true = omega arith
    by_test ih false = omega arith

pub room_left : (form : NumberForm) (cs : List ℕ)
    → length (filter is_digit (whole_in form cs)) + length (from_first (ends_whole_part form) cs) ≤ length cs
room_left form cs = omega (arith, length-from_first (ends_whole_part form) cs, length-filter-le (whole_in form cs))

-- ---- what was read from the left

abbrev pub took : Significand → List ℕ → Option (Significand × List ℕ)
took digits rest = Some (digits, rest)

-- The whole part and the fraction are read.
record Read (form : NumberForm) (cs tail : List ℕ) (digits all : Significand) : Type 0 where
  grouped : is_grouped form.group false (whole_in form cs) ≡ true
  places : list_all is_digit (fraction_in form (from_first (ends_whole_part form) cs)) ≡ true
  whole : Spells digits (filter is_digit (whole_in form cs))
  spells : Spells all (digits_in form cs)
  left : tail ≡ exponent_text_in form cs

read_of : (form : NumberForm) (cs rest tail : List ℕ) (digits all : Significand)
    → TakesWhole form cs (took digits rest) → TakesFraction form digits rest (took all tail)
    → Read form cs tail digits all
read_of form cs rest tail digits all whole fraction =
    let here = subst (λ (xs : List ℕ). TakesFraction form digits xs (took all tail)) whole.2 fraction in
    record {
      grouped = whole.0;
      places = here.0;
      whole = whole.1;
      spells = here.1 (filter is_digit (whole_in form cs)) whole.1;
      left = here.2;
    }

pub no_fraction : (form : NumberForm) (cs rest : List ℕ) (digits : Significand)
    → TakesWhole form cs (took digits rest) → TakesFraction form digits rest None
    → None ≡ unsigned_reading form (parts_of form cs)
no_fraction form cs rest digits whole none =
    reading-no_fraction form cs digits whole.1 (subst (λ (xs : List ℕ). TakesFraction form digits xs None) whole.2 none)

pub no_exponent_read : (form : NumberForm) (cs rest tail : List ℕ) (digits all : Significand)
    → TakesWhole form cs (took digits rest) → TakesFraction form digits rest (took all tail)
    → is_exponent_text tail ≡ false → None ≡ unsigned_reading form (parts_of form cs)
no_exponent_read form cs rest tail digits all whole fraction h =
    let read = read_of form cs rest tail digits all whole fraction in
    reading-no_exponent form cs (ap is_exponent_text (sym read.left) ∙ h)

pub empty_read : (form : NumberForm) (cs rest tail : List ℕ) (digits all : Significand)
    → TakesWhole form cs (took digits rest) → TakesFraction form digits rest (took all tail) → all.count ≡ 0
    → None ≡ unsigned_reading form (parts_of form cs)
empty_read form cs rest tail digits all whole fraction h =
    let read = read_of form cs rest tail digits all whole fraction in
    reading-empty form cs (sym read.spells.counted ∙ h)

pub number_read : (form : NumberForm) (cs rest tail : List ℕ) (digits all : Significand) (exponent given after : ℤ)
    (result : Option ℕ) → TakesWhole form cs (took digits rest) → TakesFraction form digits rest (took all tail)
    → (all.count ≡ 0 → ⊥) → IsExponentOf tail (Some exponent) → given ≡ exponent
    → after ≡ pos (all.count - digits.count)
    → ((ds : List ℕ) (e : ℤ) → Spells all ds → IsLimited e given
    → result ≡ option_and_then in_range (scaled (spelled ds) (pos 9 +ℤ e -ℤ after)))
    → result ≡ unsigned_reading form (parts_of form cs)
number_read form cs rest tail digits all exponent given after result whole fraction some limited kept same is =
    let read = read_of form cs rest tail digits all whole fraction in
    let places = fraction_in form (from_first (ends_whole_part form) cs) in
    let count : all.count - digits.count ≡ length places =
    omega (
      arith,
      read.spells.counted,
      read.whole.counted,
      length-append (filter is_digit (whole_in form cs))
          places,
    ) in
    let there : IsExponentOf (exponent_text_in form cs) (Some exponent) =
    subst (λ (xs : List ℕ). IsExponentOf xs (Some exponent)) read.left limited in
    is (digits_in form cs) (exponent_in (exponent_text_in form cs)) read.spells
    (subst (λ (z : ℤ). IsLimited (exponent_in (exponent_text_in form cs)) z) (sym kept) there.2)
    ∙ ap (λ (z : ℤ). option_and_then in_range
    (scaled (spelled (digits_in form cs)) (pos 9 +ℤ exponent_in (exponent_text_in form cs) -ℤ z))) (same ∙ ap pos count)
    ∙ reading-number form cs read.grouped read.places (λ h. some (read.spells.counted ∙ h)) there.0

pub unsigned_reading-small : (form : NumberForm) (parts : Parts) (n : ℕ) → Some n ≡ unsigned_reading form parts
    → n < 10 ^ 27
unsigned_reading-small form parts n e =
    let size = (if-some (is_number form parts) (billionths_of parts) n (sym e)).1 in
    let found =
    then-some in_range
    (scaled (spelled (digits_of parts)) (pos 9 +ℤ exponent_of parts.exponent -ℤ pos (length parts.fraction))) n
    size in
    let small = if-some (ltb found.0 (10 ^ 27)) (Some found.0) n found.2 in
    let same : found.0 ≡ n = cc (small.1) in
    omega (arith, ltb-true found.0 (10 ^ 27) small.0)

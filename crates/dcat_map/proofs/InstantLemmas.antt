-- A text gives a moment exactly where it is a date, or a date and a time.
use Rattle.std.proofs.Common.{◌≡◌, ℕ, suc, ◌+◌, length, take, drop, Bool, true, false, cond, ◌&&◌, eqb}
use Rattle.std.proofs.Common.{nat_lt, List}
use Rattle.std.proofs.Common.{append_assoc, [], ◌∷◌, ◌++◌, Option, Some, None, refl, sym, ap, ◌∙◌, subst, arith, inl}
use Rattle.std.proofs.Common.{inr, ℤ}
use Rattle.std.specs.Prelude.{codes, ◌-ℤ◌, ◌↔◌, pos, neg_ℤ, option_map}
use Rattle.std.specs.Char.{is_ascii_digit}
use Rattle.std.specs.List.{list_all, prefix_len}
use Rattle.std.proofs.lemmas.Bool.{and_parts, eqb-true, lt-ltb}
use Rattle.std.proofs.lemmas.List.{append-nil, take-append-drop, take_all, take-append-le, drop-append-le, drop_all}
use Rattle.std.proofs.lemmas.Option.{none-some, same_Some, cond_some}
use Rattle.portal_base.specs.Calendar.{date_reading, time_reading, moment_at}
use Rattle.portal_base.specs.MomentReading.{fits_form}
use Rattle.portal_base.proofs.CalendarLemmas.{moment_at-parts}
use Rattle.portal_base.proofs.FormLemmas.{fits_form-length}
use Rattle.ntriples.specs.Reading.{◌>>=◌}
use Rattle.dcat_map.specs.Instants.{skip_digits, skip_fraction, offset_size, offset, zone_offset, is_moment, instant_in}
use Rattle.dcat_map.specs.Instants.{instant_of}
use Rattle.dcat_map.specs.Instants.{instant, are_digits, IsFraction, IsDateTime, IsInstant}

-- What a step gives, where all gives something.
step_parts : {A B : Type 0} (r : Option A) (f : A → Option B) (y : B) → (r >>= f) ≡ Some y
    → (x : A) × (r ≡ Some x) × (f x ≡ Some y)
step_parts None f y h = absurd (none-some y h)
step_parts (Some x) f y h = (x, refl, h)

one_more : (n : ℕ) → 1 + n ≡ suc n
one_more n = omega arith

-- the parts of a date and a time, each before all that follow it
joined : (date time fraction zone : List ℕ)
    → date ++ codes "T" ++ time ++ fraction ++ zone ≡ date ++ (84 ∷ (time ++ (fraction ++ zone)))
joined date time fraction zone =
    append_assoc (date ++ codes "T" ++ time) fraction zone
    ∙ append_assoc (date ++ codes "T") time (fraction ++ zone)
    ∙ append_assoc date (codes "T") (time ++ (fraction ++ zone))

-- ---- what is read is of the form

digits_taken : (bs : List ℕ) → list_all is_ascii_digit (take (prefix_len is_ascii_digit bs) bs) ≡ true
digits_taken [] = refl
digits_taken (b ∷ bs) =
    let n = prefix_len is_ascii_digit bs in
    let P : Bool → Type 0 = λ v. is_ascii_digit b ≡ v → list_all is_ascii_digit (take (cond v (1 + n) 0) (b ∷ bs)) ≡ true in
    (elim (is_ascii_digit b) as P [
      | true ↦ λ e. ap (λ k. list_all is_ascii_digit (take k (b ∷ bs))) (one_more n)
          ∙ ap (λ v. v && list_all is_ascii_digit (take n bs)) e ∙ digits_taken bs
      | false ↦ λ e. refl
    ]) refl

some_taken : (bs : List ℕ) → nat_lt 0 (prefix_len is_ascii_digit bs) ≡ true
    → are_digits (take (prefix_len is_ascii_digit bs) bs) ≡ true
some_taken [] h = absurd (cc)
some_taken (b ∷ bs) h =
    let n = prefix_len is_ascii_digit bs in
    let P : Bool → Type 0 = λ v. is_ascii_digit b ≡ v → nat_lt 0 (cond v (1 + n) 0) ≡ true
    → are_digits (take (cond v (1 + n) 0) (b ∷ bs)) ≡ true in
    (elim (is_ascii_digit b) as P [
      | true ↦ λ e g. ap (λ k. are_digits (take k (b ∷ bs))) (one_more n)
          ∙ ap (λ v. v && list_all is_ascii_digit (take n bs)) e ∙ digits_taken bs
      | false ↦ λ e g. absurd (cc)
    ]) refl h

fraction-form : (rest zone : List ℕ) → skip_fraction rest ≡ Some zone
    → (fraction : List ℕ) × (rest ≡ fraction ++ zone) × IsFraction fraction
unfolding skip_fraction
fraction-form [] zone h = ([], same_Some [] zone h, inl refl)
fraction-form (b ∷ bs) zone h =
    let n = prefix_len is_ascii_digit bs in
    let P : Bool → Type 0 = λ v. eqb b 46 ≡ v → cond v (skip_digits bs) (Some (b ∷ bs)) ≡ Some zone
    → (fraction : List ℕ) × (b ∷ bs ≡ fraction ++ zone) × IsFraction fraction in
    (elim (eqb b 46) as P [
      | true ↦ λ e g.
          let parts = cond_some (nat_lt 0 n) (drop n bs) zone g in (
            b ∷ take n bs,
            ap (λ (l : List ℕ). b ∷ l) (sym (take-append-drop n bs) ∙ ap (λ l. take n bs ++ l) parts.1),
            inr (take n bs, ap (λ c. c ∷ take n bs) (eqb-true b 46 e), some_taken bs parts.0),
          )
      | false ↦ λ e g. ([], same_Some (b ∷ bs) zone g, inl refl)
    ]) refl h

date_time-form : (text date time rest : List ℕ) (m : ℤ) → text ≡ date ++ (84 ∷ (time ++ rest))
    → instant_in date time rest ≡ Some m → IsDateTime text m
unfolding instant_in
date_time-form text date time rest m whole h =
    let local = step_parts (moment_at date time) _ m h in
    let utc_offset = step_parts (zone_offset rest) _ m local.2 in
    let zone = step_parts (skip_fraction rest) offset utc_offset.0 utc_offset.1 in
    let moment = cond_some (is_moment (local.0 -ℤ utc_offset.0)) (local.0 -ℤ utc_offset.0) m utc_offset.2 in
    let fraction = fraction-form rest zone.0 zone.1 in
    record {
      date = date;
      time = time;
      fraction = fraction.0;
      zone = zone.0;
      local = local.0;
      utc_offset = utc_offset.0;
      form = whole ∙ ap (λ r. date ++ (84 ∷ (time ++ r))) fraction.1 ∙ sym (joined date time fraction.0 zone.0);
      is_local = local.1;
      is_fraction = fraction.2;
      is_offset = zone.2;
      named = sym moment.1;
      within = ap is_moment (sym moment.1) ∙ moment.0;
    }

instant_of-form : (text date rest : List ℕ) (m : ℤ) → date ++ rest ≡ text → instant_of date rest ≡ Some m
    → IsInstant text m
unfolding instant_of
instant_of-form text date [] m whole h =
    inl (subst (λ t. moment_at t (codes "00:00:00") ≡ Some m) (sym (append-nil date) ∙ whole) h)
instant_of-form text date (b ∷ bs) m whole h =
    let P : Bool → Type 0 = λ v. eqb b 84 ≡ v → cond v (instant_in date (take 8 bs) (drop 8 bs)) None ≡ Some m
    → IsInstant text m in
    (elim (eqb b 84) as P [
      | true ↦ λ e g. inr (date_time-form text date (take 8 bs) (drop 8 bs) m
          (sym whole ∙ ap (λ c. date ++ (c ∷ bs)) (eqb-true b 84 e)
          ∙ ap (λ (l : List ℕ). date ++ (84 ∷ l)) (sym (take-append-drop 8 bs))) g)
      | false ↦ λ e g. absurd (none-some m g)
    ]) refl h

instant-form : (text : List ℕ) (m : ℤ) → instant text ≡ Some m → IsInstant text m
instant-form text m h = instant_of-form text (take 10 text) (drop 10 text) m (take-append-drop 10 text) h

-- ---- what is of the form is read

take_front : (n : ℕ) (xs ys : List ℕ) → length xs ≡ n → take n (xs ++ ys) ≡ xs
take_front n xs ys e = take-append-le n xs ys (omega arith) ∙ take_all n xs (omega arith)

drop_front : (n : ℕ) (xs ys : List ℕ) → length xs ≡ n → drop n (xs ++ ys) ≡ ys
drop_front n xs ys e =
    drop-append-le n xs ys (omega arith) ∙ ap (λ (l : List ℕ). l ++ ys) (drop_all n xs (omega arith))

form_length : {A : Type 0} (form text : List ℕ) (r : Option A) (x : A) → cond (fits_form form text) r None ≡ Some x
    → length text ≡ length form
form_length {A} form text r x h =
    let P : Bool → Type 0 = λ v. fits_form form text ≡ v → cond v r None ≡ Some x → length text ≡ length form in
    (elim (fits_form form text) as P [
      | true ↦ λ e g. fits_form-length form text e
      | false ↦ λ e g. absurd (none-some x g)
    ]) refl h

date_length : (date : List ℕ) (day : ℤ) → date_reading date ≡ Some day → length date ≡ 10
unfolding date_reading
date_length date day h = form_length (codes "0000-00-00") date _ day h

time_length : (time : List ℕ) (second : ℕ) → time_reading time ≡ Some second → length time ≡ 8
unfolding time_reading
time_length time second h = form_length (codes "00:00:00") time _ second h

moment_lengths : (date time : List ℕ) (m : ℤ) → moment_at date time ≡ Some m → (length date ≡ 10) × (length time ≡ 8)
moment_lengths date time m h =
    let parts = moment_at-parts date time m h in
    (date_length date parts.0 parts.2, time_length time parts.1 parts.3)

-- An offset begins with no digit and no full stop.
offset_start : (zone : List ℕ) (seconds : ℤ) → offset zone ≡ Some seconds
    → (prefix_len is_ascii_digit zone ≡ 0) × (skip_fraction zone ≡ Some zone)
unfolding offset skip_fraction
offset_start [] seconds h = (refl, refl)
offset_start (b ∷ bs) seconds h =
    let Starts : ℕ → Type 0 =
    λ c. (prefix_len is_ascii_digit (c ∷ bs) ≡ 0) × (skip_fraction (c ∷ bs) ≡ Some (c ∷ bs)) in
    let plus : Option ℤ = option_map pos (offset_size bs) in
    let minus : Option ℤ = option_map (λ size. neg_ℤ (pos size)) (offset_size bs) in
    let none : Option ℤ = cond (nat_lt 0 (length bs)) None (Some (pos 0)) in
    let Q : Bool → Type 0 = λ v. eqb b 90 ≡ v → cond v none None ≡ Some seconds → Starts b in
    let R : Bool → Type 0 = λ v. eqb b 45 ≡ v → cond v minus (cond (eqb b 90) none None) ≡ Some seconds → Starts b in
    let P : Bool → Type 0 =
    λ v. eqb b 43 ≡ v → cond v plus (cond (eqb b 45) minus (cond (eqb b 90) none None)) ≡ Some seconds → Starts b in
    (elim (eqb b 43) as P [
      | true ↦ λ e g. subst Starts (sym (eqb-true b 43 e)) (refl, refl)
      | false ↦ λ e g. (elim (eqb b 45) as R [
        | true ↦ λ e g. subst Starts (sym (eqb-true b 45 e)) (refl, refl)
        | false ↦ λ e g. (elim (eqb b 90) as Q [
          | true ↦ λ e g. subst Starts (sym (eqb-true b 90 e)) (refl, refl)
          | false ↦ λ e g. absurd (none-some seconds g)
        ]) refl g
      ]) refl g
    ]) refl h

digits_counted : (digits zone : List ℕ) → list_all is_ascii_digit digits ≡ true → prefix_len is_ascii_digit zone ≡ 0
    → prefix_len is_ascii_digit (digits ++ zone) ≡ length digits
digits_counted [] zone h none = none
digits_counted (c ∷ cs) zone h none =
    let parts = and_parts (is_ascii_digit c) (list_all is_ascii_digit cs) h in
    ap (λ v. cond v (1 + prefix_len is_ascii_digit (cs ++ zone)) 0) parts.0
    ∙ ap (λ n. 1 + n) (digits_counted cs zone parts.1 none) ∙ one_more (length cs)

skip_digits-made : (digits zone : List ℕ) → are_digits digits ≡ true → prefix_len is_ascii_digit zone ≡ 0
    → skip_digits (digits ++ zone) ≡ Some zone
skip_digits-made [] zone h none = absurd (cc)
skip_digits-made (c ∷ cs) zone h none =
    ap (λ n. cond (nat_lt 0 n) (Some (drop n (c ∷ cs ++ zone))) None) (digits_counted (c ∷ cs) zone h none)
    ∙ ap (λ v. cond v (Some (drop (length (c ∷ cs)) (c ∷ cs ++ zone))) None) (lt-ltb 0 (length (c ∷ cs)) (omega arith))
    ∙ ap Some (drop_front (length (c ∷ cs)) (c ∷ cs) zone refl)

skip_fraction-made : (fraction zone : List ℕ) (seconds : ℤ) → IsFraction fraction → offset zone ≡ Some seconds
    → skip_fraction (fraction ++ zone) ≡ Some zone
unfolding skip_fraction
skip_fraction-made fraction zone seconds (inl e) h =
    ap (λ l. skip_fraction (l ++ zone)) e ∙ (offset_start zone seconds h).1
skip_fraction-made fraction zone seconds (inr d) h =
    ap (λ l. skip_fraction (l ++ zone)) d.1 ∙ skip_digits-made d.0 zone d.2 (offset_start zone seconds h).0

instant_in-made : (date time rest zone : List ℕ) (local utc_offset m : ℤ) → moment_at date time ≡ Some local
    → skip_fraction rest ≡ Some zone → offset zone ≡ Some utc_offset → m ≡ local -ℤ utc_offset → is_moment m ≡ true
    → instant_in date time rest ≡ Some m
unfolding instant_in
instant_in-made date time rest zone local utc_offset m a b c e within =
    rw (a, b, c, ← e) (ap (λ v. cond v (Some m) None) within)

date_time-made : (text : List ℕ) (m : ℤ) → IsDateTime text m → instant text ≡ Some m
unfolding instant_of
date_time-made text m h =
    let lengths = moment_lengths h.date h.time h.local h.is_local in
    let zoned = h.fraction ++ h.zone in
    let timed = h.time ++ zoned in
    let read = instant_in-made h.date h.time zoned h.zone h.local h.utc_offset m h.is_local
    (skip_fraction-made h.fraction h.zone h.utc_offset h.is_fraction h.is_offset) h.is_offset h.named h.within in
    ap (λ l. instant_of (take 10 l) (drop 10 l)) (h.form ∙ joined h.date h.time h.fraction h.zone)
    ∙ ap (λ l. instant_of l (drop 10 (h.date ++ (84 ∷ timed)))) (take_front 10 h.date (84 ∷ timed) lengths.0)
    ∙ ap (instant_of h.date) (drop_front 10 h.date (84 ∷ timed) lengths.0)
    ∙ ap (λ l. instant_in h.date l (drop 8 timed)) (take_front 8 h.time zoned lengths.1)
    ∙ ap (instant_in h.date h.time) (drop_front 8 h.time zoned lengths.1) ∙ read

instant-made : (text : List ℕ) (m : ℤ) → IsInstant text m → instant text ≡ Some m
unfolding instant_of
instant-made text m (inl h) =
    let length_is : length text ≡ 10 = (moment_lengths text (codes "00:00:00") m h).0 in
    ap (λ l. instant_of l (drop 10 text)) (take_all 10 text (omega arith))
    ∙ ap (instant_of text) (drop_all 10 text (omega arith)) ∙ h
instant-made text m (inr h) = date_time-made text m h

pub instant_exactly : (text : List ℕ) (m : ℤ) → (instant text ≡ Some m) ↔ IsInstant text m
instant_exactly text m = (instant-form text m, instant-made text m)

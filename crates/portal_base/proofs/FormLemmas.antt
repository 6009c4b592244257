-- Texts that have the form of a moment's text.
use Rattle.std.proofs.Common.{◌≡◌, ◌≢◌, ℕ, zero, suc, ◌<◌, ◌≤◌, true, false, refl, ap, arith, List, [], ◌∷◌, length}
use Rattle.std.proofs.Common.{get_or}
use Rattle.std.proofs.lemmas.Bool.Decides.{nat_tests}
use Rattle.std.proofs.lemmas.Bool.{and_parts, and_from, false_from_ne_true}
use Rattle.portal_base.specs.MomentReading.{fits_form, fits_character}

-- A text that has a form has its length, and each of its characters fits.
pub fits_form-length : (form text : List ℕ) → fits_form form text ≡ true → length text ≡ length form
fits_form-length [] [] h = refl
fits_form-length [] (c ∷ text) h = cc
fits_form-length (p ∷ form) [] h = cc
fits_form-length (p ∷ form) (c ∷ text) h = ap suc (fits_form-length form text (and_parts (fits_character p c) _ h).1)

pub fits_form-at : (form text : List ℕ) (k : ℕ) → fits_form form text ≡ true → k < length form
    → fits_character (get_or form k 0) (get_or text k 0) ≡ true
fits_form-at [] text k h lt = absurd (omega arith)
fits_form-at (p ∷ form) [] k h lt = cc
fits_form-at (p ∷ form) (c ∷ text) zero h lt = (and_parts (fits_character p c) (fits_form form text) h).0
fits_form-at (p ∷ form) (c ∷ text) (suc k) h lt =
    fits_form-at form text k (and_parts (fits_character p c) (fits_form form text) h).1 (omega arith)

-- A text of the form's length has the form if each of its characters fits.
pub fits_form-all : (form text : List ℕ) → length text ≡ length form
    → ((k : ℕ) → k < length form → fits_character (get_or form k 0) (get_or text k 0) ≡ true)
    → fits_form form text ≡ true
fits_form-all [] [] e all = refl
fits_form-all [] (c ∷ text) e all = absurd (omega arith)
fits_form-all (p ∷ form) [] e all = absurd (omega arith)
fits_form-all (p ∷ form) (c ∷ text) e all =
    and_from (fits_character p c) (fits_form form text) (all 0 (omega arith))
    (fits_form-all form text (omega arith) (λ k lt. all (suc k) (omega arith)))

-- A text of another length, or with a character that does not fit, does not have the form.
pub fits_form-other_length : (form text : List ℕ) → length text ≢ length form → fits_form form text ≡ false
fits_form-other_length form text ne = false_from_ne_true (fits_form form text) (λ h. ne (fits_form-length form text h))

pub fits_form-other_position : (form text : List ℕ) (k : ℕ) → k < length form
    → fits_character (get_or form k 0) (get_or text k 0) ≡ false → fits_form form text ≡ false
fits_form-other_position form text k lt other =
    false_from_ne_true (fits_form form text) (λ h. let same = fits_form-at form text k h lt in cc)

-- Where the form has a 0, the text has a decimal digit.
pub fits_character-digit : (p c : ℕ) → fits_character p c ≡ true → p ≡ 48 → (48 ≤ c) × (c ≤ 57)
fits_character-digit p c h e = (grind (arith, nat_tests), grind (arith, nat_tests))

pub fits_form-digit : (form text : List ℕ) (k : ℕ) → fits_form form text ≡ true → get_or form k 0 ≡ 48
    → (k < length text) × (48 ≤ get_or text k 0) × (get_or text k 0 ≤ 57)
fits_form-digit [] text k h e = absurd (omega arith)
fits_form-digit (p ∷ form) [] k h e = cc
fits_form-digit (p ∷ form) (c ∷ text) zero h e =
    let digit = fits_character-digit p c (and_parts (fits_character p c) (fits_form form text) h).0 e in
    (omega arith, digit.0, digit.1)
fits_form-digit (p ∷ form) (c ∷ text) (suc k) h e =
    let rest = fits_form-digit form text k (and_parts (fits_character p c) (fits_form form text) h).1 e in
    (omega (arith, rest.0), rest.1, rest.2)

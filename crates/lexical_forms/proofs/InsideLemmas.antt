-- The numeric part of a text is its middle, without the characters around the number.
use Rattle.std.proofs.Common.{◌≡◌, ◌⊎◌, inl, inr, ℕ, true, false, ◌&&◌, not, cond, refl, sym, ap, ◌∙◌, subst}
use Rattle.std.proofs.Common.{Bool, List}
use Rattle.std.proofs.Common.{[], ◌∷◌, ◌++◌, append_assoc, append-nil}
use Rattle.std.specs.Prelude.{◌↔◌, Option, reverse}
use Rattle.std.specs.List.{list_all}
use Rattle.std.proofs.lemmas.Bool.{and_parts, and_from}
use Rattle.std.proofs.lemmas.List.{reverse-append, reverse-reverse}
use Rattle.std.proofs.lemmas.List.Folds.{list_all-append}
use Rattle.lexical_forms.specs.Digits.{is_digit, from_first, until_last}
use Rattle.lexical_forms.specs.Forms.{IsCore, IsInside, IsNumericPart}
use Rattle.lexical_forms.specs.Number.{numeric_part, begins_number}

-- ---- from the first character that passes the test

-- no character passes the test
abbrev pub NonePasses : (ℕ → Bool) → List ℕ → Type 0
NonePasses p cs = list_all (λ c. not (p c)) cs ≡ true

-- the text is empty, or it starts with a character that passes the test
abbrev pub BeginsPassing : (ℕ → Bool) → List ℕ → Type 0
BeginsPassing p [] = Unit {0}
BeginsPassing p (c ∷ cs) = p c ≡ true

pub record FirstCut (p : ℕ → Bool) (cs : List ℕ) : Type 0 where
  pub front : List ℕ
  pub cut : cs ≡ front ++ from_first p cs
  pub before : NonePasses p front
  pub begins : BeginsPassing p (from_first p cs)

pub first_cut : (p : ℕ → Bool) (cs : List ℕ) → FirstCut p cs
first_cut p [] = record { front = []; cut = refl; before = refl; begins = tt }
first_cut p (c ∷ cs) = by_test (first_cut p cs) (p c) refl
  where
    by_test : FirstCut p cs → (b : Bool) → p c ≡ b → FirstCut p (c ∷ cs)
    by_test later true e = record { front = []; cut = rw e refl; before = refl; begins = rw e e }
    by_test later false e = record {
      front = c ∷ later.front;
      cut = rw e (ap (λ xs. c ∷ xs) later.cut);
      before = and_from (not (p c)) _ (ap not e) later.before;
      begins = rw e later.begins;
    }

pub from_first-past : (p : ℕ → Bool) (front cs : List ℕ) → NonePasses p front
    → from_first p (front ++ cs) ≡ from_first p cs
from_first-past p [] cs h = refl
from_first-past p (c ∷ front) cs h = by_test (from_first-past p front cs) (p c) h
  where
    by_test : (NonePasses p front → from_first p (front ++ cs) ≡ from_first p cs) → (b : Bool)
        → (not b && list_all (λ c. not (p c)) front) ≡ true
        → cond b (c ∷ (front ++ cs)) (from_first p (front ++ cs)) ≡ from_first p cs
    by_test ih true h = cc
    by_test ih false h = ih h

pub from_first-none : (p : ℕ → Bool) (cs : List ℕ) → NonePasses p cs → from_first p cs ≡ []
from_first-none p cs h = ap (from_first p) (sym (append-nil cs)) ∙ from_first-past p cs [] h

-- A test that all characters of a text pass holds of the characters that are left.
all-from_first : (p q : ℕ → Bool) (cs : List ℕ) → list_all q cs ≡ true → list_all q (from_first p cs) ≡ true
all-from_first p q [] h = refl
all-from_first p q (c ∷ cs) h = by_test (all-from_first p q cs (and_parts (q c) (list_all q cs) h).1) (p c)
  where
    by_test : list_all q (from_first p cs) ≡ true → (b : Bool) → list_all q (cond b (c ∷ cs) (from_first p cs)) ≡ true
    by_test later true = h
    by_test later false = later

-- ---- up to the last character that passes the test

reverse-cons : (x : ℕ) (xs : List ℕ) → reverse (x ∷ xs) ≡ reverse xs ++ x ∷ []
reverse-cons x xs = reverse-append (x ∷ []) xs

all-reverse : (q : ℕ → Bool) (cs : List ℕ) → list_all q cs ≡ true → list_all q (reverse cs) ≡ true
all-reverse q [] h = refl
all-reverse q (c ∷ cs) h =
    let parts = and_parts (q c) (list_all q cs) h in
    ap (list_all q) (reverse-cons c cs) ∙ list_all-append q (reverse cs) (c ∷ [])
    ∙ and_from (list_all q (reverse cs)) _ (all-reverse q cs parts.1) (and_from (q c) true parts.0 refl)

pub record LastCut (p : ℕ → Bool) (cs : List ℕ) : Type 0 where
  pub back : List ℕ
  pub cut : cs ≡ until_last p cs ++ back
  pub after : NonePasses p back
  pub ends : (until_last p cs ≡ [])
      ⊎ ((before : List ℕ) × (last : ℕ) × (until_last p cs ≡ before ++ last ∷ []) × (p last ≡ true))

pub last_cut : (p : ℕ → Bool) (cs : List ℕ) → LastCut p cs
last_cut p cs =
    let found = first_cut p (reverse cs) in
    record {
      back = reverse found.front;
      cut = sym (reverse-reverse cs) ∙ ap reverse found.cut
          ∙ reverse-append found.front (from_first p (reverse cs));
      after = all-reverse (λ c. not (p c)) found.front found.before;
      ends = by_rest (from_first p (reverse cs)) found.begins;
    }
  where
    by_rest : (rest : List ℕ) → BeginsPassing p rest
        → (reverse rest ≡ [])
        ⊎ ((before : List ℕ) × (last : ℕ) × (reverse rest ≡ before ++ last ∷ []) × (p last ≡ true))
    by_rest [] h = inl refl
    by_rest (c ∷ rest) h = inr (reverse rest, c, reverse-cons c rest, h)

pub until_last-at : (p : ℕ → Bool) (before : List ℕ) (last : ℕ) (back : List ℕ) → p last ≡ true → NonePasses p back
    → until_last p (before ++ last ∷ [] ++ back) ≡ before ++ last ∷ []
until_last-at p before last back passes none =
    let turned : reverse (before ++ last ∷ [] ++ back) ≡ reverse back ++ (last ∷ reverse before) =
    reverse-append (before ++ last ∷ []) back
    ∙ ap (λ xs. reverse back ++ xs) (reverse-append before (last ∷ [])) in
    let found : from_first p (reverse (before ++ last ∷ [] ++ back)) ≡ last ∷ reverse before =
    ap (from_first p) turned
    ∙ from_first-past p (reverse back) (last ∷ reverse before) (all-reverse (λ c. not (p c)) back none)
    ∙ rw passes refl in
    ap reverse found ∙ reverse-cons last (reverse before) ∙ ap (λ xs. xs ++ last ∷ []) (reverse-reverse before)

pub until_last-none : (p : ℕ → Bool) (cs : List ℕ) → NonePasses p cs → until_last p cs ≡ []
until_last-none p cs h = ap reverse (from_first-none p (reverse cs) (all-reverse (λ c. not (p c)) cs h))

-- ---- the middle of a text

inside_is : (decimal : Option ℕ) (text : List ℕ) → IsInside decimal text (numeric_part false decimal text)
inside_is decimal text =
    let begun = first_cut (begins_number decimal) text in
    let ended = last_cut is_digit (from_first (begins_number decimal) text) in
    record {
      front = begun.front;
      back = ended.back;
      cut = begun.cut ∙ ap (λ xs. begun.front ++ xs) ended.cut
          ∙ sym (append_assoc begun.front (numeric_part false decimal text) ended.back);
      before = begun.before;
      core = by_end (numeric_part false decimal text) (from_first (begins_number decimal) text) ended.back ended.cut
          begun.begins ended.ends;
      after = ended.after;
    }
  where
    by_end : (middle rest back : List ℕ) → rest ≡ middle ++ back → BeginsPassing (begins_number decimal) rest
        → (middle ≡ [])
        ⊎ ((before : List ℕ) × (last : ℕ) × (middle ≡ before ++ last ∷ []) × (is_digit last ≡ true))
        → (middle ≡ []) ⊎ IsCore decimal middle
    by_end [] rest back e begins ends = inl refl
    by_end (c ∷ cs) rest back e begins (inl h) = inl h
    by_end (c ∷ cs) rest back e begins (inr h) =
        let there : BeginsPassing (begins_number decimal) (c ∷ (cs ++ back)) =
        subst (BeginsPassing (begins_number decimal)) e begins in
        inr (record {
          first = c;
          after = cs;
          before = h.0;
          last = h.1;
          from_first = refl;
          begins = there;
          to_last = h.2;
          ends = h.3;
        })

is_inside : (decimal : Option ℕ) (text middle : List ℕ) → IsInside decimal text middle
    → numeric_part false decimal text ≡ middle
is_inside decimal text middle h = by_core h.core
  where
    passed : from_first (begins_number decimal) text ≡ from_first (begins_number decimal) (middle ++ h.back)
    passed =
        ap (from_first (begins_number decimal)) (h.cut ∙ append_assoc h.front middle h.back)
        ∙ from_first-past (begins_number decimal) h.front (middle ++ h.back) h.before

    by_core : (middle ≡ []) ⊎ IsCore decimal middle → numeric_part false decimal text ≡ middle
    by_core (inl e) =
        let left : from_first (begins_number decimal) text ≡ from_first (begins_number decimal) h.back =
        passed ∙ ap (λ xs. from_first (begins_number decimal) (xs ++ h.back)) e in
        ap (until_last is_digit) left
        ∙ until_last-none is_digit (from_first (begins_number decimal) h.back)
        (all-from_first (begins_number decimal) (λ c. not (is_digit c)) h.back h.after) ∙ sym e
    by_core (inr core) =
        let begins = core.begins in
        let here : from_first (begins_number decimal) (middle ++ h.back) ≡ middle ++ h.back =
        ap (λ xs. from_first (begins_number decimal) (xs ++ h.back)) core.from_first
        ∙ from_first-here core.first (core.after ++ h.back) begins
        ∙ ap (λ xs. xs ++ h.back) (sym core.from_first) in
        ap (until_last is_digit) (passed ∙ here ∙ ap (λ xs. xs ++ h.back) core.to_last)
        ∙ until_last-at is_digit core.before core.last h.back core.ends h.after ∙ sym core.to_last
      where
        from_first-here : (c : ℕ) (cs : List ℕ) → begins_number decimal c ≡ true
            → from_first (begins_number decimal) (c ∷ cs) ≡ c ∷ cs
        from_first-here c cs e = rw e refl

pub part_is_inside : (bare : Bool) (decimal : Option ℕ) (text middle : List ℕ)
    → (numeric_part bare decimal text ≡ middle) ↔ IsNumericPart bare decimal text middle
part_is_inside true decimal text middle = (λ e. sym e, λ e. sym e)
part_is_inside false decimal text middle =
    (λ e. subst (IsInside decimal text) e (inside_is decimal text), is_inside decimal text middle)

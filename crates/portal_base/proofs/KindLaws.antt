-- Trimming, and numbers that are read back.
use Rattle.std.proofs.Common.{◌≡◌, ℕ, ◌<◌, ◌^◌, lit<, Bool, true, false, ◌&&◌, cond, refl, ap, sym, ◌∙◌}
use Rattle.std.proofs.Common.{List, [], ◌∷◌, ◌++◌, length, reverse, arith, codes, leb, le-leb, subst}
use Rattle.std.specs.Prelude.{Some, option_map, pos, neg_ℤ}
use Rattle.std.specs.Char.{is_ascii_digit}
use Rattle.std.specs.Fmt.{decimal}
use Rattle.std.specs.List.{list_all}
use Rattle.std.proofs.lemmas.List.{reverse-reverse, reverse-append}
use Rattle.std.proofs.lemmas.List.Folds.{list_all-append}
use Rattle.std.proofs.lemmas.Fmt.{decimal_nonempty, length-decimal-le, digits_decimal, digits_value-decimal}
use Rattle.portal_base.specs.Kinds.{negated, is_digits, digits_spelled, whole_spelled}
use Rattle.portal_base.specs.Kinds.{is_blank, trimmed_start, trimmed_end, trimmed}
use Rattle.portal_base.proofs.KindLemmas.{numerals, digits_spelled_number, whole_spelled_unsigned}

-- The start that is trimmed is blank.
pub trimmed_start_removes_blanks : (text : List ℕ)
    → (before : List ℕ) × ((text ≡ before ++ trimmed_start text) × (list_all is_blank before ≡ true))
trimmed_start_removes_blanks [] = ([], (refl, refl))
trimmed_start_removes_blanks (c ∷ cs) = by_head (trimmed_start_removes_blanks cs) (is_blank c) refl
  where
    by_head : (before : List ℕ) × ((cs ≡ before ++ trimmed_start cs) × (list_all is_blank before ≡ true))
        → (b : Bool) → is_blank c ≡ b
        → (before : List ℕ) × ((c ∷ cs ≡ before ++ cond (is_blank c) (trimmed_start cs) (c ∷ cs))
        × (list_all is_blank before ≡ true))
    by_head go true e = (
      c ∷ go.0,
      (
        ap (λ l. c ∷ l) go.1.0 ∙ ap (λ b. c ∷ go.0 ++ cond b (trimmed_start cs) (c ∷ cs)) (sym e),
        ap (λ b. b && list_all is_blank go.0) e ∙ go.1.1,
      ),
    )
    by_head go false e = ([], (ap (λ b. cond b (trimmed_start cs) (c ∷ cs)) (sym e), refl))

-- The rest does not begin with a blank.
pub trimmed_start_head : (text : List ℕ) (c : ℕ) (rest : List ℕ) → trimmed_start text ≡ c ∷ rest → is_blank c ≡ false
trimmed_start_head [] c rest e = absurd (cc)
trimmed_start_head (d ∷ ds) c rest e = by_head (λ h. trimmed_start_head ds c rest h) (is_blank d) refl e
  where
    by_head : (trimmed_start ds ≡ c ∷ rest → is_blank c ≡ false)
        → (b : Bool) → is_blank d ≡ b → cond b (trimmed_start ds) (d ∷ ds) ≡ c ∷ rest → is_blank c ≡ false
    by_head go true h f = go f
    by_head go false h f = let same : d ≡ c = cc in sym (ap is_blank same) ∙ h

-- Reversed blanks are blanks.
blanks-reverse : (text : List ℕ) → list_all is_blank text ≡ true → list_all is_blank (reverse text) ≡ true
blanks-reverse [] h = refl
blanks-reverse (c ∷ cs) h =
    ap (list_all is_blank) (reverse-append (c ∷ []) cs)
    ∙ list_all-append is_blank (reverse cs) (c ∷ [])
    ∙ both (list_all is_blank (reverse cs)) (is_blank c) (λ e. blanks-reverse cs e) h
  where
    both : (a b : Bool) → (list_all is_blank cs ≡ true → a ≡ true) → (b && list_all is_blank cs) ≡ true
        → (a && (b && true)) ≡ true
    both a true go e = ap (λ x. x && true) (go e)
    both a false go e = absurd (cc)

-- The end that is trimmed is blank.
pub trimmed_end_removes_blanks : (text : List ℕ)
    → (after : List ℕ) × ((text ≡ trimmed_end text ++ after) × (list_all is_blank after ≡ true))
trimmed_end_removes_blanks text =
    let r = trimmed_start_removes_blanks (reverse text) in (
      reverse r.0,
      (
        sym (reverse-reverse text) ∙ ap reverse r.1.0 ∙ reverse-append r.0 (trimmed_start (reverse text)),
        blanks-reverse r.0 r.1.1,
      ),
    )

pub trimmed_around : (text : List ℕ)
    → (before : List ℕ) × ((after : List ℕ)
    × (text ≡ before ++ (trimmed text ++ after))
    × (list_all is_blank before ≡ true) × (list_all is_blank after ≡ true))
trimmed_around text =
    let f = trimmed_start_removes_blanks text in
    let b = trimmed_end_removes_blanks (trimmed_start text) in
    (f.0, (b.0, f.1.0 ∙ ap (λ l. f.0 ++ l) b.1.0, f.1.1, b.1.1))

pub trimmed_has_no_blank_at_start : (text : List ℕ) (c : ℕ) (rest : List ℕ) → trimmed text ≡ c ∷ rest
    → is_blank c ≡ false
trimmed_has_no_blank_at_start text c rest e =
    let b = trimmed_end_removes_blanks (trimmed_start text) in
    trimmed_start_head text c (rest ++ b.0) (b.1.0 ∙ ap (λ l. l ++ b.0) e)

pub trimmed_has_no_blank_at_end : (text : List ℕ) (front : List ℕ) (c : ℕ)
    → trimmed text ≡ front ++ c ∷ [] → is_blank c ≡ false
trimmed_has_no_blank_at_end text front c e =
    trimmed_start_head (reverse (trimmed_start text)) c (reverse front)
    (sym (reverse-reverse (trimmed_start (reverse (trimmed_start text)))) ∙ ap reverse e
    ∙ reverse-append front (c ∷ []))

-- ---- numbers

all_three : (a b c : Bool) → a ≡ true → b ≡ true → c ≡ true → (a && b && c) ≡ true
all_three a b c p q r = ap (λ x. x && b && c) p ∙ ap (λ x. x && c) q ∙ r

-- The digits of a number below 10^18 are read as the number.
pub digits_spelled-decimal : (n : ℕ) → n < 10 ^ 18 → digits_spelled (decimal n) ≡ Some n
digits_spelled-decimal n low =
    let room : 10 ^ 18 < 2 ^ 64 = lit< tt in
    let small : n < 2 ^ 64 = omega arith in
    let some : leb 1 (length (decimal n)) ≡ true = le-leb 1 (length (decimal n)) (decimal_nonempty n small) in
    let few : leb (length (decimal n)) 18 ≡ true =
    le-leb (length (decimal n)) 18 (length-decimal-le 18 n (lit< tt) low small) in
    let digits : is_digits (decimal n) ≡ true = all_three _ _ _ some few (digits_decimal numerals n small) in
    digits_spelled_number (decimal n) digits ∙ ap Some (digits_value-decimal numerals n small)

pub whole_spelled-decimal : (n : ℕ) → n < 10 ^ 18 → whole_spelled (decimal n) ≡ Some (pos n)
whole_spelled-decimal n low =
    let room : 10 ^ 18 < 2 ^ 64 = lit< tt in
    let small : n < 2 ^ 64 = omega arith in
    whole_spelled_unsigned (decimal n)
    (λ rest e. no_minus rest (subst (λ t. list_all is_ascii_digit t ≡ true) e (digits_decimal numerals n small)))
    ∙ ap (option_map pos) (digits_spelled-decimal n low)
  where
    no_minus : (rest : List ℕ) → list_all is_ascii_digit (45 ∷ rest) ≡ true → ⊥
    no_minus rest h = cc

pub whole_spelled-minus : (n : ℕ) → n < 10 ^ 18 → whole_spelled (codes "-" ++ decimal n) ≡ Some (neg_ℤ (pos n))
whole_spelled-minus n low = ap (option_map negated) (digits_spelled-decimal n low)

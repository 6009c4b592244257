-- The form of a word for `clap`, and to the definition of options.
use Rattle.std.proofs.Common.{◌≡◌, ◌≢◌, ℕ, suc, Bool, true, false, ◌||◌, List, [], ◌∷◌, ◌++◌, refl, sym, ap}
use Rattle.std.proofs.Common.{Some, None, eqb, drop, length, subst, inl, inr, ◌⊎◌, arith}
use Rattle.std.proofs.Math.Numerals.{one-add}
use Rattle.std.specs.Prelude.{slice_get}
use Rattle.std.specs.List.{before_first}
use Rattle.std.specs.Str.{IsUtf8, bytes_eq, chars}
use Rattle.std.proofs.lemmas.Bool.{eqb-true, ne_eqb}
use Rattle.std.proofs.lemmas.Str.{IsUtf8-past_char, encode_ascii, encodes-chars}
use Rattle.clap.specs.Lexer.{long_of, name_and_value, short_of}
use Rattle.portal_words.specs.Options.{is_dashes}
use Rattle.portal_words.specs.Grammar.{begins_with_dash, has_equals, is_equals, is_option}

-- `--` and more
pub record IsLong (word : List ℕ) : Type 0 where
  pub option : is_option word ≡ true
  pub dash : begins_with_dash word ≡ true
  pub long : long_of word ≡ Some (name_and_value (drop 2 word))
  pub other : bytes_eq word (45 ∷ 45 ∷ []) ≡ false

-- `-` and another character
pub record IsShort (word : List ℕ) : Type 0 where
  pub option : is_option word ≡ false
  pub dash : begins_with_dash word ≡ true
  pub long : long_of word ≡ None
  pub other : bytes_eq word (45 ∷ 45 ∷ []) ≡ false
  pub first : ℕ
  pub flags : List ℕ
  pub size : ℕ
  pub short : short_of word ≡ Some flags
  pub counted : length flags ≡ suc size
  pub begins : slice_get (chars flags) 0 ≡ Some first

-- any other
pub record IsPlainWord (word : List ℕ) : Type 0 where
  pub option : is_option word ≡ false
  pub dash : begins_with_dash word ≡ false
  pub long : long_of word ≡ None
  pub short : short_of word ≡ None
  pub other : bytes_eq word (45 ∷ 45 ∷ []) ≡ false

-- A text that isn't empty has a first character.
first-char : (b : ℕ) (bs : List ℕ) → IsUtf8 (b ∷ bs) → (c : ℕ) × (slice_get (chars (b ∷ bs)) 0 ≡ Some c)
first-char b bs text = go (chars (b ∷ bs)) refl
  where
    go : (cs : List ℕ) → chars (b ∷ bs) ≡ cs → (c : ℕ) × (slice_get (chars (b ∷ bs)) 0 ≡ Some c)
    go [] e = let bad : [] ≡ b ∷ bs = rw e at (encodes-chars (b ∷ bs) text) in absurd (cc)
    go (c ∷ cs) e = (c, ap (λ l. slice_get l 0) e)

-- The rest after a dash is a text.
after-dash : (bs : List ℕ) → IsUtf8 (45 ∷ bs) → IsUtf8 bs
after-dash bs text =
    IsUtf8-past_char (45 ∷ bs) bs 45 text (ap (λ l. l ++ bs) (sym (encode_ascii 45 (omega arith))))

short-word : (y : ℕ) (ys : List ℕ) → IsUtf8 (45 ∷ y ∷ ys) → y ≢ 45 → IsShort (45 ∷ y ∷ ys)
short-word y ys text other =
    let first = first-char y ys (after-dash (y ∷ ys) text) in
    let no : eqb y 45 ≡ false = ne_eqb y 45 other in
    let none : eqb 45 y ≡ false = ne_eqb 45 y (λ e. other (sym e)) in
    record {
      option = rw none refl;
      dash = refl;
      long = rw no refl;
      other = rw no refl;
      first = first.0;
      flags = y ∷ ys;
      size = length ys;
      short = rw no refl;
      counted = refl;
      begins = first.1;
    }

plain-word : (x : ℕ) (xs : List ℕ) → x ≢ 45 → IsPlainWord (x ∷ xs)
plain-word x xs other =
    let no : eqb x 45 ≡ false = ne_eqb x 45 other in
    let none : eqb 45 x ≡ false = ne_eqb 45 x (λ e. other (sym e)) in
    record { option = rw none refl; dash = rw none refl; long = rw no refl; short = rw no refl; other = rw no refl }

-- A word that isn't dashes only is one of the three.
pub each-word : (word : List ℕ) → IsUtf8 word → is_dashes word ≡ false → IsLong word ⊎ (IsShort word ⊎ IsPlainWord word)
each-word [] text dashes = inr (inr (record { option = refl; dash = refl; long = refl; short = refl; other = refl }))
each-word (x ∷ xs) text dashes = first (eqb x 45) refl
  where
    differs : (n : ℕ) → eqb n 45 ≡ false → n ≢ 45
    differs n e same = let bad : eqb n 45 ≡ true = rw same refl in absurd (cc)

    third : (zs : List ℕ) → is_dashes (45 ∷ 45 ∷ zs) ≡ false → IsLong (45 ∷ 45 ∷ zs)
    third [] e = absurd (cc)
    third (z ∷ zs) e = record { option = refl; dash = refl; long = refl; other = refl }

    second : (y : ℕ) (ys : List ℕ) (b : Bool) → eqb y 45 ≡ b → IsUtf8 (45 ∷ y ∷ ys) → is_dashes (45 ∷ y ∷ ys) ≡ false
        → IsLong (45 ∷ y ∷ ys) ⊎ (IsShort (45 ∷ y ∷ ys) ⊎ IsPlainWord (45 ∷ y ∷ ys))
    second y ys true e text dashes =
        let same : y ≡ 45 = eqb-true y 45 e in
        inl (subst (λ n. IsLong (45 ∷ n ∷ ys)) (sym same)
        (third ys (subst (λ n. is_dashes (45 ∷ n ∷ ys) ≡ false) same dashes)))
    second y ys false e text dashes = inr (inl (short-word y ys text (differs y e)))

    rest : (ys : List ℕ) → IsUtf8 (45 ∷ ys) → is_dashes (45 ∷ ys) ≡ false
        → IsLong (45 ∷ ys) ⊎ (IsShort (45 ∷ ys) ⊎ IsPlainWord (45 ∷ ys))
    rest [] text dashes = absurd (cc)
    rest (y ∷ ys) text dashes = second y ys (eqb y 45) refl text dashes

    first : (b : Bool) → eqb x 45 ≡ b → IsLong (x ∷ xs) ⊎ (IsShort (x ∷ xs) ⊎ IsPlainWord (x ∷ xs))
    first true e =
        let same : x ≡ 45 = eqb-true x 45 e in
        subst (λ n. IsLong (n ∷ xs) ⊎ (IsShort (n ∷ xs) ⊎ IsPlainWord (n ∷ xs))) (sym same)
        (rest xs (subst (λ n. IsUtf8 (n ∷ xs)) same text) (subst (λ n. is_dashes (n ∷ xs) ≡ false) same dashes))
    first false e = inr (inr (plain-word x xs (differs x e)))

-- A text with no "=" is all before the first.
pub before-none : (text : List ℕ) → has_equals text ≡ false → before_first is_equals text ≡ text
before-none [] e = refl
before-none (c ∷ cs) e = go (is_equals c) refl e (before-none cs)
  where
    go : (b : Bool) → is_equals c ≡ b → (b || has_equals cs) ≡ false
        → (has_equals cs ≡ false → before_first is_equals cs ≡ cs) → before_first is_equals (c ∷ cs) ≡ c ∷ cs
    go true same f rest = absurd (cc)
    go false same f rest = rw (same, one-add) (ap (λ l. c ∷ l) (rest f))

-- The tokens of an ASCII text are its words in lower case, and those of a whole number begin with digits.
use Rattle.std.proofs.Common.{◌≡◌, ◌∙◌, ℕ, zero, suc, ◌+◌, ◌/◌, ◌%◌, ◌<◌, ◌==◌, Bool, true, false, ◌&&◌, ◌||◌, not, cond, List, [], ◌∷◌}
use Rattle.std.proofs.Common.{ap, ap₂, arith, eqb-true, length, lit<, map, refl, subst, sym}
use Rattle.std.specs.Prelude.{ℤ, pos, negsuc, IsAscii, decimal, encode_utf8_all, filter, if◌then◌else◌, nat_eq, nat_lt}
use Rattle.std.specs.Char.{is_ascii_alphanumeric, is_ascii_digit, to_ascii_lowercase}
use Rattle.std.specs.Fmt.{digit_glyph, digits, digits_onto, signed_decimal}
use Rattle.std.specs.List.{All, list_any, onto_first, slice_split}
use Rattle.std.specs.Str.{bytes_eq}
use Rattle.std.proofs.lemmas.Bool.Decides.{nat_tests}
use Rattle.std.proofs.lemmas.List.Elements.{All-cons, All-get_or, All-head, All-nil, All-tail, All-weaker}
use Rattle.std.proofs.lemmas.Str.{chars-IsAscii}
use Rattle.std.proofs.lemmas.Str.Ascii.{All-from_ascii, IsAscii-from_reads, IsAscii-map, encodes-IsAscii, lowercase_ascii}
use Rattle.ucd_table.proofs.Computing.{tables}
use Rattle.ucd_table.proofs.Facts.{Stepped-below}
use Rattle.ucd_category.specs.GeneralCategory.{general_category}
use Rattle.ucd_category.proofs.GeneralCategoryLemmas.{general_category_stepped}
use Rattle.caseless.proofs.CaselessLemmas.{default_case_fold-ascii}
use Rattle.portal_base.specs.Characters.{is_word_category, is_word_character}
use Rattle.portal_base.specs.Tokens.{folded, has_character, is_between_words, tokens}
use Rattle.table_schema.specs.Printed.{cell_text}
use Rattle.table_schema.specs.declared.cell.Cell.TheVariants as cell
use Rattle.datastore_query.specs.AsciiWords.{is_between_ascii_words, is_token_of, starts_with_digit}
use Rattle.datastore_query.specs.Words.{cell_tokens, has_word}

-- ---- characters

abbrev is_same : Bool → Bool → Bool
is_same true b = b
is_same false b = not b

is_same-true : (a b : Bool) → is_same a b ≡ true → a ≡ b
is_same-true true b e = sym e
is_same-true false true e = absurd (cc)
is_same-true false false e = refl

-- An ASCII character is of a word if it is a letter or a digit.
is_word_character-ascii : (c : ℕ) → c < 128 → is_word_character c ≡ is_ascii_alphanumeric c
unfolding tables general_category_stepped is_word_character
is_word_character-ascii c low =
    is_same-true _ _
    (Stepped-below general_category general_category_stepped
    (λ x v. is_same (is_word_category v) (is_ascii_alphanumeric x)) 128 refl c low)

-- ---- parts of a text

abbrev AreAscii : List ℕ → Type 0
AreAscii bytes = All (λ b. b < 128) bytes

IsAscii-from_all : (bytes : List ℕ) → AreAscii bytes → IsAscii bytes
IsAscii-from_all bytes all =
    IsAscii-from_reads bytes (length bytes) (omega arith) (λ k lt. All-get_or (λ b. b < 128) bytes k 0 lt all)

-- An ASCII text has the same parts by its bytes.
parts_same : (bytes : List ℕ) → AreAscii bytes
    → slice_split is_between_words bytes ≡ slice_split is_between_ascii_words bytes
parts_same [] all = refl
parts_same (b ∷ bytes) all =
    let parts = slice_split is_between_words bytes in
    ap (λ is. cond (not is) ([] ∷ parts) (onto_first b parts))
    (is_word_character-ascii b (All-head (λ c. c < 128) b bytes all))
    ∙ ap (λ ps. cond (is_between_ascii_words b) ([] ∷ ps) (onto_first b ps))
    (parts_same bytes (All-tail (λ c. c < 128) b bytes all))

onto_all : (P : ℕ → Type 0) (b : ℕ) (parts : List (List ℕ)) → P b → All (All P) parts → All (All P) (onto_first b parts)
onto_all P b [] has all = All-cons (All P) (b ∷ []) [] (All-cons P b [] has (All-nil P)) (All-nil (All P))
onto_all P b (part ∷ parts) has all =
    All-cons (All P) (b ∷ part) parts (All-cons P b part has (All-head (All P) part parts all))
    (All-tail (All P) part parts all)

-- What holds of each byte outside the separators holds of each byte of the parts.
parts_all : (P : ℕ → Type 0) (bytes : List ℕ) → All (λ b. is_ascii_alphanumeric b ≡ true → P b) bytes
    → All (All P) (slice_split is_between_ascii_words bytes)
parts_all P [] all = All-cons (All P) [] [] (All-nil P) (All-nil (All P))
parts_all P (b ∷ bytes) all =
    by (is_ascii_alphanumeric b) refl
    (parts_all P bytes (All-tail (λ c. is_ascii_alphanumeric c ≡ true → P c) b bytes all))
  where
    by : (is : Bool) → is_ascii_alphanumeric b ≡ is → All (All P) (slice_split is_between_ascii_words bytes)
        → All (All P) (cond (not is) ([] ∷ slice_split is_between_ascii_words bytes)
        (onto_first b (slice_split is_between_ascii_words bytes)))
    by true e more =
        onto_all P b (slice_split is_between_ascii_words bytes)
        (All-head (λ c. is_ascii_alphanumeric c ≡ true → P c) b bytes all e) more
    by false e more = All-cons (All P) [] (slice_split is_between_ascii_words bytes) (All-nil P) more

-- ---- tokens

-- An ASCII word is folded to lower case.
folded-ascii : (word : List ℕ) → AreAscii word → folded word ≡ map to_ascii_lowercase word
folded-ascii word all =
    ap encode_utf8_all (default_case_fold-ascii word all)
    ∙ encodes-IsAscii (map to_ascii_lowercase word)
    (IsAscii-map to_ascii_lowercase word lowercase_ascii (IsAscii-from_all word all))

has_word-parts : (token : List ℕ) (parts : List (List ℕ)) → All AreAscii parts
    → list_any (is_token_of token) parts ≡ has_word (map folded (filter has_character parts)) token
has_word-parts token [] all = refl
has_word-parts token (part ∷ parts) all =
    by (has_character part) (has_word-parts token parts (All-tail AreAscii part parts all))
  where
    by : (b : Bool) → list_any (is_token_of token) parts ≡ has_word (map folded (filter has_character parts)) token
        → ((b && bytes_eq (map to_ascii_lowercase part) token) || list_any (is_token_of token) parts)
        ≡ has_word (map folded (cond b (part ∷ filter has_character parts) (filter has_character parts))) token
    by true more =
        ap₂ (λ word rest. bytes_eq word token || rest) (sym (folded-ascii part (All-head AreAscii part parts all))) more
    by false more = more

-- A token is found in an ASCII text by the bytes of its parts.
pub has_word-ascii : (text token : List ℕ) → IsAscii text
    → list_any (is_token_of token) (slice_split is_between_ascii_words text) ≡ has_word (tokens text) token
has_word-ascii text token ascii =
    let all : AreAscii text = All-from_ascii text ascii in
    let within : All AreAscii (slice_split is_between_ascii_words text) =
    parts_all (λ b. b < 128) text (weaker text all) in
    has_word-parts token (slice_split is_between_ascii_words text) within
    ∙ ap (λ parts. has_word (map folded (filter has_character parts)) token) (sym (parts_same text all))
    ∙ ap (λ cs. has_word (map folded (filter has_character (slice_split is_between_words cs))) token)
    (sym (chars-IsAscii text ascii))
  where
    weaker : (bytes : List ℕ) → AreAscii bytes → All (λ b. is_ascii_alphanumeric b ≡ true → b < 128) bytes
    weaker bytes all k d lt = λ h. all k d lt

-- ---- tokens of whole numbers

abbrev AreDigits : List ℕ → Type 0
AreDigits bytes = All (λ b. is_ascii_digit b ≡ true) bytes

digit_in_lowercase : (b : ℕ) → is_ascii_digit b ≡ true → is_ascii_digit (to_ascii_lowercase b) ≡ true
digit_in_lowercase b is = grind (arith, nat_tests)

-- A word of digits isn't a token that begins otherwise.
other_than_digits : (token word : List ℕ) → AreDigits word → starts_with_digit token ≡ false
    → is_token_of token word ≡ false
other_than_digits token [] digits other = refl
other_than_digits [] (b ∷ word) digits other = refl
other_than_digits (t ∷ token) (b ∷ word) digits other = by (nat_eq (to_ascii_lowercase b) t) refl
  where
    rest : Bool
    rest = bytes_eq (map to_ascii_lowercase word) token

    by : (is : Bool) → nat_eq (to_ascii_lowercase b) t ≡ is → (nat_eq (to_ascii_lowercase b) t && rest) ≡ false
    by false e = ap (λ x. x && rest) e
    by true e =
        let digit : is_ascii_digit t ≡ true =
        ap is_ascii_digit (sym (eqb-true _ _ e))
        ∙ digit_in_lowercase b (All-head (λ c. is_ascii_digit c ≡ true) b word digits) in
        absurd (cc (digit, other))

none_of_digits : (token : List ℕ) (parts : List (List ℕ)) → All AreDigits parts → starts_with_digit token ≡ false
    → list_any (is_token_of token) parts ≡ false
none_of_digits token [] all other = refl
none_of_digits token (part ∷ parts) all other =
    ap₂ (λ a b. a || b) (other_than_digits token part (All-head AreDigits part parts all) other)
    (none_of_digits token parts (All-tail AreDigits part parts all) other)

-- each byte is ASCII, and a digit where it is of a word
record IsOfNumber (b : ℕ) : Type 0 where
  low : b < 128
  digit : is_ascii_alphanumeric b ≡ true → is_ascii_digit b ≡ true

of_digit : (d : ℕ) → d < 10 → IsOfNumber (48 + d)
of_digit d small = record { low = omega (arith, small); digit = λ h. grind (arith, nat_tests, small) }

glyph_of_number : (n : ℕ) → IsOfNumber (digit_glyph false (n % 10))
glyph_of_number n =
    subst (λ (b : Bool). IsOfNumber (if b then 48 + n % 10 else (87 + n % 10))) (sym within) (of_digit (n % 10) small)
  where
    small : n % 10 < 10
    small = omega arith

    within : nat_lt (n % 10) 10 ≡ true
    within = grind (arith, nat_tests, small)

digits_of_number : (k n : ℕ) (after : List ℕ) → All IsOfNumber after → All IsOfNumber (digits_onto k 10 false n after)
digits_of_number zero n after all = all
digits_of_number (suc k) n after all =
    by (n / 10 == 0) (digits_of_number k (n / 10) (digit_glyph false (n % 10) ∷ after) more)
  where
    more : All IsOfNumber (digit_glyph false (n % 10) ∷ after)
    more = All-cons IsOfNumber (digit_glyph false (n % 10)) after (glyph_of_number n) all

    by : (b : Bool) → All IsOfNumber (digits_onto k 10 false (n / 10) (digit_glyph false (n % 10) ∷ after))
        → All IsOfNumber (if b then digit_glyph false (n % 10) ∷ after
        else digits_onto k 10 false (n / 10) (digit_glyph false (n % 10) ∷ after))
    by true rest = more
    by false rest = rest

decimal_of_number : (n : ℕ) → All IsOfNumber (decimal n)
unfolding digits
decimal_of_number n = digits_of_number 64 n [] (All-nil IsOfNumber)

minus : IsOfNumber 45
minus = record { low = lit< tt; digit = λ h. absurd (cc) }

of_number : (z : ℤ) → All IsOfNumber (signed_decimal z)
of_number (pos n) = decimal_of_number n
of_number (negsuc n) = All-cons IsOfNumber 45 (decimal (suc n)) minus (decimal_of_number (suc n))

-- A whole number has no token that begins otherwise than with a digit.
pub no_token_of_number : (z : ℤ) (token : List ℕ) → starts_with_digit token ≡ false
    → has_word (cell_tokens (cell.Int z)) token ≡ false
unfolding cell_text
no_token_of_number z token other =
    let text = signed_decimal z in
    let of : All IsOfNumber text = of_number z in
    let ascii : IsAscii text = IsAscii-from_all text (All-weaker IsOfNumber (λ b. b < 128) (λ b is. is.low) text of) in
    let digits : All AreDigits (slice_split is_between_ascii_words text) =
    parts_all (λ b. is_ascii_digit b ≡ true) text
    (All-weaker IsOfNumber (λ b. is_ascii_alphanumeric b ≡ true → is_ascii_digit b ≡ true) (λ b is. is.digit) text of) in
    sym (has_word-ascii text token ascii)
    ∙ none_of_digits token (slice_split is_between_ascii_words text) digits other

-- The grammar of the texts of whole numbers and of numbers (Table Schema v1, "integer" and "number"), as productions:
-- the characters that such a text consists of, and its number. Texts are lists of characters.
use Rattle.std.specs.Prelude.{◌≡◌, ◌≢◌, ◌⊎◌, ◌<◌, ℕ, suc, ◌*◌, ◌^◌, Bool, true, false, not, List, [], ◌∷◌, ◌++◌}
use Rattle.std.specs.Prelude.{length, Option, Some, None, IfSome, ℤ, pos, negsuc, neg_ℤ, ◌≤ℤ◌, ◌<ℤ◌}
use Rattle.std.specs.List.{list_all}
use Rattle.lexical_forms.specs.declared.form.NumberForm.{NumberForm}
use Rattle.lexical_forms.specs.Digits.{is_digit, is_digits, is_empty, spelled, signed}
use Rattle.lexical_forms.specs.Separator.{is_separator}
use Rattle.lexical_forms.specs.Number.{begins_number, is_exponent_mark}

-- ---- whole numbers

-- nothing, `+` or `-`, which alone makes the number negative
pub data IsSign : List ℕ → Bool → Type 0 where
  none : IsSign [] false
  plus : IsSign (43 ∷ []) false
  minus : IsSign (45 ∷ []) true

-- An optional sign and digits, at least one: the number that they spell, negated under `-`.
pub record IsIntegerText (text : List ℕ) (number : ℤ) : Type 0 where
  pub sign : List ℕ
  pub negative : Bool
  pub digits : List ℕ
  pub cut : text ≡ sign ++ digits
  pub signs : IsSign sign negative
  pub some : is_digits digits ≡ true
  pub value : number ≡ signed negative (spelled digits)

-- from -2^63 to 2^63 - 1
pub record IsI64 (number : ℤ) : Type 0 where
  pub low : neg_ℤ (pos (2 ^ 63)) ≤ℤ number
  pub high : number <ℤ pos (2 ^ 63)

-- ---- numbers

-- A text of digits in which the group character may separate any two, and its digits. The text is a digit, a digit and
-- such a text, or a digit, the group character and such a text.
pub data IsGroups (group : Option ℕ) : List ℕ → List ℕ → Type 0 where
  one : (c : ℕ) → is_digit c ≡ true → IsGroups group (c ∷ []) (c ∷ [])
  digit : (c : ℕ) (text digits : List ℕ) → is_digit c ≡ true → IsGroups group text digits
      → IsGroups group (c ∷ text) (c ∷ digits)
  mark : (c m : ℕ) (text digits : List ℕ) → is_digit c ≡ true → group ≡ Some m → IsGroups group text digits
      → IsGroups group (c ∷ m ∷ text) (c ∷ digits)

-- the text before the decimal point, and its digits
pub data IsWholePart (group : Option ℕ) : List ℕ → List ℕ → Type 0 where
  none : IsWholePart group [] []
  some : (text digits : List ℕ) → IsGroups group text digits → IsWholePart group text digits

-- Nothing, or the decimal character and any count of digits: the text, and its digits.
pub data IsFractionPart (decimal : ℕ) : List ℕ → List ℕ → Type 0 where
  none : IsFractionPart decimal [] []
  point : (digits : List ℕ) → list_all is_digit digits ≡ true → IsFractionPart decimal (decimal ∷ digits) digits

-- Nothing, or `e` or `E` and a whole number: the text, and the power of ten.
pub data IsExponentPart : List ℕ → ℤ → Type 0 where
  none : IsExponentPart [] (pos 0)
  ten_to : (c : ℕ) (text : List ℕ) (exponent : ℤ) → is_exponent_mark c ≡ true → IsIntegerText text exponent
      → IsExponentPart (c ∷ text) exponent

-- Ten to a power, as a fraction of whole numbers: the multiplier is 1 for a negative power, and the divisor is 1
-- otherwise.
abbrev pub multiplier : ℤ → ℕ
multiplier (pos n) = 10 ^ n
multiplier (negsuc n) = 1

abbrev pub divisor : ℤ → ℕ
divisor (pos n) = 1
divisor (negsuc n) = 10 ^ suc n

-- The size is the magnitude in billionths. The digits, of which `places` come after the decimal point, spell the
-- number before it is multiplied by ten to the power:
--     size / 10^9 = spelled digits / 10^places * 10^power
-- as an equation of whole numbers.
abbrev pub IsSize : ℕ → List ℕ → ℕ → ℤ → Type 0
IsSize size digits places power =
    size * 10 ^ places * divisor power ≡ spelled digits * 10 ^ 9 * multiplier power

-- A number without its sign: a whole part, a fraction and an exponent, with at least one digit before the exponent. It
-- is a whole number of billionths, below 10^27.
pub record IsUnsignedText (form : NumberForm) (text : List ℕ) (size : ℕ) : Type 0 where
  pub whole : List ℕ
  pub fraction : List ℕ
  pub exponent : List ℕ
  pub digits : List ℕ
  pub places : List ℕ
  pub power : ℤ
  pub cut : text ≡ whole ++ fraction ++ exponent
  pub whole_part : IsWholePart form.group whole digits
  pub fraction_part : IsFractionPart form.decimal fraction places
  pub exponent_part : IsExponentPart exponent power
  pub some : is_empty (digits ++ places) ≡ false
  pub exact : IsSize size (digits ++ places) (length places) power
  pub small : size < 10 ^ 27

-- An optional sign and such a number: the text, and the number in billionths.
pub record IsNumberText (form : NumberForm) (text : List ℕ) (billionths : ℤ) : Type 0 where
  pub sign : List ℕ
  pub negative : Bool
  pub rest : List ℕ
  pub size : ℕ
  pub cut : text ≡ sign ++ rest
  pub signs : IsSign sign negative
  pub number : IsUnsignedText form rest size
  pub value : billionths ≡ signed negative size

-- The spellings that a descriptor can give: the decimal and the group character are no digit, no sign and neither `e`
-- nor `E`, and they differ.
pub record IsSpelling (form : NumberForm) : Type 0 where
  pub decimal : is_separator form.decimal ≡ true
  pub group : IfSome form.group (λ c. is_separator c ≡ true)
  pub apart : IfSome form.group (λ c. c ≢ form.decimal)

-- ---- the characters around a number

-- The text starts with a digit, a sign or the decimal character, and it ends with a digit.
pub record IsCore (decimal : Option ℕ) (text : List ℕ) : Type 0 where
  pub first : ℕ
  pub after : List ℕ
  pub before : List ℕ
  pub last : ℕ
  pub from_first : text ≡ first ∷ after
  pub begins : begins_number decimal first ≡ true
  pub to_last : text ≡ before ++ last ∷ []
  pub ends : is_digit last ≡ true

-- If `bareNumber` is false, the number is the middle of a text between a front and a back: no character of the front
-- could begin a number, and no character of the back is a digit. The middle is empty if the text has no number.
pub record IsInside (decimal : Option ℕ) (text middle : List ℕ) : Type 0 where
  pub front : List ℕ
  pub back : List ℕ
  pub cut : text ≡ front ++ middle ++ back
  pub before : list_all (λ c. not (begins_number decimal c)) front ≡ true
  pub core : (middle ≡ []) ⊎ IsCore decimal middle
  pub after : list_all (λ c. not (is_digit c)) back ≡ true

-- the part of a text that is read: all of it if `bareNumber` is true, and otherwise its middle
abbrev pub IsNumericPart : Bool → Option ℕ → List ℕ → List ℕ → Type 0
IsNumericPart true decimal text middle = middle ≡ text
IsNumericPart false decimal text middle = IsInside decimal text middle

-- ---- a field's texts

-- The text is this integer, of 64 bits.
pub record IsInteger (bare : Bool) (text : List ℕ) (number : ℤ) : Type 0 where
  pub middle : List ℕ
  pub part : IsNumericPart bare None text middle
  pub form : IsIntegerText middle number
  pub range : IsI64 number

-- The text is this number of billionths.
pub record IsNumber (form : NumberForm) (text : List ℕ) (billionths : ℤ) : Type 0 where
  pub middle : List ℕ
  pub part : IsNumericPart form.bare (Some form.decimal) text middle
  pub number : IsNumberText form middle billionths

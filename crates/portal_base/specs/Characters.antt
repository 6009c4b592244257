-- The characters of words: letters, marks and numbers by their general category (Unicode, section 4.5).
use Rattle.std.specs.Prelude.{ℕ, Bool, true, false}
use Rattle.ucd_category.specs.GeneralCategory.{general_category}
use Rattle.ucd_category.specs.declared.GeneralCategory.{GeneralCategory}
use Rattle.ucd_category.specs.declared.GeneralCategory.TheVariants as category

-- L, M and N with any second letter
abbrev pub is_word_category : GeneralCategory → Bool
is_word_category category.UppercaseLetter = true
is_word_category category.LowercaseLetter = true
is_word_category category.TitlecaseLetter = true
is_word_category category.ModifierLetter = true
is_word_category category.OtherLetter = true
is_word_category category.NonspacingMark = true
is_word_category category.SpacingMark = true
is_word_category category.EnclosingMark = true
is_word_category category.DecimalNumber = true
is_word_category category.LetterNumber = true
is_word_category category.OtherNumber = true
is_word_category other = false

unfoldable pub is_word_character : ℕ → Bool
is_word_character c = is_word_category (general_category c)

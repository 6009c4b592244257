-- The tokens of a text, by which texts are searched without regard to case: its words, each in full default case
-- folding (The Unicode Standard, section 3.13, "Default Case Folding"). Nothing is normalized.
use Rattle.std.specs.Prelude.{ℕ, List, [], ◌∷◌, Bool, true, false, not, filter, map, encode_utf8_all}
use Rattle.std.specs.List.{slice_split}
use Rattle.std.specs.Str.{chars}
use Rattle.caseless.specs.Caseless.{default_case_fold}
use Rattle.portal_base.specs.Characters.{is_word_character}

-- a character between words
abbrev pub is_between_words : ℕ → Bool
is_between_words c = not (is_word_character c)

abbrev pub has_character : List ℕ → Bool
has_character [] = false
has_character (c ∷ characters) = true

-- The words among characters: the longest runs of letters, marks and numbers. They are the nonempty parts between the
-- other characters.
abbrev pub words_of : List ℕ → List (List ℕ)
words_of characters = filter has_character (slice_split is_between_words characters)

-- a word as a text in full default case folding
abbrev pub folded : List ℕ → List ℕ
folded word = encode_utf8_all (default_case_fold word)

-- the token of a finished word, unless the word is empty
abbrev pub token_of_word : List ℕ → List (List ℕ)
token_of_word word = map folded (filter has_character (word ∷ []))

abbrev pub tokens : List ℕ → List (List ℕ)
tokens text = map folded (words_of (chars text))

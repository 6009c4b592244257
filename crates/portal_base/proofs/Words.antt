-- The words of a text, found from its start: the word before a separator, and the word at the end.
use Rattle.std.proofs.Common.{◌≡◌, refl, ap, sym, subst, arith, eqb-true, length, ◌==◌, ◌∙◌, append_assoc, append-nil}
use Rattle.std.proofs.Common.{ℕ, List, [], ◌∷◌, ◌++◌, Bool, true, false, not, cond, ◌&&◌}
use Rattle.std.specs.Prelude.{filter, map, encode_utf8, encode_utf8_all}
use Rattle.std.specs.List.{list_all, slice_split, onto_first}
use Rattle.std.specs.Str.{chars, IsUtf8}
use Rattle.std.proofs.lemmas.List.{map-append}
use Rattle.std.proofs.lemmas.List.Elements.{filter-append}
use Rattle.std.proofs.lemmas.List.Folds.{list_all-append}
use Rattle.std.proofs.lemmas.Str.{chars-nil, chars_from_encodes, chars_past_char, encodes-append, encodes-chars}
use Rattle.std.proofs.lemmas.Str.{IsUtf8-past_char}
use Rattle.portal_base.specs.Characters.{is_word_character}
use Rattle.portal_base.specs.Tokens.{is_between_words, has_character, words_of, folded, token_of_word, tokens}

split_step : (c : ℕ) (b : Bool) (pieces : List (List ℕ)) → is_word_character c ≡ b
    → cond (is_between_words c) ([] ∷ pieces) (onto_first c pieces) ≡ cond (not b) ([] ∷ pieces) (onto_first c pieces)
split_step c b pieces e = ap (λ x. cond (not x) ([] ∷ pieces) (onto_first c pieces)) e

-- If a word begins with a character, the character and the rest are of the word.
of_word : (c : ℕ) (word : List ℕ) → list_all is_word_character (c ∷ word) ≡ true
    → (is_word_character c ≡ true) × (list_all is_word_character word ≡ true)
of_word c word all = by (is_word_character c) refl all
  where
    by : (b : Bool) → is_word_character c ≡ b → (b && list_all is_word_character word) ≡ true
        → (is_word_character c ≡ true) × (list_all is_word_character word ≡ true)
    by true e all = (e, all)
    by false e all = absurd (cc)

-- A text is split at its first separator.
split_at : (word : List ℕ) (c : ℕ) (rest : List ℕ) → list_all is_word_character word ≡ true
    → is_word_character c ≡ false
    → slice_split is_between_words (word ++ c ∷ rest) ≡ word ∷ slice_split is_between_words rest
split_at [] c rest all between = split_step c false (slice_split is_between_words rest) between
split_at (w ∷ word) c rest all between =
    split_step w true (slice_split is_between_words (word ++ c ∷ rest)) (of_word w word all).0
    ∙ ap (onto_first w) (split_at word c rest (of_word w word all).1 between)

-- A single word is not split.
split_word : (word : List ℕ) → list_all is_word_character word ≡ true
    → slice_split is_between_words word ≡ word ∷ []
split_word [] all = refl
split_word (w ∷ word) all =
    split_step w true (slice_split is_between_words word) (of_word w word all).0
    ∙ ap (onto_first w) (split_word word (of_word w word all).1)

-- the tokens of characters
abbrev pub tokens_of : List ℕ → List (List ℕ)
tokens_of characters = map folded (words_of characters)

-- A word before a separator gives its token, and the tokens of the rest follow.
pub word_ends : (word : List ℕ) (c : ℕ) (rest : List ℕ) → list_all is_word_character word ≡ true
    → is_word_character c ≡ false → tokens_of (word ++ c ∷ rest) ≡ token_of_word word ++ tokens_of rest
word_ends word c rest all between =
    ap (λ pieces. map folded (filter has_character pieces)) (split_at word c rest all between)
    ∙ ap (map folded) (filter-append has_character (word ∷ []) (slice_split is_between_words rest))
    ∙ map-append folded (filter has_character (word ∷ [])) (words_of rest)

-- A word at the end gives its token.
pub last_word_ends : (word : List ℕ) → list_all is_word_character word ≡ true → tokens_of word ≡ token_of_word word
last_word_ends word all = ap (λ pieces. map folded (filter has_character pieces)) (split_word word all)

-- A nonempty word has a token.
pub a_word_has_a_token : (text : List ℕ) → IsUtf8 text → (length text == 0) ≡ false
    → token_of_word (chars text) ≡ folded (chars text) ∷ []
a_word_has_a_token text utf8 filled = by (chars text) (encodes-chars text utf8)
  where
    by : (characters : List ℕ) → encode_utf8_all characters ≡ text
        → token_of_word characters ≡ folded characters ∷ []
    by [] same = absurd (cc)
    by (c ∷ characters) same = refl

-- An empty word adds no token.
pub no_word_adds_none : (found : List (List ℕ)) (text : List ℕ) → (length text == 0) ≡ true
    → found ≡ found ++ token_of_word (chars text)
no_word_adds_none found [] empty =
    sym (
    ap (λ cs. found ++ token_of_word cs) chars-nil ∙ append-nil found
    )
no_word_adds_none found (b ∷ text) empty = absurd (omega (arith, eqb-true (length (b ∷ text)) 0 empty))

-- The state of the reader: the current word consists of word characters, and the tokens of the text are those found,
-- followed by those of the current word and the remaining text.
pub record Stands (text : List ℕ) (found : List (List ℕ)) (word left : List ℕ) : Type 0 where
  pub is_word : list_all is_word_character (chars word) ≡ true
  pub is_text : IsUtf8 left
  pub all_found : tokens text ≡ found ++ tokens_of (chars word ++ chars left)

pub reading_begins : (text : List ℕ) (found : List (List ℕ)) (word left : List ℕ) → found ≡ [] → word ≡ []
    → left ≡ text → IsUtf8 text → Stands text found word left
reading_begins text found word left none empty all utf8 =
    let no_characters = ap chars empty ∙ chars-nil in
    record {
      is_word = ap (list_all is_word_character) no_characters;
      is_text = subst IsUtf8 (sym all) utf8;
      all_found = ap tokens (sym all) ∙ ap (λ cs. tokens_of (cs ++ chars left)) (sym no_characters)
          ∙ ap (λ f. f ++ tokens_of (chars word ++ chars left)) (sym none);
    }

-- one more character of the current word
chars_more : (word more : List ℕ) (c : ℕ) → IsUtf8 word → IsUtf8 more → more ≡ word ++ encode_utf8 c
    → chars more ≡ chars word ++ c ∷ []
chars_more word more c utf8 still grown =
    sym (
    chars_from_encodes (chars word ++ c ∷ []) more still (
    encodes-append (chars word) (c ∷ []) ∙ ap (λ bs. bs ++ encode_utf8_all (c ∷ [])) (encodes-chars word utf8)
    ∙ ap (λ bs. word ++ bs) (append-nil (encode_utf8 c)) ∙ sym grown
    )
    )

pub word_goes_on : (text : List ℕ) (found : List (List ℕ)) (word more : List ℕ) (c : ℕ) (left rest : List ℕ)
    → Stands text found word left → IsUtf8 word → IsUtf8 more → is_word_character c ≡ true
    → more ≡ word ++ encode_utf8 c → left ≡ encode_utf8 c ++ rest → Stands text found more rest
word_goes_on text found word more c left rest state utf8 still is_one grown splits =
    let same = chars_more word more c utf8 still grown in
    record {
      is_word = ap (list_all is_word_character) same ∙ list_all-append is_word_character (chars word) (c ∷ [])
          ∙ ap (λ b. b && list_all is_word_character (c ∷ [])) state.is_word ∙ ap (λ b. b && true) is_one;
      is_text = IsUtf8-past_char left rest c state.is_text splits;
      all_found = state.all_found ∙ ap (λ cs. found ++ tokens_of cs) (
          ap (λ cs. chars word ++ cs) (chars_past_char left rest c state.is_text splits)
          ∙ sym (append_assoc (chars word) (c ∷ []) (chars rest)) ∙ ap (λ cs. cs ++ chars rest) (sym same)
          );
    }

pub word_is_ended : (text : List ℕ) (found more : List (List ℕ)) (word empty : List ℕ) (c : ℕ) (left rest : List ℕ)
    → Stands text found word left → is_word_character c ≡ false → more ≡ found ++ token_of_word (chars word)
    → empty ≡ [] → left ≡ encode_utf8 c ++ rest → Stands text more empty rest
word_is_ended text found more word empty c left rest state between grown none splits =
    let no_characters = ap chars none ∙ chars-nil in
    record {
      is_word = ap (list_all is_word_character) no_characters;
      is_text = IsUtf8-past_char left rest c state.is_text splits;
      all_found = state.all_found
          ∙ ap (λ cs. found ++ tokens_of (chars word ++ cs)) (chars_past_char left rest c state.is_text splits)
          ∙ ap (λ ts. found ++ ts) (word_ends (chars word) c (chars rest) state.is_word between)
          ∙ sym (append_assoc found (token_of_word (chars word)) (tokens_of (chars rest)))
          ∙ ap (λ ts. ts ++ tokens_of (chars rest)) (sym grown)
          ∙ ap (λ cs. more ++ tokens_of (cs ++ chars rest)) (sym no_characters);
    }

pub reading_ends : (text : List ℕ) (found more : List (List ℕ)) (word left : List ℕ) → Stands text found word left
    → length left ≡ 0 → more ≡ found ++ token_of_word (chars word) → more ≡ tokens text
reading_ends text found more word left state at_end grown =
    grown ∙ ap (λ ts. found ++ ts) (sym (last_word_ends (chars word) state.is_word))
    ∙ ap (λ cs. found ++ tokens_of cs) (sym (append-nil (chars word)))
    ∙ ap (λ cs. found ++ tokens_of (chars word ++ cs)) (sym (ap chars (nil_of_length left at_end) ∙ chars-nil))
    ∙ sym state.all_found
  where
    nil_of_length : (bytes : List ℕ) → length bytes ≡ 0 → bytes ≡ []
    nil_of_length [] none = refl
    nil_of_length (b ∷ bytes) none = absurd (omega (arith, none))

-- A token that is looked for in a text: the words are read one after another, and it is the token of none so far.
use Rattle.std.proofs.Common.{◌≡◌, ◌∙◌, ℕ, ◌==◌, List, [], ◌++◌, Bool, true, false, ◌||◌, ap, sym, refl, length}
use Rattle.std.specs.Prelude.{encode_utf8}
use Rattle.std.specs.Str.{IsUtf8, bytes_eq, chars}
use Rattle.std.proofs.lemmas.List.Folds.{list_any-append}
use Rattle.portal_base.specs.Characters.{is_word_character}
use Rattle.portal_base.specs.Tokens.{folded, token_of_word, tokens}
use Rattle.portal_base.proofs.Words.{Stands, a_word_has_a_token, no_word_adds_none, reading_begins, reading_ends}
use Rattle.portal_base.proofs.Words.{tokens_of, word_goes_on, word_is_ended}
use Rattle.table_schema.specs.Printed.{cell_text}
use Rattle.table_schema.specs.declared.cell.Cell.TheVariants as cell
use Rattle.datastore_query.specs.Words.{cell_tokens, has_word}

or_nothing : (b : Bool) → b ≡ (b || false)
or_nothing true = refl
or_nothing false = refl

-- The token of a word is one that it is compared with, and an empty word has none.
pub a_word_is : (word token text : List ℕ) (is : Bool) → IsUtf8 word → (length word == 0) ≡ false
    → text ≡ folded (chars word) → is ≡ bytes_eq text token → is ≡ has_word (token_of_word (chars word)) token
a_word_is word token text is utf8 filled in_fold compared =
    compared ∙ ap (λ bs. bytes_eq bs token) in_fold ∙ or_nothing (bytes_eq (folded (chars word)) token)
    ∙ ap (λ ts. has_word ts token) (sym (a_word_has_a_token word utf8 filled))

pub no_word_is : (word token : List ℕ) → (length word == 0) ≡ true → false ≡ has_word (token_of_word (chars word)) token
no_word_is word token empty = ap (λ ts. has_word ts token) (no_word_adds_none [] word empty)

-- The reader is in a word of the text, and the tokens before it aren't this one.
pub record IsUnfound (text token word left : List ℕ) : Type 0 where
  pub found : List (List ℕ)
  pub stands : Stands text found word left
  pub none : has_word found token ≡ false

pub search_begins : (text token word left : List ℕ) → word ≡ [] → left ≡ text → IsUtf8 text
    → IsUnfound text token word left
search_begins text token word left empty all utf8 = record {
  found = [];
  stands = reading_begins text [] word left refl empty all utf8;
  none = refl;
}

pub search_goes_on : (text token word more : List ℕ) (c : ℕ) (left rest : List ℕ) → IsUnfound text token word left
    → IsUtf8 word → IsUtf8 more → is_word_character c ≡ true → more ≡ word ++ encode_utf8 c
    → left ≡ encode_utf8 c ++ rest → IsUnfound text token more rest
search_goes_on text token word more c left rest state utf8 still is_one grown splits = record {
  found = state.found;
  stands = word_goes_on text state.found word more c left rest state.stands utf8 still is_one grown splits;
  none = state.none;
}

joined : (found more : List (List ℕ)) (token : List ℕ) (is : Bool) → has_word found token ≡ false
    → is ≡ has_word more token → has_word (found ++ more) token ≡ is
joined found more token is none here =
    list_any-append (λ t. bytes_eq t token) found more ∙ ap (λ b. b || has_word more token) none ∙ sym here

-- The word ends, and its token is another one.
pub search_passes : (text token word empty : List ℕ) (c : ℕ) (left rest : List ℕ) → IsUnfound text token word left
    → is_word_character c ≡ false → has_word (token_of_word (chars word)) token ≡ false → empty ≡ []
    → left ≡ encode_utf8 c ++ rest → IsUnfound text token empty rest
search_passes text token word empty c left rest state between other none splits = record {
  found = state.found ++ token_of_word (chars word);
  stands = word_is_ended text state.found (state.found ++ token_of_word (chars word)) word empty c left rest
      state.stands between refl none splits;
  none = joined state.found (token_of_word (chars word)) token false state.none (sym other);
}

-- The word ends, and its token is this one.
pub search_finds : (text token word : List ℕ) (c : ℕ) (left rest : List ℕ) → IsUnfound text token word left
    → is_word_character c ≡ false → has_word (token_of_word (chars word)) token ≡ true → left ≡ encode_utf8 c ++ rest
    → true ≡ has_word (tokens text) token
search_finds text token word c left rest state between here splits =
    let here_too : List (List ℕ) = state.found ++ token_of_word (chars word) in
    let after : Stands text here_too [] rest =
    word_is_ended text state.found here_too word [] c left rest state.stands between refl refl splits in
    sym (ap (λ ts. has_word ts token) after.all_found
    ∙ list_any-append (λ t. bytes_eq t token) here_too (tokens_of (chars [] ++ chars rest))
    ∙ ap (λ b. b || has_word (tokens_of (chars [] ++ chars rest)) token)
    (joined state.found (token_of_word (chars word)) token true state.none (sym here)))

-- The text ends.
pub search_ends : (text token word left : List ℕ) (is : Bool) → IsUnfound text token word left → length left ≡ 0
    → is ≡ has_word (token_of_word (chars word)) token → is ≡ has_word (tokens text) token
search_ends text token word left is state at_end here =
    sym (joined state.found (token_of_word (chars word)) token is state.none here)
    ∙ ap (λ ts. has_word ts token)
    (reading_ends text state.found (state.found ++ token_of_word (chars word)) word left state.stands at_end refl)

-- A text cell has the tokens of its text.
pub text_tokens : (text : List ℕ) → tokens text ≡ cell_tokens (cell.Text text)
unfolding cell_text
text_tokens text = refl

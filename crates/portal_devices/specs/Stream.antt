-- Numbers of 128 bits from the key stream of ChaCha20 (RFC 8439, section 2.3), for a key of eight words and the nonce
-- 0.
use Rattle.std.specs.Prelude.{ℕ, zero, suc, ◌+◌, ◌*◌, ◌^◌, List, [], ◌∷◌, ◌++◌}
use Rattle.rand_chacha.specs.ChaCha.{word_at}

-- the key of eight words, and the count of numbers drawn
pub record StreamPosition : Type 0 where
  pub key : List ℕ
  pub count : ℕ

-- the 32-bit word at a position of the stream, after ten double rounds
abbrev pub stream_word : List ℕ → ℕ → ℕ
stream_word key position = word_at 10 key 0 position

-- four words as one number, the first word the highest
abbrev pub number_of_words : ℕ → ℕ → ℕ → ℕ → ℕ
number_of_words first second third fourth =
    first * 2 ^ 96 + second * 2 ^ 64 + third * 2 ^ 32 + fourth

-- the number at an index, where each number takes four words of the stream
unfoldable pub stream_number : List ℕ → ℕ → ℕ
stream_number key index =
    number_of_words (stream_word key (4 * index)) (stream_word key (4 * index + 1))
    (stream_word key (4 * index + 2)) (stream_word key (4 * index + 3))

-- the first numbers of the stream
abbrev pub stream_numbers : List ℕ → ℕ → List ℕ
stream_numbers key zero = []
stream_numbers key (suc count) = stream_numbers key count ++ stream_number key count ∷ []

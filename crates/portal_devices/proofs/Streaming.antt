-- Four consecutive words of the key stream are the number at their index.
use Rattle.std.proofs.Common.{◌≡◌, ℕ, ◌+◌, ◌-◌, ◌*◌, ◌%◌, ◌^◌, ◌<◌, refl, ap, ◌∙◌, arith, List}
use Rattle.rand_chacha.specs.ChaCha.{ChaCha, next_word, word_at}
use Rattle.portal_devices.specs.Stream.{number_of_words, stream_number, stream_word}

-- The generator for a key is at a position of stream 0.
record IsAt (key : List ℕ) (position : ℕ) (generator : ChaCha) : Type 0 where
  pub same_key : generator.key ≡ key
  pub first_stream : generator.stream ≡ 0
  pub at_position : generator.word_pos ≡ position

-- It gives the word there, and then is at the next position.
stream_word-next : (key : List ℕ) (position : ℕ) (old new : ChaCha) (word : ℕ) → IsAt key position old
    → position + 1 < 2 ^ 68 → (word, new) ≡ next_word 10 old
    → (word ≡ stream_word key position) × IsAt key (position + 1) new
stream_word-next key position old new word is_at below e =
    let after = ap (λ p. p.1) e in
    let next : (position + 1) % 2 ^ 68 ≡ position + 1 = omega arith in (
      ap (λ p. p.0) e ∙ ap (λ k. word_at 10 k old.stream old.word_pos) is_at.same_key
          ∙ ap (λ s. word_at 10 key s old.word_pos) is_at.first_stream ∙ ap (λ p. word_at 10 key 0 p) is_at.at_position,
      record {
        same_key = ap (λ g. g.key) after ∙ is_at.same_key;
        first_stream = ap (λ g. g.stream) after ∙ is_at.first_stream;
        at_position = ap (λ g. g.word_pos) after ∙ ap (λ p. (p + 1) % 2 ^ 68) is_at.at_position ∙ next;
      },
    )

pub stream_number-words : (count : ℕ) (g0 g1 g2 g3 g4 : ChaCha) (first second third fourth : ℕ) → count < 2 ^ 64 - 1
    → g0.stream ≡ 0 → g0.word_pos ≡ 4 * count
    → (first, g1) ≡ next_word 10 g0 → (second, g2) ≡ next_word 10 g1 → (third, g3) ≡ next_word 10 g2
    → (fourth, g4) ≡ next_word 10 g3
    → number_of_words first second third fourth ≡ stream_number g0.key count
unfolding stream_number
stream_number-words count g0 g1 g2 g3 g4 first second third fourth below stream position e1 e2 e3 e4 =
    let is_at : IsAt g0.key
    (4 * count) g0 = record { same_key = refl; first_stream = stream; at_position = position } in
    let one = stream_word-next g0.key (4 * count) g0 g1 first is_at (omega arith) e1 in
    let two = stream_word-next g0.key (4 * count + 1) g1 g2 second one.1 (omega arith) e2 in
    let at_third : 4 * count + 1 + 1 ≡ 4 * count + 2 = omega arith in
    let three = stream_word-next g0.key (4 * count + 1 + 1) g2 g3 third two.1 (omega arith) e3 in
    let at_fourth : 4 * count + 1 + 1 + 1 ≡ 4 * count + 3 = omega arith in
    let four = stream_word-next g0.key (4 * count + 1 + 1 + 1) g3 g4 fourth three.1 (omega arith) e4 in
    let third_word = three.0 ∙ ap (λ p. stream_word g0.key p) at_third in
    let fourth_word = four.0 ∙ ap (λ p. stream_word g0.key p) at_fourth in
    ap (λ w. number_of_words w second third fourth) one.0
    ∙ ap (λ w. number_of_words (stream_word g0.key (4 * count)) w third fourth) two.0
    ∙ ap (λ w. number_of_words (stream_word g0.key (4 * count)) (stream_word g0.key (4 * count + 1)) w fourth)
    third_word
    ∙ ap (λ w. number_of_words (stream_word g0.key (4 * count)) (stream_word g0.key (4 * count + 1))
    (stream_word g0.key (4 * count + 2)) w) fourth_word

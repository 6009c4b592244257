-- The numbers for a key of zeros, as in RFC 8439, appendix A.1, test vectors 1 and 2.
use Rattle.std.proofs.Common.{◌≡◌, refl, [], ◌∷◌}
use Rattle.rand_chacha.specs.Block.{block_word, column_round, diagonal_round, double_rounds, quarter_round}
use Rattle.portal_devices.specs.Stream.{number_of_words, stream_number}

words : number_of_words 1 2 3 4 ≡ 79228162551157825753847955460
words = refl

first : stream_number (0 ∷ 0 ∷ 0 ∷ 0 ∷ 0 ∷ 0 ∷ 0 ∷ 0 ∷ []) 0 ≡ 0xade0b876903df1a0e56a5d4028bd8653
unfolding stream_number block_word double_rounds column_round diagonal_round quarter_round
first = refl

second_block : stream_number (0 ∷ 0 ∷ 0 ∷ 0 ∷ 0 ∷ 0 ∷ 0 ∷ 0 ∷ []) 4 ≡ 0xbee7079f7a3851557c97ba980d082d73
unfolding stream_number block_word double_rounds column_round diagonal_round quarter_round
second_block = refl

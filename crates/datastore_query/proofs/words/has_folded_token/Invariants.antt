use Rattle.std.proofs.Common.{string_bytes}
use Rattle.datastore_query.proofs.TokenLemmas.{IsUnfound}
use Rattle.datastore_query.proofs.words.has_folded_token.Given as goal

abbrev pub invariant-loop-character : goal.invariant-loop-character
invariant-loop-character l = IsUnfound l.text l.token (string_bytes l.buffer) l.character-iterator.rest.now

use Rattle.std.proofs.Common.{string_bytes}
use Rattle.portal_base.proofs.Words.{Stands}
use Rattle.portal_base.proofs.tokens.tokens.Given as goal

abbrev pub invariant-loop-character : goal.invariant-loop-character
invariant-loop-character l = Stands l.text l.found.items (string_bytes l.word) l.character-iterator.rest.now

use Rattle.std.proofs.Common.{◌∙◌, sym}
use Rattle.datastore_query.proofs.TokenLemmas.{a_word_is, no_word_is}
use Rattle.datastore_query.proofs.words.is_token_of.Goals as goal

pub returns-then-is_empty : goal.returns-then-is_empty
returns-then-is_empty c =
    no_word_is c.args.word.now c.args.token.now (sym c.is_empty.ensures ∙ c.if-is_empty.true)

pub returns : goal.returns
returns c =
    a_word_is c.args.word.now c.args.token.now c.as_str.result.now c.eq.result c.utf8.word
    (sym c.is_empty.ensures ∙ c.if-is_empty.false) (c.as_str.ensures.value ∙ c.in_ok-folded.ensures) c.eq.ensures

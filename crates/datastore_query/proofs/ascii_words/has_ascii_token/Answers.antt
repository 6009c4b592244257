use Rattle.std.proofs.Common.{◌∙◌, rules, tests}
use Rattle.std.proofs.lemmas.Iterator.Search.{any_from_yields_List}
use Rattle.std.proofs.lemmas.Iterator.Splits.{YieldsList-from_slice_split}
use Rattle.datastore_query.specs.AsciiWords.{is_between_ascii_words, is_token_of}
use Rattle.datastore_query.proofs.AsciiLemmas.{has_word-ascii}
use Rattle.datastore_query.proofs.ascii_words.has_ascii_token.Goals as goal

pub returns : goal.returns
returns c =
    any_from_yields_List (is_token_of c.args.token.now) _ _ _ c.any.ensures.ran
    (YieldsList-from_slice_split _ is_between_ascii_words c.args.text.now c.split.ensures.rest c.split.ensures.done
    c.split.ensures.closure (λ x b q k. search (rules, tests)))
    (λ x b q k. search (rules, tests))
    ∙ has_word-ascii c.args.text.now c.args.token.now c.requires

use Rattle.std.proofs.Common.{◌∙◌, rules, string_bytes, tests}
use Rattle.std.proofs.lemmas.Iterator.{YieldsList-from_slice}
use Rattle.std.proofs.lemmas.Iterator.Search.{any_from_yields_List}
use Rattle.portal_words.specs.Options.{is_dashes}
use Rattle.portal_words.proofs.ReadLemmas.{dashes-among}
use Rattle.portal_words.proofs.options.has_dashes.Goals as goal

pub returns : goal.returns
returns c =
    any_from_yields_List (λ w. is_dashes (string_bytes w)) _ _ c.any.result c.any.ensures.ran
    (YieldsList-from_slice c.args.words.now cc) (λ x b q k. search (rules, tests))
    ∙ dashes-among c.args.words.now

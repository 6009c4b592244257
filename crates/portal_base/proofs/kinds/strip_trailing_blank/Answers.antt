use Rattle.std.proofs.Common.{lit<}
use Rattle.std.proofs.lemmas.Str.Pattern.{strip_suffix_char}
use Rattle.std.specs.Prelude.{None}
use Rattle.portal_base.proofs.KindLemmas.{trimmed_end_if_none}
use Rattle.portal_base.proofs.kinds.strip_trailing_blank.Goals as goal

pub returns-in-None-clause-none : goal.returns-in-None-clause-none
returns-in-None-clause-none c =
    trimmed_end_if_none c.args.text.now c.strip_suffix-in-None.result
    (strip_suffix_char 32 c.args.text.now None c.in-None.ensures.cases (lit< tt))
    (strip_suffix_char 9 c.args.text.now _ c.strip_suffix-in-None.ensures.cases (lit< tt))

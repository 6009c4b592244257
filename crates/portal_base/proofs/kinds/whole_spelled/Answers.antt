use Rattle.std.proofs.Common.{◌≡◌, ap, sym, ◌∙◌, lit<}
use Rattle.std.specs.Prelude.{None, option_map, pos}
use Rattle.std.proofs.lemmas.Str.Pattern.{strip_prefix_char}
use Rattle.portal_base.specs.Kinds.{digits_spelled}
use Rattle.portal_base.proofs.KindLemmas.{whole_spelled_unsigned}
use Rattle.portal_base.proofs.kinds.whole_spelled.Goals as goal

pub returns-in_err-digits_spelled-in-None : goal.returns-in_err-digits_spelled-in-None
returns-in_err-digits_spelled-in-None c =
    let none : digits_spelled c.args.text.now ≡ None =
    sym c.digits_spelled-in-None.ensures ∙ c.in_err-digits_spelled-in-None.was in
    let unsigned = whole_spelled_unsigned c.args.text.now
    (strip_prefix_char 45 c.args.text.now None c.in-None.ensures.cases (lit< tt)) in
    c.from_residual-in_err-digits_spelled-in-None.ensures ∙ sym (unsigned ∙ ap (option_map pos) none)

use Rattle.std.proofs.Common.{◌≡◌, Some, None, rules, ap, sym, ◌∙◌}
use Rattle.std.specs.Option.{option_copied}
use Rattle.std.specs.Prelude.{position}
use Rattle.std.specs.Ordering.{is_eq}
use Rattle.std.proofs.lemmas.Option.{gets}
use Rattle.portal_base.proofs.Halved.{found-position}
use Rattle.portal_base.proofs.Removed.{removed-none}
use Rattle.portal_base.proofs.ordered.find_in_order.Goals as goal

pub returns-in_err-index_in_order : goal.returns-in_err-index_in_order
returns-in_err-index_in_order g c =
    let at = g.K.Key.at c.args.key.now in
    let none : position (λ x. is_eq (at x)) c.args.items.now ≡ None =
    sym c.index_in_order.ensures.index ∙ c.in_err-index_in_order.was in
    ap option_copied c.from_residual.ensures ∙ sym (removed-none at c.args.items.now none).0

pub returns : goal.returns
returns g c =
    let at = g.K.Key.at c.args.key.now in
    let there : position (λ x. is_eq (at x)) c.args.items.now ≡ Some c.in_ok-index_in_order.field-0 =
    sym c.index_in_order.ensures.index ∙ c.in_ok-index_in_order.was in
    search (gets, rules) ∙ sym (found-position at c.args.items.now c.in_ok-index_in_order.field-0 there (c.in_ok-index_in_order.ensures.within))

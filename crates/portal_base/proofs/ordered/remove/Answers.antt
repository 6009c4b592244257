use Rattle.std.proofs.Common.{◌≡◌, Some, None, ap, sym, ◌∙◌}
use Rattle.std.specs.Prelude.{position}
use Rattle.std.specs.Ordering.{is_eq}
use Rattle.portal_base.proofs.Removed.{removed-some, removed-none}
use Rattle.portal_base.proofs.ordered.remove.Goals as goal

pub returns-in_err-index-clause-item : goal.returns-in_err-index-clause-item
returns-in_err-index-clause-item g c =
    let at = g.K.Key.at c.args.key.now in
    let none : position (λ x. is_eq (at x)) c.args.items.now.items ≡ None =
    ap (position (λ x. is_eq (at x))) (sym c.as_slice.ensures.value)
    ∙ sym c.index_of_key.ensures.index ∙ c.in_err-index.was in
    c.from_residual.ensures ∙ sym (removed-none at c.args.items.now.items none).0

pub returns-in_err-index-clause-rest : goal.returns-in_err-index-clause-rest
returns-in_err-index-clause-rest g c =
    let at = g.K.Key.at c.args.key.now in
    let none : position (λ x. is_eq (at x)) c.args.items.now.items ≡ None =
    ap (position (λ x. is_eq (at x))) (sym c.as_slice.ensures.value)
    ∙ sym c.index_of_key.ensures.index ∙ c.in_err-index.was in
    sym (removed-none at c.args.items.now.items none).1

pub returns-clause-item : goal.returns-clause-item
returns-clause-item g c =
    let at = g.K.Key.at c.args.key.now in
    let some : position (λ x. is_eq (at x)) c.args.items.now.items ≡ Some c.in_ok-index.index =
    ap (position (λ x. is_eq (at x))) (sym c.as_slice.ensures.value)
    ∙ sym c.index_of_key.ensures.index ∙ c.in_ok-index.was in
    ap Some c.remove.ensures.value
    ∙ sym (removed-some at c.args.items.now.items c.in_ok-index.index some c.remove.result).0

pub returns-clause-rest : goal.returns-clause-rest
returns-clause-rest g c =
    let at = g.K.Key.at c.args.key.now in
    let some : position (λ x. is_eq (at x)) c.args.items.now.items ≡ Some c.in_ok-index.index =
    ap (position (λ x. is_eq (at x))) (sym c.as_slice.ensures.value)
    ∙ sym c.index_of_key.ensures.index ∙ c.in_ok-index.was in
    c.remove.ensures.items ∙ sym (removed-some at c.args.items.now.items c.in_ok-index.index some c.remove.result).1

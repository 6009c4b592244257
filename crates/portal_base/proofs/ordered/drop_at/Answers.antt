-- In an ascending list only one item has the key.
use Rattle.std.proofs.Common.{◌≡◌, Some, None, ap, sym, ◌∙◌}
use Rattle.std.specs.Prelude.{position}
use Rattle.std.specs.Ordering.{is_eq}
use Rattle.portal_base.specs.Ordered.{removed}
use Rattle.portal_base.proofs.Upserted.{dropped-removed}
use Rattle.portal_base.proofs.Removed.{IsAscending-removed, removed-none, removed-some}
use Rattle.portal_base.proofs.ordered.drop_at.Goals as goal

pub returns-in_err-index : goal.returns-in_err-index
returns-in_err-index g c =
    let at = g.K.Key.at c.args.key.now in
    let xs = c.args.items.now.items in
    let none : position (λ x. is_eq (at x)) xs ≡ None =
    ap (position (λ x. is_eq (at x))) (sym c.as_slice.ensures.value)
    ∙ sym c.index_in_order.ensures.index ∙ c.in_err-index.was in
    let same = removed-none at xs none in
    record {
      item = c.from_residual.ensures ∙ sym same.0;
      rest = sym (dropped-removed g.T.Ordered.order g.met.T.Ordered.total at (g.met.K.Key.is_key c.args.key.now) xs
          c.requires ∙ same.1);
      ascending = c.requires;
    }

pub returns : goal.returns
returns g c =
    let at = g.K.Key.at c.args.key.now in
    let xs = c.args.items.now.items in
    let some : position (λ x. is_eq (at x)) xs ≡ Some c.in_ok-index.index =
    ap (position (λ x. is_eq (at x))) (sym c.as_slice.ensures.value)
    ∙ sym c.index_in_order.ensures.index ∙ c.in_ok-index.was in
    let without = removed-some at xs c.in_ok-index.index some c.remove.result in
    let rest : c.remove.new.self.items ≡ removed at xs = c.remove.ensures.items ∙ sym without.1 in
    record {
      item = ap Some c.remove.ensures.value ∙ sym without.0;
      rest = rest ∙ sym (dropped-removed g.T.Ordered.order g.met.T.Ordered.total at
          (g.met.K.Key.is_key c.args.key.now) xs c.requires);
      ascending = rw rest (IsAscending-removed g.T.Ordered.order at xs c.requires);
    }

-- A dataset that is free is inserted.
use Rattle.std.proofs.Common.{◌∙◌, ap, is_some, sym}
use Rattle.portal_base.specs.Ordered.{upserted}
use Rattle.packages.specs.Order.{dataset_cmp}
use Rattle.packages.specs.Shelf.{ShelfState, datasets_of, number_in}
use Rattle.packages.proofs.RestoreLemmas.{free-number_in, upserted-free}
use Rattle.packages.proofs.shelf.Shelf.put_if_free.Goals as goal

pub put-requires : goal.put-requires
put-requires c =
    let d = c.args.dataset in
    let s = c.args.self.now in
    let none = free-number_in d s (sym c.is_free.ensures ∙ c.if-not-is_free.false) in
    record {
      room = ap (λ (t : ShelfState). is_some t.room) c.in_ok-prepare.ensures.room;
      id = ap (number_in d.id) c.in_ok-prepare.ensures.room ∙ none.0;
      name = ap (number_in d.name) c.in_ok-prepare.ensures.room ∙ none.1;
    }

pub returns-clause-datasets : goal.returns-clause-datasets
returns-clause-datasets c =
    λ _.
    let d = c.args.dataset in
    let s = c.args.self.now in
    c.put.ensures.datasets
    ∙ ap (λ (t : ShelfState). upserted dataset_cmp d (datasets_of t)) c.in_ok-prepare.ensures.room
    ∙ upserted-free d (datasets_of s) (sym c.is_free.ensures ∙ c.if-not-is_free.false)

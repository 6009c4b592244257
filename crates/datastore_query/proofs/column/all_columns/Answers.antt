use Rattle.std.proofs.Common.{◌∙◌, ◌+◌, ◌∷◌, ◌++◌, [], List, ap, append_assoc, arith, drop, sym}
use Rattle.datastore_query.specs.declared.column.Column.{Column}
use Rattle.datastore_query.specs.declared.column.Column.TheVariants as column
use Rattle.datastore_query.specs.Column.{field_columns_from}
use Rattle.datastore_query.proofs.RowLemmas.{field_columns_from_next}
use Rattle.datastore_query.proofs.column.all_columns.Goals as goal

pub loop-index-preserved : goal.loop-index-preserved
loop-index-preserved c =
    c.loop-index.invariant
    ∙ ap (λ (xs : List Column). c.loop-index.columns.items ++ xs)
    (field_columns_from_next c.loop-index.index c.loop-index.index c.args.fields.now (omega arith))
    ∙ sym (append_assoc c.loop-index.columns.items (column.Field c.loop-index.index ∷ [])
    (field_columns_from (c.loop-index.index + 1) (drop (c.loop-index.index + 1) c.args.fields.now)))
    ∙ ap (λ (xs : List Column). xs ++ field_columns_from (c.loop-index.index + 1)
    (drop (c.loop-index.index + 1) c.args.fields.now)) (sym c.in_ok-push-2.ensures.items)

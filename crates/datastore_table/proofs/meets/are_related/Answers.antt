use Rattle.std.proofs.Common.{◌∙◌, List, subst, sym}
use Rattle.table_schema.specs.Field.{FieldValue}
use Rattle.datastore_table.specs.Index.{IsUniquelyIndexed}
use Rattle.datastore_table.proofs.StoreLemmas.{unique_indexed}
use Rattle.datastore_table.proofs.meets.are_related.Goals as goal

pub are_uniques_apart-requires-clause-indexed : goal.are_uniques_apart-requires-clause-indexed
are_uniques_apart-requires-clause-indexed c =
    subst (λ (fs : List FieldValue). IsUniquelyIndexed fs c.args.rows.now c.args.index.now)
    (sym (c.as_slice.ensures ∙ c.fields.ensures))
    (unique_indexed c.args.schema.now c.args.rows.now c.args.index.now c.requires.indexed)

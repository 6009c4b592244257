use Rattle.std.proofs.Common.{◌≡◌, ◌∙◌, ap, ap₂}
use Rattle.table_schema.specs.Field.{SchemaValue}
use Rattle.datastore_table.specs.Batch.{RemovalValue, cut_rows, referred_checked}
use Rattle.datastore_table.specs.References.{foreign_fields}
use Rattle.datastore_table.proofs.DeleteLemmas.{delete-nothing}
use Rattle.datastore_table.proofs.checks.check_referred.Goals as goal

pub returns : goal.returns
returns c =
    let foreigns = c.args.referring.now.schema.foreign in
    let fields = foreign_fields foreigns c.args.foreign in
    let listed : c.as_slice.result.now ≡ foreigns =
    c.as_slice.ensures ∙ c.foreign.ensures ∙ ap (λ (s : SchemaValue). s.foreign) c.schema.ensures in
    let columns : c.foreign_fields-columns.result.now ≡ fields =
    c.foreign_fields-columns.ensures ∙ ap (λ fs. foreign_fields fs c.args.foreign) listed in
    let keys : c.as_slice-2.result.now ≡ c.args.removal.now.keys =
    c.as_slice-2.ensures.value ∙ ap (λ (r : RemovalValue). r.keys) c.removal.view_is in
    let rows : cut_rows c.none-none.result c.rows.result.now ≡ c.args.referring.now.rows =
    ap (λ ids. cut_rows ids c.rows.result.now) c.none-none.ensures ∙ delete-nothing c.rows.result.now
    ∙ c.rows.ensures.rows in
    c.check_referred_from.ensures
    ∙ ap₂ (λ p k. referred_checked p k (cut_rows c.none-none.result c.rows.result.now)) columns keys
    ∙ ap (referred_checked fields c.args.removal.now.keys) rows

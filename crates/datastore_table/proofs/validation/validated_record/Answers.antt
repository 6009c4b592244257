use Rattle.std.proofs.Common.{◌≡◌, ◌∙◌, ap₂, subst, option_copied}
use Rattle.datastore_table.specs.Put.{validated_against}
use Rattle.datastore_table.specs.Record.{key_of}
use Rattle.datastore_table.specs.Results.{Answers}
use Rattle.datastore_table.specs.Rows.{row_with, rows_after}
use Rattle.datastore_table.proofs.validation.validated_record.Goals as goal

pub returns : goal.returns
returns c =
    let schema = c.args.schema.now in
    let given = c.args.given.now in
    let rows = rows_after c.args.current.now.written c.args.current.now.rows in
    let columns : c.as_slice.result.now ≡ schema.key = c.as_slice.ensures ∙ c.key.ensures in
    let key : c.as_slice-2.result.now ≡ key_of schema given = c.as_slice-2.ensures ∙ c.in_ok-key.ensures in
    let row : option_copied c.current_row_with-row.result ≡ row_with schema.key (key_of schema given) rows =
    c.current_row_with-row.ensures ∙ ap₂ (λ p k. row_with p k rows) columns key in
    subst (λ o. Answers c.validated_against.result
    (validated_against c.args.method schema c.args.number given o rows)) row
    c.validated_against.ensures

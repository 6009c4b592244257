use Rattle.std.proofs.Common.{◌∙◌, ◌++◌, ◌∷◌, [], List, ap, get_or, map, sym, take}
use Rattle.std.proofs.lemmas.List.{map-append, map_more}
use Rattle.portal_base.specs.declared.json_value.Json.{Json}
use Rattle.table_schema.specs.declared.cell.Cell.{Cell}
use Rattle.datastore_table.specs.declared.row.Row.{Row}
use Rattle.row_records.specs.Records.{record_of}
use Rattle.datastore_query.specs.Column.{projected}
use Rattle.portal_core.proofs.page.records_json.Goals as goal

pub loop-row-preserved : goal.loop-row-preserved
loop-row-preserved c =
    let rows : List Row = c.args.rows.now in
    let index = c.loop-row.row-index in
    let row : Row = c.row-item.result in
    let record_of_cells : List Cell → Json = record_of c.args.columns.now in
    let cells_of : Row → List Cell = projected c.args.query.now.columns in
    let before : List (List Cell) = map cells_of (take index rows) in
    c.in_ok-push.ensures.items
    ∙ ap (λ (list : List Json). list ++ c.in_ok-record_json.field-0 ∷ []) c.loop-row.invariant
    ∙ ap (λ (json : Json). map record_of_cells before ++ json ∷ [])
    (c.in_ok-record_json.ensures ∙ ap (λ (r : Row). record_of_cells (cells_of r)) c.row-item.is)
    ∙ sym (map-append record_of_cells before (cells_of (get_or rows index row) ∷ []))
    ∙ ap (map record_of_cells) (sym (map_more cells_of rows index row c.loop-row-test.true))

use Rattle.std.proofs.Common.{◌≡◌, All, List}
use Rattle.std.specs.Prelude.{IsTrue}
use Rattle.datastore_table.specs.Meets.{are_accepted}
use Rattle.portal_base.specs.Json.{json_text}
use Rattle.table_schema.specs.Printed.{IsValue}
use Rattle.table_schema.specs.declared.cell.Cell.{Cell}
use Rattle.portal_rows.specs.Readings.{cells_of_value}
use Rattle.portal_rows.specs.TableRows.{cells_value}
use Rattle.portal_rows.proofs.CellLemmas.{accepted-value_read, accepted-values, cells_of_value-back, cells_value-readable}
use Rattle.portal_rows.proofs.ReadLemmas.{complete_reading, premises, sound_reading}
use Rattle.portal_rows.proofs.cell_reading.cells_of_body.Goals as goal

pub returns-in-Some-clause-sound : goal.returns-in-Some-clause-sound
returns-in-Some-clause-sound c =
    sound_reading c.cells_in.result (cells_of_value c.args.fields.now c.in-Some.value)
    (λ (cells : List Cell). IsTrue (are_accepted c.args.fields.now cells))
    (λ cells e. accepted-value_read c.args.fields.now c.in-Some.value cells e) c.cells_in.ensures

pub returns-in-Some-clause-values : goal.returns-in-Some-clause-values
returns-in-Some-clause-values c =
    sound_reading c.cells_in.result (cells_of_value c.args.fields.now c.in-Some.value) (All IsValue)
    (λ cells e. accepted-values c.args.fields.now cells
    (accepted-value_read c.args.fields.now c.in-Some.value cells e)) c.cells_in.ensures

pub returns-in-Some-clause-complete : goal.returns-in-Some-clause-complete
returns-in-Some-clause-complete c =
    let fields = c.args.fields.now in
    let Accepted : List Cell → Type 0 = λ cells. IsTrue (are_accepted fields cells) in
    let Written : List Cell → Type 0 = λ cells. c.args.body.now ≡ json_text (cells_value cells) in
    premises c.cells_in.result Accepted Written
    (complete_reading c.cells_in.result (cells_of_value fields) cells_value c.in_ok-value.field-0 c.in-Some.value
    (λ (cells : List Cell). Accepted cells × Written cells) c.in-Some.is
    (λ cells is. c.in_ok-value.ensures.back (cells_value cells) (cells_value-readable fields cells is.0) is.1)
    (λ cells is. cells_of_value-back fields cells is.0) c.cells_in.ensures)

pub returns-in-None-clause-complete : goal.returns-in-None-clause-complete
returns-in-None-clause-complete c = λ cells accepted is.
    let found = c.in_ok-value.ensures.back (cells_value cells)
    (cells_value-readable c.args.fields.now cells accepted) is in
    let none = c.in-None.is in
    absurd (cc)

use Rattle.std.proofs.Common.{◌≡◌, ℕ, List, refl, inl, inr, Result, Ok, Err}
use Rattle.table_schema.specs.declared.cell.Cell.{Cell}
use Rattle.table_schema.specs.declared.cell.CellFault.{CellFault}
use Rattle.table_schema.specs.Field.{FieldValue}
use Rattle.table_schema.specs.Reading.{cell_reading, HasOneAnswer}
use Rattle.table_schema.proofs.laws.texts_have_one_answer.Goals as goal

one_answer : (field : FieldValue) (text : List ℕ) (answer : Result Cell CellFault) → cell_reading field text ≡ answer
    → HasOneAnswer field text
one_answer field text (Ok cell) e = inl (cell, record { reads = e; only = λ other h. cc; no_fault = λ fault h. cc })
one_answer field text (Err fault) e = inr (fault, record { fails = e; only = λ other h. cc; no_cell = λ cell h. cc })

pub returns : goal.returns
returns c = λ field text. one_answer field text (cell_reading field text) refl

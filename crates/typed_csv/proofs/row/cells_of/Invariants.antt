use Rattle.std.proofs.Common.{◌≡◌, All}
use Rattle.std.specs.Prelude.{IfOk}
use Rattle.std.specs.Iterator.Adapters.{zip_first, zip_second}
use Rattle.std.specs.Slice.Iter.{iter_rest}
use Rattle.csv.specs.Records.{fields_of}
use Rattle.table_schema.specs.Printed.{IsValue}
use Rattle.typed_csv.specs.Rows.{cells_reading}
use Rattle.typed_csv.proofs.RowLemmas.{followed_by}
use Rattle.typed_csv.proofs.row.cells_of.Given as goal

abbrev pub invariant-loop-field : goal.invariant-loop-field
invariant-loop-field l = record {
  read : cells_reading l.layout.width (fields_of l.row) l.fields l.layout.columns
      ≡ followed_by l.read
      (cells_reading l.layout.width (fields_of l.row) (iter_rest (zip_first l.field-iterator))
      (iter_rest (zip_second l.field-iterator)));
  value : IfOk l.read (λ cells. All IsValue cells);
}

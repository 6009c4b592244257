use Rattle.std.proofs.Common.{◌≡◌, ◌∙◌, ap, sym, refl, []}
use Rattle.std.specs.Iterator.Adapters.{zip_first, zip_second}
use Rattle.std.specs.Slice.Iter.{iter_rest}
use Rattle.std.proofs.lemmas.Slice.Zip.{Zip-more, either_empty_from_Zip}
use Rattle.std.proofs.lemmas.List.Elements.{All-nil}
use Rattle.csv.specs.Records.{fields_of}
use Rattle.table_schema.specs.Printed.{IsValue}
use Rattle.typed_csv.specs.Records.{text_in}
use Rattle.typed_csv.specs.Rows.{cell_or_bad, cells_reading, rank_of}
use Rattle.typed_csv.proofs.RowLemmas.{followed_by, cells-start, cells-next, cells-end, values-next}
use Rattle.typed_csv.proofs.row.cells_of.Goals as goal

pub loop-field-init : goal.loop-field-init
loop-field-init c =
    let start = c.into_iter-field-iterator.result in
    let first : iter_rest (zip_first start) ≡ c.args.fields.now = cc in
    let second : iter_rest (zip_second start) ≡ c.args.layout.now.columns = cc in
    let none : c.from.result ≡ [] = c.from.ensures ∙ c.in_ok-with_capacity.ensures.items in
    record {
      read = cells-start _ _ _ _ _ _ c.from.result first second none;
      value = rw none (All-nil IsValue);
    }

pub loop-field-preserved : goal.loop-field-preserved
loop-field-preserved c =
    let width = c.args.layout.now.width in
    let texts = fields_of c.args.row.now in
    let field = c.in-Some.field.now in
    let column = c.in-Some.column.now in
    let more = Zip-more c.loop-field.field-iterator c.next.new.self c.next.result (c.in-Some.field, c.in-Some.column)
    c.in-Some.is c.next.ensures.steps in
    let is : c.in_ok-cell.cell ≡ cell_or_bad field (rank_of width column) (text_in texts column) =
    c.in_ok-cell.ensures.read ∙ (rw c.rank_of-rank.ensures (rw c.text_in.ensures refl)) in
    record {
      read = c.loop-field.invariant.read ∙ cells-next width texts _ _ _ _ field column c.loop-field.read
          c.in_ok-cell.cell more.0 more.1 is
          ∙ ap (λ r. followed_by r
          (cells_reading width texts (iter_rest (zip_first c.next.new.self))
          (iter_rest (zip_second c.next.new.self)))) (sym c.in_ok-read.ensures);
      value = rw c.in_ok-read.ensures
          (values-next c.loop-field.read c.in_ok-cell.cell c.loop-field.invariant.value c.in_ok-cell.ensures.value);
    }

pub returns-clause-read : goal.returns-clause-read
returns-clause-read c =
    let done = either_empty_from_Zip c.loop-field.field-iterator c.next.new.self c.next.result c.in-None.is
    c.next.ensures.steps in
    sym (c.loop-field.invariant.read ∙ cells-end _ _ _ _ c.loop-field.read done)

pub returns-clause-value : goal.returns-clause-value
returns-clause-value c = c.loop-field.invariant.value

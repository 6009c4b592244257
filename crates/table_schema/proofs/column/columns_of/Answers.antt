use Rattle.std.proofs.Common.{◌≡◌, ◌+◌, ◌<◌, ◌++◌, ◌∷◌, [], ◌∙◌, ap, length, length-append, map, true, arith}
use Rattle.std.specs.Prelude.{if◌then◌else◌}
use Rattle.std.specs.Result.{is_ok}
use Rattle.table_schema.specs.declared.column.Column.{Column}
use Rattle.table_schema.specs.Descriptor.{column_reading, columns_reading}
use Rattle.table_schema.proofs.ColumnLemmas.{columns_on-next, columns_on-fault, refused, gives_err}
use Rattle.table_schema.proofs.column.columns_of.Goals as goal

pub returns-in_err-column : goal.returns-in_err-column
returns-in_err-column c =
    let items = c.args.items.now in
    let before = c.loop-index.columns.items in
    let index = c.loop-index.index in
    let item = c.index-items-index.result in
    let lt : index < length items = omega arith in
    let fault = c.in_err-column.field-0.0 in
    let is_fault = rw c.as_slice.ensures.value at c.in_err-column.ensures in
    gives_err (λ v. v.items) c.from_residual.result (columns_reading 1 [] items) fault c.from_residual.ensures.1
    (refused fault (column_reading (index + 1) (map (λ (x : Column). x.name) before) item) (columns_reading 1 [] items)
    (λ e. c.loop-index.invariant.read ∙ columns_on-fault before items index item fault c.loop-index.invariant.count lt
    c.index-items-index.is e) is_fault)

pub loop-index-preserved : goal.loop-index-preserved
loop-index-preserved c =
    let items = c.args.items.now in
    let before = c.loop-index.columns.items in
    let index = c.loop-index.index in
    let item = c.index-items-index.result in
    let column = c.in_ok-column.column in
    let lt : index < length items = omega arith in
    let read = rw c.as_slice.ensures.value at c.in_ok-column.ensures in
    let done : is_ok c.push.result ≡ true = c.if-is_err.ensures.negation in
    let pushed : c.push.new.self.items ≡ before ++ column ∷ [] =
    c.push.ensures.items ∙ ap (λ b. if b then before ++ column ∷ [] else before) done in
    record {
      count = omega (arith, ap length pushed, length-append before (column ∷ []), c.loop-index.invariant.count);
      read = rw pushed
          (c.loop-index.invariant.read ∙ columns_on-next before items index item column c.loop-index.invariant.count
          lt c.index-items-index.is read);
    }

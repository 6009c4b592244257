use Rattle.std.proofs.Common.{arith, rules}
use Rattle.std.proofs.lemmas.Grind.{common_steps}
use Rattle.csv.specs.Records.{fields_of}
use Rattle.typed_csv.proofs.LoaderLemmas.{no_text_row, row_refused}
use Rattle.typed_csv.proofs.row_reader.RowReader.next.Goals as goal

-- the texts are those of the record that was read
pub returns-clause-row : goal.returns-clause-row
returns-clause-row g c = (fields_of c.next.new.row, grind (arith, common_steps))

pub returns-in_err-cells-clause-cause : goal.returns-in_err-cells-clause-cause
returns-in_err-cells-clause-cause g c =
    row_refused c.args.self.now.schema.fields c.args.self.now.layout c.args.self.now.number (fields_of c.next.new.row)
    c.in_err-cells.field-0.0 c.from_residual-in_err-cells.result _
    (search rules) c.in_err-cells.ensures.read (grind (arith, common_steps))

pub returns-in-NotText-clause-cause : goal.returns-in-NotText-clause-cause
returns-in-NotText-clause-cause g c =
    no_text_row c.args.self.now.schema.fields c.args.self.now.layout c.args.self.now.number c.in_ok-number.number
    c.in_ok-number.ensures.next

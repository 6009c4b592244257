use Rattle.typed_csv.proofs.ColumnLemmas.{first_column}
use Rattle.typed_csv.proofs.laws.the_header_fault_names_the_first_invalid_column.Goals as goal

pub returns : goal.returns
returns c = first_column

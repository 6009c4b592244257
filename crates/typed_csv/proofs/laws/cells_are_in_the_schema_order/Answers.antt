use Rattle.typed_csv.proofs.LawLemmas.{schema-order}
use Rattle.typed_csv.proofs.laws.cells_are_in_the_schema_order.Goals as goal

pub returns : goal.returns
returns c = schema-order

use Rattle.std.proofs.Common.{◌≡◌}
use Rattle.csv.specs.Records.{fields_of}
use Rattle.typed_csv.specs.Header.{bad_column}
use Rattle.typed_csv.proofs.HeaderLemmas.{bad_on}
use Rattle.typed_csv.proofs.header.bad_column.Given as goal

abbrev pub invariant-loop-column : goal.invariant-loop-column
invariant-loop-column l = bad_column l.fields (fields_of l.names) ≡ bad_on l.fields (fields_of l.names) l.column

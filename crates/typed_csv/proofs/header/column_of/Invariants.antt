use Rattle.std.proofs.Common.{◌≡◌}
use Rattle.csv.specs.Records.{fields_of}
use Rattle.typed_csv.specs.Header.{column_of}
use Rattle.typed_csv.proofs.HeaderLemmas.{column_on}
use Rattle.typed_csv.proofs.header.column_of.Given as goal

abbrev pub invariant-loop-column : goal.invariant-loop-column
invariant-loop-column l = column_of (fields_of l.names) l.name ≡ column_on (fields_of l.names) l.column l.name

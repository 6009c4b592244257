use Rattle.std.proofs.Common.{◌≡◌, false, take}
use Rattle.csv.specs.Records.{fields_of}
use Rattle.table_schema.specs.Truth.{is_among}
use Rattle.typed_csv.proofs.header.is_earlier.Given as goal

abbrev pub invariant-loop-earlier : goal.invariant-loop-earlier
invariant-loop-earlier l = is_among (take l.earlier (fields_of l.names)) l.name ≡ false

use Rattle.std.proofs.Common.{◌≡◌, map, take}
use Rattle.row_records.specs.Records.{member_at}
use Rattle.row_records.proofs.records.members_of.Given as goal

abbrev pub invariant-loop-column : goal.invariant-loop-column
invariant-loop-column l = l.members.items ≡ map (member_at l.cells) (take l.column-index l.columns)

use Rattle.std.proofs.Common.{◌≡◌, map, take}
use Rattle.row_records.specs.Records.{member_at}
use Rattle.datastore_query.specs.Column.{projected}
use Rattle.portal_core.proofs.page.record_json.Given as goal

abbrev pub invariant-loop-column : goal.invariant-loop-column
invariant-loop-column l =
    l.members.items ≡ map (member_at (projected l.query.columns l.row)) (take l.column-index l.columns)

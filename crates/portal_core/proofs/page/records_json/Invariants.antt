use Rattle.std.proofs.Common.{◌≡◌, map, take}
use Rattle.row_records.specs.Records.{record_of}
use Rattle.datastore_query.specs.Column.{projected}
use Rattle.portal_core.proofs.page.records_json.Given as goal

abbrev pub invariant-loop-row : goal.invariant-loop-row
invariant-loop-row l =
    l.list.items ≡ map (record_of l.columns) (map (projected l.query.columns) (take l.row-index l.rows))

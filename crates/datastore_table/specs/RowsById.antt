-- Where rows are that are found by their `_id`. No public clause cites this.
use Rattle.std.specs.Prelude.{List}
use Rattle.datastore_table.specs.declared.row.Row.{Row}
use Rattle.datastore_table.specs.declared.rows_by_id.RowList.{RowList}
use Rattle.datastore_table.specs.declared.rows_by_id.RowList.TheVariants as list

-- the rows of either list
abbrev pub listed : RowList → List Row
listed (list.Slice rows) = rows.now
listed (list.Written rows) = rows.now

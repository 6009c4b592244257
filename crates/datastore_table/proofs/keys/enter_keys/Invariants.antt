use Rattle.std.proofs.Common.{◌⊎◌, ◌≤◌, drop, length}
use Rattle.portal_base.proofs.Unique.{IsIn}
use Rattle.datastore_table.specs.declared.row.Row.{Row}
use Rattle.datastore_table.specs.Keys.{IsLedToKey}
use Rattle.datastore_table.proofs.keys.enter_keys.Given as goal

abbrev pub invariant-loop-key : goal.invariant-loop-key
invariant-loop-key l = record {
  led : (key : Row) → IsIn key l.keys → IsIn key (drop l.key-index l.keys) ⊎ IsLedToKey l.index key;
  room : length (drop l.key-index l.keys) ≤ l.index.room;
}

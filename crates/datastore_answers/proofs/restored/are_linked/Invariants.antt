use Rattle.std.proofs.Common.{◌≡◌, ℕ, ◌<◌, drop, get_or, map}
use Rattle.std.specs.List.{list_all}
use Rattle.datastore_table.specs.Meets.{IsTable}
use Rattle.datastore_answers.specs.Linked.{is_linked}
use Rattle.datastore_answers.specs.Tables.{tables_in, without_room}
use Rattle.datastore_answers.specs.declared.resource_table.ResourceTable.{ResourceTable}
use Rattle.datastore_answers.proofs.restored.are_linked.Given as goal

abbrev pub invariant-loop-table : goal.invariant-loop-table
invariant-loop-table l = record {
  linked : list_all (λ t. is_linked (tables_in t.address.dataset (map without_room l.all)) t) l.tables
      ≡ list_all (λ t. is_linked (tables_in t.address.dataset (map without_room l.all)) t) (drop l.table-index l.tables);
  valid : (k : ℕ) → k < l.table-index → (d : ResourceTable) → IsTable (get_or l.tables k d).table.schema
      (get_or l.tables k d).table.rows (get_or l.tables k d).table.next_id;
}

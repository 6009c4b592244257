-- The tables that `Tables` can be restored from. What is restored is the list of the tables, ascending by address.
use Rattle.std.specs.Prelude.{Bool, ◌&&◌, List}
use Rattle.portal_base.specs.Ordered.{are_apart, ascending}
use Rattle.datastore_answers.specs.Consistent.{are_found, are_resolved}
use Rattle.datastore_answers.specs.Linked.{are_linked}
use Rattle.datastore_answers.specs.Order.{table_cmp}
use Rattle.datastore_answers.specs.declared.resource_table.ResourceTable.{ResourceTable}

-- Each foreign key has a target and fits it, and each reference in a row finds its row.
abbrev pub are_related : List ResourceTable → Bool
are_related tables = are_resolved tables && (are_found tables && are_linked tables)

-- No two tables have the same address, and the tables in order relate to each other in this way.
abbrev pub are_restorable : List ResourceTable → Bool
are_restorable tables = are_apart table_cmp tables && are_related (ascending table_cmp tables)

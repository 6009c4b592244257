use Rattle.std.proofs.Common.{◌≡◌, drop, map}
use Rattle.datastore_answers.specs.Linked.{links_hold}
use Rattle.datastore_answers.specs.Tables.{tables_in, without_room}
use Rattle.datastore_answers.proofs.restored.is_linked.Given as goal

abbrev pub invariant-loop-index : goal.invariant-loop-index
invariant-loop-index l =
    links_hold (tables_in l.table.address.dataset (map without_room l.all)) l.table 0 l.table.table.schema.foreign
    ≡ links_hold (tables_in l.table.address.dataset (map without_room l.all)) l.table l.index
    (drop l.index l.table.table.schema.foreign)

use Rattle.std.proofs.Common.{◌≡◌, drop}
use Rattle.table_schema.specs.Reading.{value_reading}
use Rattle.table_schema.specs.Values.{all_of}
use Rattle.table_schema.proofs.ValueLemmas.{read_on}
use Rattle.table_schema.proofs.options.cells_of.Given as goal

abbrev pub invariant-loop-item : goal.invariant-loop-item
invariant-loop-item l = all_of (value_reading l.kind) l.items ≡ read_on (value_reading l.kind) l.cells.items
    (drop l.item-index l.items)

use Rattle.std.proofs.Common.{◌≡◌, drop}
use Rattle.table_schema.specs.Keys.{foreign_key_in}
use Rattle.table_schema.specs.Values.{all_of}
use Rattle.table_schema.proofs.ValueLemmas.{read_on}
use Rattle.table_schema.proofs.keys.foreign_keys_in.Given as goal

abbrev pub invariant-loop-item : goal.invariant-loop-item
invariant-loop-item l = all_of (foreign_key_in l.columns l.key) l.items
    ≡ read_on (foreign_key_in l.columns l.key) l.foreign_keys.items (drop l.item-index l.items)

use Rattle.std.proofs.Common.{◌≡◌, ℕ, List, Option, Some, None, ap, find, refl, sym}
use Rattle.table_schema.specs.declared.cell.Cell.{Cell}
use Rattle.datastore_table.specs.declared.row.Row.{Row}
use Rattle.datastore_table.specs.Keys.{is_key_under}
use Rattle.datastore_table.specs.Put.{id_of}
use Rattle.datastore_table.proofs.Merged.{find-nothing}
use Rattle.datastore_table.proofs.keys.key_under.Goals as goal

none : (columns : List ℕ) (cells : List Cell) (keys : List Row) (id : Option ℕ) → id ≡ None
    → None ≡ id_of (find (is_key_under columns cells id) keys)
none columns cells keys None e = sym (ap id_of (find-nothing (is_key_under columns cells None) keys (λ key m. refl)))
none columns cells keys (Some id) e = absurd (cc)

pub returns-in-None : goal.returns-in-None
returns-in-None c = none c.args.columns.now c.args.cells.now c.args.keys.now c.args.id c.in-None.is

use Rattle.std.proofs.Common.{◌∙◌, ◌==◌, ◌&&◌, not, false, ap}
use Rattle.std.specs.List.{list_any}
use Rattle.std.specs.Option.{option_map_or}
use Rattle.datastore_table.specs.declared.row.Row.{Row}
use Rattle.datastore_table.specs.Meets.{has_cell_of}
use Rattle.datastore_table.proofs.meets.is_cell_twice.Goals as goal

pub returns-in-Some : goal.returns-in-Some
returns-in-Some c =
    c.has_cell_elsewhere.ensures
    ∙ ap (λ o. option_map_or
    (λ (row : Row). list_any (λ (x : Row). not (x.id == row.id) && has_cell_of c.args.column row x) c.args.rows.now) o
    false)
    c.in-Some.ensures

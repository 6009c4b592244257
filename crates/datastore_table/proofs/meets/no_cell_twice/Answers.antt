use Rattle.std.proofs.Common.{◌∙◌, ℕ, not, ap}
use Rattle.std.specs.List.{list_any}
use Rattle.digest_index.specs.declared.Further.{Further}
use Rattle.datastore_table.specs.Index.{is_twice}
use Rattle.datastore_table.specs.Meets.{has_cell_of}
use Rattle.datastore_table.proofs.RestoredLemmas.{cells_colliding}
use Rattle.datastore_table.proofs.meets.no_cell_twice.Goals as goal

pub returns : goal.returns
returns c =
    let column = c.args.column in
    let rows = c.args.rows.now in
    ap not (c.is_any_cell_twice.ensures ∙ ap (list_any (λ (e : Further ℕ). is_twice (has_cell_of column) rows e.number)) c.colliding.ensures)
    ∙ cells_colliding column rows c.args.index.now c.requires.ascending c.requires.indexed

use Rattle.std.proofs.Common.{ℕ, ◌∷◌, List, Some, sym, ap, ◌∙◌}
use Rattle.atomic_table.specs.Table.{rest}
use Rattle.portal_hall.specs.Turns.{Slot}
use Rattle.portal_hall.proofs.hall.Hall.take.Goals as goal

pub exchange-requires : goal.exchange-requires
exchange-requires g c =
    let h = c.requires.full in (
      c.requires.table,
      (
        Some h.0,
        h.1
            ∙ ap (λ (l : List (ℕ × Slot g.row.M.Denot g.row.M-Event.Denot)). (0, Some h.0) ∷ rest l) (sym h.1),
      ),
    )

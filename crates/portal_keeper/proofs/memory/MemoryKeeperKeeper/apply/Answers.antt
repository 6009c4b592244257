use Rattle.std.proofs.Common.{sym, ap, subst, ◌∙◌}
use Rattle.portal_keeper.specs.Rows.{AreInOrder}
use Rattle.portal_keeper.proofs.RowLemmas.{in_order-rows_after}
use Rattle.portal_keeper.proofs.memory.MemoryKeeperKeeper.apply.Goals as goal

pub returns-then-fails_next-clause-was_ordered : goal.returns-then-fails_next-clause-was_ordered
returns-then-fails_next-clause-was_ordered c = c.fails_next.ensures.ordered

pub returns-then-fails_next-clause-ordered : goal.returns-then-fails_next-clause-ordered
returns-then-fails_next-clause-ordered c =
    subst AreInOrder (sym (ap (λ k. k.rows) c.fails_next.ensures.after)) c.fails_next.ensures.ordered

pub returns-in-Ok-clause-was_ordered : goal.returns-in-Ok-clause-was_ordered
returns-in-Ok-clause-was_ordered c = c.fails_next.ensures.ordered

pub returns-in-Ok-clause-ordered : goal.returns-in-Ok-clause-ordered
returns-in-Ok-clause-ordered c =
    subst AreInOrder (sym (ap (λ k. k.rows) c.in-Ok.ensures.changed))
    (in_order-rows_after c.as_slice.result.now _
    (subst AreInOrder (sym (ap (λ k. k.rows) c.fails_next.ensures.after)) c.fails_next.ensures.ordered))

pub returns-in-Err-clause-was_ordered : goal.returns-in-Err-clause-was_ordered
returns-in-Err-clause-was_ordered c = c.fails_next.ensures.ordered

pub returns-in-Err-clause-ordered : goal.returns-in-Err-clause-ordered
returns-in-Err-clause-ordered c =
    subst AreInOrder (sym (ap (λ k. k.rows) (c.in-Err.ensures.refused ∙ c.fails_next.ensures.after)))
    c.fails_next.ensures.ordered

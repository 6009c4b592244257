use Rattle.std.proofs.Common.{ap, subst}
use Rattle.portal_keeper.specs.Rows.{AreInOrder}
use Rattle.portal_keeper.proofs.memory.MemoryKeeper.fails_next.Goals as goal

pub returns-clause-ordered : goal.returns-clause-ordered
returns-clause-ordered c = subst AreInOrder (ap (λ k. k.rows) c.self.view_is) c.self.invariant

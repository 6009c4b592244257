use Rattle.portal_keeper.proofs.memory.MemoryKeeperKeeper.load.Goals as goal

pub returns-then-fails_next-clause-ordered : goal.returns-then-fails_next-clause-ordered
returns-then-fails_next-clause-ordered c = c.fails_next.ensures.ordered

pub returns-in-Ok-clause-ordered : goal.returns-in-Ok-clause-ordered
returns-in-Ok-clause-ordered c = c.fails_next.ensures.ordered

pub returns-in-Err-clause-ordered : goal.returns-in-Err-clause-ordered
returns-in-Err-clause-ordered c = c.fails_next.ensures.ordered

use Rattle.std.proofs.Common.{arith}
use Rattle.search_index.proofs.EntryLemmas.{row_past, stands_without}
use Rattle.search_index.proofs.index.Index.remove.Goals as goal

pub returns-then-number-len-clause-stands : goal.returns-then-number-len-clause-stands
returns-then-number-len-clause-stands c =
    stands_without c.args.number c.args.self.now c.set.new.self c.set.ensures.cleared

pub returns-else-number-len-clause-removed : goal.returns-else-number-len-clause-removed
returns-else-number-len-clause-removed c =
    row_past c.args.number c.self.inside.rows.items c.args.self.now c.self.view_is
    (grind (arith, c.if-number-len.false, c.len.ensures, c.self.inside.rows.ok.0))

pub returns-else-number-len-clause-stands : goal.returns-else-number-len-clause-stands
returns-else-number-len-clause-stands c =
    stands_without c.args.number c.args.self.now c.args.self.now (returns-else-number-len-clause-removed c)

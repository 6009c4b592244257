use Rattle.packages.specs.Shelf.{datasets_of}
use Rattle.portal_core.specs.Restored.{IsTableOf}
use Rattle.portal_core.proofs.RestoredTable.{zip-step, zip-stopped}
use Rattle.portal_core.proofs.restored_tables.each_table.Goals as goal

pub returns-in_default-clause-none : goal.returns-in_default-clause-none
returns-in_default-clause-none c =
    zip-stopped (IsTableOf (datasets_of c.args.shelf.now)) c.args.kept c.loop-one.invariant.0
    c.loop-one.one-iterator.rest.items c.next.new.self.rest.items c.in-Some.one c.loop-one.invariant.1
    c.in-Some.ensures.steps.0 (rw c.in_default.is at c.in_ok-table.ensures.none)

pub loop-one-preserved : goal.loop-one-preserved
loop-one-preserved c =
    zip-step (IsTableOf (datasets_of c.args.shelf.now)) c.args.kept c.loop-one.invariant.0
    c.loop-one.one-iterator.rest.items c.next.new.self.rest.items c.loop-one.tables.items c.push.new.self.items
    c.in-Some.one c.in-Some-2.table c.loop-one.invariant.1 c.loop-one.invariant.2 c.in-Some.ensures.steps.0
    (rw c.in-Some-2.is at c.in_ok-table.ensures.table) c.in_ok-push.ensures.items

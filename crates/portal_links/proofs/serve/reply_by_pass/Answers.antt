-- The reply and the index are those of the act.
use Rattle.portal_events.specs.declared.event.Event.TheVariants.{Call as a_call}
use Rattle.portal_links.proofs.Acting.{acted_failed, acted_gains, acted_of_call, acted_replies, gained_nothing}
use Rattle.portal_links.proofs.serve.reply_by_pass.Goals as goal

pub returns-in-Done-clause-pass : goal.returns-in-Done-clause-pass
returns-in-Done-clause-pass g c =
    let m = g.M.Machine in
    let a = c.in-Done.ensures in
    acted_gains m.core m.step m.IsOutOfMemory m.IsFault c.args.hall.now c.args.pass.now c.act.new.pass (a_call c.args.call)
    c.in-Done.reply _ c.in-Done.entry a.pass.0 a.pass.1 a.seen a.mark a.entry a.no_entry

pub returns-in-Done-clause-reply : goal.returns-in-Done-clause-reply
returns-in-Done-clause-reply g c =
    let m = g.M.Machine in
    let a = c.in-Done.ensures in
    acted_replies m.core m.step m.IsOutOfMemory m.IsFault c.args.hall.now c.args.pass.now c.act.new.pass
    (a_call c.args.call) c.in-Done.reply _ c.in-Done.entry c.an_entry_is_replied.ensures c.a_refusal_is_replied.ensures
    a.entry a.no_entry

pub returns-in-Done-clause-of_call : goal.returns-in-Done-clause-of_call
returns-in-Done-clause-of_call g c =
    let m = g.M.Machine in
    let a = c.in-Done.ensures in
    acted_of_call m.core m.step m.IsOutOfMemory m.IsFault c.args.hall.now c.args.pass.now c.act.new.pass c.args.call
    c.requires.machine c.in-Done.reply _ c.in-Done.entry a.entry a.no_entry

pub returns-in-Done-clause-store_failed : goal.returns-in-Done-clause-store_failed
returns-in-Done-clause-store_failed g c =
    let m = g.M.Machine in
    let a = c.in-Done.ensures in
    acted_failed m.core m.step m.IsOutOfMemory m.IsFault c.args.hall.now c.args.pass.now c.act.new.pass c.args.call
    c.requires.machine c.in-Done.reply _ c.in-Done.entry a.entry a.no_entry

pub returns-in-OutOfMemory-clause-none : goal.returns-in-OutOfMemory-clause-none
returns-in-OutOfMemory-clause-none g c = λ none.
    let a = c.in-OutOfMemory.ensures in
    gained_nothing c.args.hall.now c.args.pass.now c.act.new.pass a.pass.0 a.pass.1 a.seen a.back.1 a.mark

use Rattle.harvest_pool.proofs.MakingLemmas.{fault-answer, kept-answer, made-answer}
use Rattle.harvest_pool.proofs.making.make.Goals as goal

pub returns-clause-made : goal.returns-clause-made
returns-clause-made g c =
    let m = g.M.Machine in
    made-answer m.step m.IsOutOfMemory m.IsFault c.requires (m.core c.args.machine.now) (m.core c.act-reply.new.self)
    c.args.step _ (m.faults c.args.machine.now) (m.faults c.act-reply.new.self) _ c.act-reply.ensures.accepted
    c.act-reply.ensures.refused c.act-reply.ensures.kept c.answer_of.result c.answer_of.ensures

pub returns-clause-kept : goal.returns-clause-kept
returns-clause-kept g c =
    let m = g.M.Machine in
    kept-answer m.step m.IsOutOfMemory m.IsFault c.requires (m.core c.args.machine.now) (m.core c.act-reply.new.self)
    c.args.step _ (m.faults c.args.machine.now) (m.faults c.act-reply.new.self) _ c.act-reply.ensures.accepted
    c.act-reply.ensures.kept c.answer_of.result c.answer_of.ensures

pub returns-clause-fault : goal.returns-clause-fault
returns-clause-fault g c =
    let m = g.M.Machine in
    fault-answer m.step m.IsOutOfMemory m.IsFault c.requires (m.core c.args.machine.now) (m.core c.act-reply.new.self)
    c.args.step _ (m.faults c.args.machine.now) (m.faults c.act-reply.new.self) _ c.act-reply.ensures.accepted
    c.act-reply.ensures.refused c.answer_of.result c.answer_of.ensures

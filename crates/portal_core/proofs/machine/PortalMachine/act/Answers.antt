-- By the reply.
use Rattle.std.proofs.Common.{◌∙◌, sym}
use Rattle.portal_core.proofs.MachineLemmas.{change_made, no_change}
use Rattle.portal_core.proofs.machine.PortalMachine.act.Goals as goal

pub returns-clause-accepted : goal.returns-clause-accepted
returns-clause-accepted g c = λ accepted.
    change_made c.args.self.now.state c.act-reply.new.self.state c.args.event.now c.act-reply.result c.act-reply.ensures.reply
    c.act-reply.ensures.state (sym c.is_change-is_accepted.ensures ∙ accepted)

pub returns-clause-refused : goal.returns-clause-refused
returns-clause-refused g c = λ refused.
    (no_change c.args.self.now.state c.act-reply.new.self.state c.args.event.now c.act-reply.result c.act-reply.ensures.reply
    c.act-reply.ensures.state c.act-reply.ensures.failed c.act-reply.ensures.memory c.act-reply.ensures.fault
    (sym c.is_change-is_accepted.ensures ∙ refused)).0

pub returns-clause-kept : goal.returns-clause-kept
returns-clause-kept g c = λ refused.
    (no_change c.args.self.now.state c.act-reply.new.self.state c.args.event.now c.act-reply.result c.act-reply.ensures.reply
    c.act-reply.ensures.state c.act-reply.ensures.failed c.act-reply.ensures.memory c.act-reply.ensures.fault
    (sym c.is_change-is_accepted.ensures ∙ refused)).1

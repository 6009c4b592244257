-- What is told is the text of the reply.
use Rattle.std.proofs.Common.{Ok}
use Rattle.portal_hall.specs.Passes.{opening, seen}
use Rattle.portal_links.proofs.Acting.{tells_reply, told_phrase}
use Rattle.portal_links.proofs.serve.tell.Goals as goal

pub returns-in-Some-clause-tells : goal.returns-in-Some-clause-tells
returns-in-Some-clause-tells g c =
    let m = g.M.Machine in
    tells_reply m.step m.IsOutOfMemory m.IsFault (m.core (opening c.args.hall.now)) (seen c.args.pass.now)
    (seen c.reply_by_pass.new.pass) c.args.name.now c.args.call c.in-Ok.call c.in-Some.field-0.reply
    c.in-Some.field-0.entry c.text_of.result c.in-Ok.is c.in-Some.ensures.reply c.text_of.ensures

pub returns-in-Some-clause-phrase : goal.returns-in-Some-clause-phrase
returns-in-Some-clause-phrase g c =
    told_phrase c.args.name.now (Ok c.in-Some.field-0.reply) c.text_of.result c.text_of.ensures

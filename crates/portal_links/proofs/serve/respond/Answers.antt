-- What was told of the call that was read was told of the call of the request.
use Rattle.std.proofs.Common.{List, ℕ, subst}
use Rattle.portal_hall.specs.Passes.{opening, seen}
use Rattle.portal_links.proofs.Acting.{tells_asked}
use Rattle.portal_links.specs.Asked.{call_in, name_in}
use Rattle.portal_links.specs.ByPass.{Tells}
use Rattle.portal_links.proofs.serve.respond.Goals as goal

pub returns-clause-responds : goal.returns-clause-responds
returns-clause-responds g c =
    let m = g.M.Machine in
    let told = c.tell-told.result in
    let tells = c.tell-told.ensures.tells in
    let asked = tells_asked m.step m.IsOutOfMemory m.IsFault (m.core (opening c.args.hall.now)) (seen c.args.pass.now)
    (seen c.tell-told.new.pass) (name_in c.args.incoming.now)
    (call_in c.args.tokens.now c.args.moment c.args.nonce.0 c.args.incoming.now) c.call_in-call.result tells.0 told.entry
    told.text c.call_in-call.ensures.value c.call_in-call.ensures.fault c.tell-told.ensures.memory
    (subst (λ (name : List ℕ). Tells m.step m.IsOutOfMemory m.IsFault (m.core (opening c.args.hall.now))
    (seen c.args.pass.now) (seen c.tell-told.new.pass) name c.call_in-call.result tells.0 told.entry told.text)
    c.name_in.ensures tells.1) in
    (asked.0, told.text, asked.1, c.write_told-served.ensures.writes)

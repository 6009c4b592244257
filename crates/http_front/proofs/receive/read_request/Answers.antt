use Rattle.std.proofs.Common.{refl}
use Rattle.http_front.proofs.LeavesLemmas.{leaves_asked, leaves_refused}
use Rattle.http_front.proofs.ReceiveLemmas.{request_received, request_refused}
use Rattle.http_front.proofs.receive.read_request.Goals as goal

pub returns-in-Ok-clause-request : goal.returns-in-Ok-clause-request
returns-in-Ok-clause-request g c =
    request_received _ (g.K.Link.to_come c.args.link.now) c.args.buffer.now _ _ c.args.count c.in-Ok.action_target
    c.incoming_of.result c.requires.found c.split_at.ensures.front c.split_at.ensures.back c.in-Ok.ensures.asks
    c.incoming_of.ensures.gives

pub returns-in-Err-clause-request : goal.returns-in-Err-clause-request
returns-in-Err-clause-request g c =
    request_refused _ (g.K.Link.to_come c.args.link.now) c.args.buffer.now _ c.args.count c.in-Err.fault
    c.requires.found c.split_at.ensures.front c.in-Err.ensures.asks

pub returns-in-Ok-clause-leaves : goal.returns-in-Ok-clause-leaves
returns-in-Ok-clause-leaves g c =
    leaves_asked _ c.args.buffer.now _ _ c.args.count c.in-Ok.action_target c.incoming_of.result
    (g.K.Link.to_come c.args.link.now) (g.K.Link.to_come c.incoming_of.new.link) c.requires.found c.requires.few
    c.split_at.ensures.front c.split_at.ensures.back c.in-Ok.ensures.asks c.incoming_of.ensures.reads
    c.in-Ok.ensures.short c.incoming_of.ensures.body c.incoming_of.ensures.late

pub returns-in-Err-clause-leaves : goal.returns-in-Err-clause-leaves
returns-in-Err-clause-leaves g c =
    leaves_refused c.args.buffer.now c.args.count c.requires.found c.requires.few _ (g.K.Link.to_come c.args.link.now)
    (g.K.Link.to_come c.args.link.now) c.in-Err.fault c.in-Err.ensures.own refl

use Rattle.http_front.proofs.LeavesLemmas.{leaves_all, leaves_no_head}
use Rattle.http_front.proofs.ReceiveLemmas.{all_received}
use Rattle.http_front.proofs.receive.receive.Goals as goal

pub returns-in-Ok-clause-request : goal.returns-in-Ok-clause-request
returns-in-Ok-clause-request g c =
    all_received _ (g.K.Link.to_come c.args.link.now)
    (g.K.Link.to_come c.read_head.new.link) c.read_head.new.buffer.items
    _ c.read_request.result c.in-Ok.ensures.gives c.as_slice.ensures.value c.read_request.ensures.request

pub returns-in-Ok-clause-leaves : goal.returns-in-Ok-clause-leaves
returns-in-Ok-clause-leaves g c =
    leaves_all _ (g.K.Link.to_come c.args.link.now) (g.K.Link.to_come c.read_head.new.link)
    (g.K.Link.to_come c.read_request.new.link) c.read_head.new.buffer.items _ c.read_request.result
    c.in-Ok.ensures.gives c.as_slice.ensures.value c.read_request.ensures.leaves

pub returns-clause-leaves : goal.returns-clause-leaves
returns-clause-leaves g c =
    leaves_no_head _ (g.K.Link.to_come c.args.link.now) (g.K.Link.to_come c.read_head.new.link) c.in-Err.fault
    c.in-Err.ensures.lost c.in-Err.ensures.none

use Rattle.std.proofs.Common.{◌≤◌, length, arith}
use Rattle.http_front.proofs.ReplyLemmas.{full_has_none}
use Rattle.http_front.proofs.reply.read_reply.Goals as goal

pub returns-clause-none : goal.returns-clause-none
returns-clause-none g c none =
    let inv = c.loop-alloc.invariant in
    let full : 16384 ≤ length c.loop-alloc.buffer.items = omega (arith, c.loop-alloc-test.false, c.len.ensures) in
    full_has_none (g.K.Link.to_come c.args.link.now)
    (g.K.Link.to_come c.loop-alloc.link) c.loop-alloc.buffer.items inv.gives
    full (inv.full full)

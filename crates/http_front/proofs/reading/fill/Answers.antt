use Rattle.std.proofs.Common.{◌≤◌, ◌<◌, ◌+◌, ◌-◌, ◌++◌, arith, ap, length}
use Rattle.std.proofs.lemmas.Result.{err_from_is_err_and}
use Rattle.http_front.proofs.TakenLemmas.{body_lost}
use Rattle.http_front.proofs.reading.fill.Goals as goal

pub returns-in_err-more-clause-reads : goal.returns-in_err-more-clause-reads
returns-in_err-more-clause-reads g c =
    let inv = c.loop-link.invariant in
    let some : 0 < c.args.count - c.len-in-loop-link.result =
    omega (arith, c.loop-link-test.true, c.len.ensures, c.len-in-loop-link.ensures) in
    let short : length (c.args.buffer.now.items ++ inv.read) + (c.args.count - c.len-in-loop-link.result)
    ≤ c.args.count = omega (arith, inv.short, ap length inv.joined, c.len-in-loop-link.ensures) in
    let p = err_from_is_err_and c.from_residual.result c.from_residual.ensures.1 in
    rw (p.1, p.2) (body_lost c.args.count c.args.buffer.now.items (g.K.Link.to_come c.args.link.now)
    (g.K.Link.to_come c.loop-link.link) (g.K.Link.to_come c.read_more.new.link) inv.read
    (c.args.count - c.len-in-loop-link.result) c.in_err-more.field-0.0 inv.gives short some c.in_err-more.ensures.lost
    c.in_err-more.ensures.fault)

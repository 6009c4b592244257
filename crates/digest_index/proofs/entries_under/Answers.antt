-- The entries of a digest lie between the two counts.
use Rattle.std.proofs.Common.{◌≤◌, ◌∙◌, ap, drop, arith}
use Rattle.digest_index.proofs.Entries.{run_is, run_starts}
use Rattle.digest_index.proofs.entries_under.Goals as goal

pub split_at-requires-2 : goal.split_at-requires-2
split_at-requires-2 g c =
    let starts : c.count_below-start.result ≤ c.count_up_to-end.result =
    run_starts c.args.digest c.count_below-start.result c.count_up_to-end.result c.args.further.now
    c.count_below-start.ensures.point.0 c.count_up_to-end.ensures.point.1 c.count_below-start.ensures.within in
    omega (arith, starts, c.split_at.ensures.front_len)

pub returns : goal.returns
returns g c =
    c.split_at-2.ensures.back
    ∙ ap (λ l. drop c.count_below-start.result l) c.split_at.ensures.front
    ∙ run_is c.args.digest c.count_below-start.result c.count_up_to-end.result c.args.further.now
    c.count_below-start.ensures.point.0 c.count_below-start.ensures.point.1
    c.count_up_to-end.ensures.point.0 c.count_up_to-end.ensures.point.1

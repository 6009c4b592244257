use Rattle.std.proofs.Common.{◌≤◌, length, sym, arith}
use Rattle.std.proofs.lemmas.List.{take_all}
use Rattle.harvest_results.proofs.dataset.first_resources.Goals as goal

pub returns-in-None-clause-first : goal.returns-in-None-clause-first
returns-in-None-clause-first c =
    let outside = c.in-None.ensures.lookup.0 in
    let short : length c.args.resources.now ≤ 200 = omega arith in
    sym (take_all 200 c.args.resources.now short)

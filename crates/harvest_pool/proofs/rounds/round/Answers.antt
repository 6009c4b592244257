use Rattle.harvest_pool.proofs.WholeLemmas.{round-ends, round-reports}
use Rattle.harvest_pool.proofs.rounds.round.Goals as goal

pub returns-clause-ended : goal.returns-clause-ended
returns-clause-ended g c =
    round-ends g.M.Machine.step _ _ _ _ _ c.round_by_one.result c.round_by_one.ensures.round

pub returns-clause-reported : goal.returns-clause-reported
returns-clause-reported g c =
    round-reports g.M.Machine.step _ _ _ _ _ c.round_by_one.result c.round_by_one.ensures.round

-- The round of a machine, on the portal.
use Rattle.portal_serve.proofs.Rounding.{makes_round, portal_answers}
use Rattle.portal_serve.proofs.round.make_round.Goals as goal

pub round_on-requires-clause-machine : goal.round_on-requires-clause-machine
round_on-requires-clause-machine g c = portal_answers

pub returns-clause-makes : goal.returns-clause-makes
returns-clause-makes g c =
    makes_round _ _ _ _ _ _ _ c.requires.fetchers.0 c.round_on.ensures.fetchers c.round_on.ensures.round

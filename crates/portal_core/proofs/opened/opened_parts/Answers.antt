-- The rows that the keeper had before are those that it gave.
use Rattle.portal_core.proofs.OpeningLemmas.{refused_shown}
use Rattle.portal_core.proofs.opened.opened_parts.Goals as goal

pub returns-then-is_empty-clause-refused : goal.returns-then-is_empty-clause-refused
returns-then-is_empty-clause-refused g c =
    refused_shown c.begin.result (g.K.Keeper.rows c.args.keeper.now) (g.K.Keeper.rows c.load.new.self)
    (g.K.Keeper.rows c.begin.new.keeper) c.in_ok-rows.rows c.in_ok-rows.ensures.rows c.in_ok-rows.ensures.kept
    c.begin.ensures.refused

-- The keeper has the rows of the opening.
use Rattle.std.proofs.Common.{List, subst}
use Rattle.portal_keeper.specs.Keeping.{ChangesRows}
use Rattle.portal_keeper.specs.declared.change.Change.{Change}
use Rattle.portal_core.proofs.OpeningLemmas.{begun_kept}
use Rattle.portal_core.proofs.opened.begin.Goals as goal

pub returns-clause-kept : goal.returns-clause-kept
returns-clause-kept g c =
    begun_kept c.args.opening.now c.in_ok-parts.parts (g.K.Keeper.rows c.args.keeper.now)
    (g.K.Keeper.rows c.apply.new.self) c.in_ok-parts.ensures.consistent c.in_ok-parts.ensures.state c.requires.empty
    (subst (λ (changes : List Change). ChangesRows (g.K.Keeper.rows c.args.keeper.now) changes
    (g.K.Keeper.rows c.apply.new.self)) c.in_ok-puts.ensures c.in_ok-apply.ensures.changed)

-- The keeper made the changes of rows, and the parts make the change.
use Rattle.std.proofs.Common.{List, subst}
use Rattle.portal_keeper.specs.Keeping.{ChangesRows}
use Rattle.portal_keeper.specs.declared.change.Change.{Change}
use Rattle.portal_state.proofs.StoreLemmas.{applied_kept, made_planned}
use Rattle.portal_state.proofs.parts.Parts.apply.Goals as goal
use Rattle.portal_state.specs.Parts.{state_of}
use Rattle.portal_state.specs.Planned.{planned_of}

pub returns-clause-parts : goal.returns-clause-parts
returns-clause-parts g c =
    let planned = planned_of c.args.plan in
    let call = c.args.call.now in
    let before = c.args.self.now in
    let after = c.commit.new.self in
    let prepared = c.in_ok-prepared.prepared in
    applied_kept planned call before after (g.K.Keeper.rows c.args.keeper.now) (g.K.Keeper.rows c.apply.new.self)
    c.requires.kept c.requires.fit c.requires.unused c.in_ok-changes.ensures.sized
    (made_planned planned call prepared (state_of before) (state_of c.prepare.new.self) (state_of after)
    c.in_ok-prepared.ensures.same c.in_ok-prepared.ensures.change c.in_ok-prepared.ensures.charge c.commit.ensures.state)
    c.commit.ensures.shelved
    (subst (λ (changes : List Change). ChangesRows (g.K.Keeper.rows c.args.keeper.now) changes
    (g.K.Keeper.rows c.apply.new.self)) c.in_ok-changes.ensures.changes c.in_ok-apply.ensures.changed)

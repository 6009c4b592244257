use Rattle.std.proofs.Common.{◌++◌, ◌∙◌, List, ap}
use Rattle.portal_keeper.specs.declared.change.Change.{Change}
use Rattle.portal_state.specs.ChangedRows.{changes_of_plan}
use Rattle.portal_state.specs.Planned.{planned_of}
use Rattle.portal_state.proofs.Gone.{goes_by_name}
use Rattle.portal_state.proofs.PlannedRows.{plan-changes, planned-sized}
use Rattle.portal_state.proofs.Shelving.{unrefused}
use Rattle.portal_state.proofs.parts.Parts.row_changes.Goals as goal

pub push_row_changes-requires-clause-unrefused : goal.push_row_changes-requires-clause-unrefused
push_row_changes-requires-clause-unrefused c =
    unrefused (planned_of c.args.plan.now) c.args.self.now c.args.call.now c.requires.consistent c.requires.fit
    c.requires.unused

pub push_row_changes-requires-clause-named : goal.push_row_changes-requires-clause-named
push_row_changes-requires-clause-named c =
    goes_by_name (planned_of c.args.plan.now) c.args.self.now c.args.call.now c.requires.consistent c.requires.fit
    c.requires.unused

pub returns-clause-changes : goal.returns-clause-changes
returns-clause-changes c =
    c.from.ensures
    ∙ c.in_ok-push_row_changes.ensures.changes
    ∙ ap (λ (l : List Change). l ++ changes_of_plan c.args.plan.now c.args.self.now) c.new-changes.ensures.items
    ∙ plan-changes c.args.plan.now c.args.self.now c.args.call.now c.requires.consistent c.requires.sized
    c.requires.fit c.requires.planned c.requires.unused c.in_ok-push_row_changes.ensures.typed

pub returns-clause-sized : goal.returns-clause-sized
returns-clause-sized c =
    planned-sized c.args.plan.now c.args.self.now c.args.call.now c.requires.consistent c.requires.sized c.requires.fit
    c.requires.planned c.in_ok-push_row_changes.ensures.typed

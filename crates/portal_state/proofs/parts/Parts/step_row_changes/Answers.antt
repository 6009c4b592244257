-- What is added are the changes for the step.
use Rattle.std.proofs.Common.{◌++◌, ◌∙◌, ℕ, List, ap, ap₂, map, sym}
use Rattle.std.specs.Option.{option_copied}
use Rattle.harvest_sources.specs.declared.step.StepReply.{StepReply}
use Rattle.portal_keeper.specs.declared.change.Change.{Change}
use Rattle.portal_state.specs.ChangedRows.{changes_of_reply, changes_of_step, removal_at_id}
use Rattle.portal_state.specs.Harvest.{harvest_change}
use Rattle.portal_state.specs.Parts.{state_of}
use Rattle.portal_state.proofs.StepRows.{step-changes, step-sized}
use Rattle.portal_state.proofs.parts.Parts.step_row_changes.Goals as goal

pub returns-clause-changes : goal.returns-clause-changes
returns-clause-changes c =
    let state = state_of c.args.self.now in
    let step = c.args.step.now in
    c.from.ensures
    ∙ c.in_ok-push_step_changes.ensures
    ∙ ap (λ (l : List Change). l
    ++ changes_of_step (option_copied c.args.put) c.args.gone.now c.args.reply.now state.sources state.datasets)
    c.new-changes.ensures.items
    ∙ ap (λ (l : List Change). l
    ++ map removal_at_id c.args.gone.now ++ changes_of_reply c.args.reply.now state.sources) c.requires.put
    ∙ ap₂ (λ (gone : List (List ℕ)) (reply : StepReply). changes_of_step (harvest_change step state).put gone reply
    state.sources state.datasets) c.requires.gone c.requires.reply
    ∙ sym (step-changes step state c.requires.consistent.valid c.requires.sized)

pub returns-clause-sized : goal.returns-clause-sized
returns-clause-sized c =
    step-sized c.args.step.now (state_of c.args.self.now) c.requires.consistent.valid c.requires.sized

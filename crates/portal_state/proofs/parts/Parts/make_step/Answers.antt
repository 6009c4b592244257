-- What is found and prepared does what the step puts, drops and answers, and the keeper makes the changes of its rows.
use Rattle.std.proofs.Common.{◌≡◌, ◌∙◌, List, Option, Result, Err, ap, map, subst}
use Rattle.std.proofs.lemmas.Result.{err_from_is_err_and}
use Rattle.packages.specs.declared.package.Package.{Package}
use Rattle.portal_keeper.specs.Keeping.{ChangesRows}
use Rattle.portal_keeper.specs.declared.change.Change.{Change}
use Rattle.portal_state.specs.ChangedRows.{changes_of_put}
use Rattle.portal_state.specs.Parts.{state_of}
use Rattle.portal_state.specs.declared.act_fault.ActFault.TheVariants.{Keeper}
use Rattle.portal_state.proofs.HarvestNames.{placed-behind}
use Rattle.portal_state.proofs.StepParts.{made-on, step-gone, step-put, step-reply}
use Rattle.portal_state.proofs.StoreLemmas.{failed_fault, stepped_kept, unmade_kept}
use Rattle.portal_state.proofs.UnchangedPuts.{left-changes, left-puttable, left-with}
use Rattle.portal_state.proofs.parts.Parts.make_step.Goals as goal

err_same : {T E : Type 0} (r : Result T E) (a b : E) → r ≡ Err a → r ≡ Err b → a ≡ b
err_same r a b one other = cc

pub step_row_changes-requires-clause-accepted : goal.step_row_changes-requires-clause-accepted
step_row_changes-requires-clause-accepted g c = rw c.reply.ensures c.requires.accepted

pub step_row_changes-requires-clause-reply : goal.step_row_changes-requires-clause-reply
step_row_changes-requires-clause-reply g c =
    c.reply.ensures
    ∙ step-reply c.args.step.now (state_of c.args.self.now) c.args.prepared c.requires.prepared

pub step_row_changes-requires-clause-put : goal.step_row_changes-requires-clause-put
step_row_changes-requires-clause-put g c =
    let state = state_of c.args.self.now in
    left-changes c.args.step.now state c.args.found _ c.requires.kept.consistent.valid c.requires.found
    (c.as_ref.ensures.value ∙ c.unless_unchanged-put.ensures)
    ∙ ap (λ (put : Option Package). changes_of_put put state.datasets)
    (step-put c.args.step.now state c.args.prepared c.requires.prepared c.requires.accepted)

pub step_row_changes-requires-clause-placed : goal.step_row_changes-requires-clause-placed
step_row_changes-requires-clause-placed g c =
    placed-behind c.args.self.now.shelf c.unless_unchanged-put.result c.as_ref.result c.as_ref.ensures.value
    (left-puttable c.args.step.now c.args.self.now c.args.found c.unless_unchanged-put.result c.requires.kept.consistent
    c.requires.found c.unless_unchanged-put.ensures)

pub step_row_changes-requires-clause-gone : goal.step_row_changes-requires-clause-gone
step_row_changes-requires-clause-gone g c =
    c.requires.found.gone
    ∙ ap (map (λ (d : Package). d.id))
    (step-gone c.args.step.now (state_of c.args.self.now) c.args.prepared c.requires.prepared c.requires.accepted)

pub prepare_put-requires-clause-puttable : goal.prepare_put-requires-clause-puttable
prepare_put-requires-clause-puttable g c =
    left-puttable c.args.step.now c.args.self.now c.args.found c.unless_unchanged-put.result c.requires.kept.consistent
    c.requires.found c.unless_unchanged-put.ensures

pub commit_step-requires-clause-ready : goal.commit_step-requires-clause-ready
commit_step-requires-clause-ready g c = rw c.prepare_put.ensures.sources c.requires.ready

pub returns-in_err-apply-clause-parts : goal.returns-in_err-apply-clause-parts
returns-in_err-apply-clause-parts g c =
    unmade_kept (g.K.Keeper.rows c.args.keeper.now) (g.K.Keeper.rows c.apply.new.self) c.args.self.now
    c.prepare_put.new.self c.requires.kept c.in_ok-put.ensures.same c.in_ok-put.ensures.shelved
    c.in_err-apply.ensures.refused

pub returns-in_err-apply-clause-kept : goal.returns-in_err-apply-clause-kept
returns-in_err-apply-clause-kept g c =
    let p = err_from_is_err_and c.from_residual-in_err-apply.result c.from_residual-in_err-apply.ensures.1 in
    rw p.1 c.in_ok-put.ensures.same

pub returns-in_err-apply-clause-fault : goal.returns-in_err-apply-clause-fault
returns-in_err-apply-clause-fault g c = λ is_keeper.
    let p = err_from_is_err_and c.from_residual-in_err-apply.result c.from_residual-in_err-apply.ensures.1 in
    c.in_err-apply.ensures.failed (ap Err (failed_fault _ p.0 p.2 (err_same _ p.0 Keeper p.1 is_keeper)))

pub returns-clause-state : goal.returns-clause-state
returns-clause-state g c =
    made-on c.args.step.now c.args.prepared _ c.args.found.gone (state_of c.args.self.now)
    (state_of c.prepare_put.new.self) (state_of c.commit_step.new.self) c.prepare_put.ensures.same c.requires.prepared
    c.requires.accepted
    (left-with c.args.step.now (state_of c.args.self.now) c.args.found _ c.requires.kept.consistent.valid
    c.requires.found (c.in_ok-put.ensures.put ∙ c.unless_unchanged-put.ensures))
    c.requires.found.gone c.commit_step.ensures.state

pub returns-clause-reply : goal.returns-clause-reply
returns-clause-reply g c =
    c.commit_step.ensures.reply
    ∙ step-reply c.args.step.now (state_of c.args.self.now) c.args.prepared c.requires.prepared

pub returns-clause-parts : goal.returns-clause-parts
returns-clause-parts g c =
    stepped_kept c.args.step.now c.args.self.now c.commit_step.new.self (g.K.Keeper.rows c.args.keeper.now)
    (g.K.Keeper.rows c.apply.new.self) c.requires.kept c.in_ok-changes.ensures.sized
    (made-on c.args.step.now c.args.prepared _ c.args.found.gone (state_of c.args.self.now)
    (state_of c.prepare_put.new.self) (state_of c.commit_step.new.self) c.prepare_put.ensures.same c.requires.prepared
    c.requires.accepted
    (left-with c.args.step.now (state_of c.args.self.now) c.args.found _ c.requires.kept.consistent.valid
    c.requires.found (c.in_ok-put.ensures.put ∙ c.unless_unchanged-put.ensures))
    c.requires.found.gone c.commit_step.ensures.state)
    c.commit_step.ensures.shelved
    (subst (λ (changes : List Change). ChangesRows (g.K.Keeper.rows c.args.keeper.now) changes
    (g.K.Keeper.rows c.apply.new.self)) c.in_ok-changes.ensures.changes c.in_ok-apply.ensures.changed)

-- What is accepted is fit to be made.
use Rattle.std.proofs.Common.{sym, ap, ◌∙◌, subst}
use Rattle.datastore_answers.specs.TableAnswers.{map_answer}
use Rattle.portal_state.proofs.Answering.{accepted_fit}
use Rattle.portal_state.proofs.StoreLemmas.{decided_kept}
use Rattle.portal_core.proofs.portal.act_on_parts.Goals as goal
use Rattle.portal_state.specs.Planned.{planned_of}
use Rattle.portal_state.specs.Fit.{IsFit}
use Rattle.portal_calls.specs.Answer.{AcceptsOnly}
use Rattle.portal_state.specs.Parts.{IsPlanned, state_of}
use Rattle.portal_state.specs.State.{State}
use Rattle.portal_state.specs.View.{view_of}

pub decide-requires : goal.decide-requires
decide-requires g c = c.requires.consistent

pub apply_if_unused-requires : goal.apply_if_unused-requires
apply_if_unused-requires g c =
    let call = c.args.call.now in
    let change = planned_of c.in-Accepted.plan in
    record {
      kept = decided_kept _ c.args.parts.now c.decide.new.parts c.requires c.decide.ensures.same c.decide.ensures.shelf
          c.decide.ensures.indexes;
      fit = subst (λ (s : State). IsFit call (view_of call.caller s) change) (sym c.decide.ensures.same)
          (accepted_fit call (view_of call.caller (state_of c.args.parts.now)) c.in-Accepted.json change
          (ap (map_answer planned_of) (sym c.in-Accepted.is) ∙ c.in_ok-json.ensures.answer));
      planned = subst (AcceptsOnly (λ plan. IsPlanned plan c.decide.new.parts)) c.in-Accepted.is
          c.in_ok-json.ensures.planned;
    }

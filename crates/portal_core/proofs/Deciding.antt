-- What is answered by what an action is about.
use Rattle.std.proofs.Common.{◌≡◌, ◌∙◌, List, Result, sym, subst}
use Rattle.std.specs.Prelude.{IfOk}
use Rattle.portal_calls.specs.Topic.{topic_of}
use Rattle.portal_calls.specs.declared.action.Action.{Action}
use Rattle.portal_calls.specs.declared.answer.Answer.{Answer}
use Rattle.portal_calls.specs.declared.topic.Topic.{Topic}
use Rattle.visibility.specs.CallView.{CallView}
use Rattle.datastore_answers.specs.TableAnswers.{map_answer}
use Rattle.datastore_answers.specs.declared.resource_table.ResourceTable.{ResourceTable}
use Rattle.harvest_sources.specs.Sources.{SourceState}
use Rattle.portal_state.specs.Answer.{answer_on}
use Rattle.portal_state.specs.Planned.{planned_of}
use Rattle.portal_state.specs.declared.change.Plan.{Plan}

-- The answer on what an action is about is that on the topic that was found.
pub answer_on_same : {E : Type 0} (result : Result (Answer Plan) E) (view : CallView) (tables : List ResourceTable)
    (sources : List SourceState) {found is : Topic} (action : Action) → found ≡ topic_of action → found ≡ is
    → IfOk result (λ answer. map_answer planned_of answer ≡ answer_on is view tables sources)
    → IfOk result (λ answer. map_answer planned_of answer ≡ answer_on (topic_of action) view tables sources)
answer_on_same result view tables sources action of same expected =
    subst (λ (t : Topic). IfOk result (λ answer. map_answer planned_of answer ≡ answer_on t view tables sources))
    (sym same ∙ of) expected

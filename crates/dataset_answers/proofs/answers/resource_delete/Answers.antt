use Rattle.std.proofs.Common.{sym, ap, ◌∙◌, refl, subst}
use Rattle.packages.specs.LocatedResource.{located_now}
use Rattle.portal_calls.specs.Stop.{Answers}
use Rattle.visibility.specs.CallView.{context_view}
use Rattle.portal_calls.proofs.Answering.{found_thing}
use Rattle.dataset_answers.specs.Answers.{answer_to_valid_deletion}
use Rattle.dataset_answers.specs.Bodies.{without_resource_at}
use Rattle.dataset_answers.proofs.TableSummaryAnswers.{resource_delete_same}
use Rattle.dataset_answers.proofs.answers.resource_delete.Goals as goal

pub returns : goal.returns
returns g c =
    let view = context_view c.args.context.now in
    let summaries = g.H.TableLookup.summaries c.args.tables.now in
    subst (λ x. Answers c.delete_if_valid.result x)
    (ap (answer_to_valid_deletion view summaries) c.in_ok-changed.ensures
    ∙ found_thing _ (λ located.
    answer_to_valid_deletion view summaries (without_resource_at view.call located.dataset located.position))
    _ (located_now c.in_ok-located.located) (sym c.in_ok-located.ensures.found) refl
    ∙ resource_delete_same view summaries)
    c.delete_if_valid.ensures

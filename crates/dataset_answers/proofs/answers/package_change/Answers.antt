use Rattle.std.proofs.Common.{sym, ◌∙◌, refl, subst}
use Rattle.portal_calls.specs.Stop.{Answers}
use Rattle.visibility.specs.CallView.{context_view}
use Rattle.portal_calls.proofs.Answering.{found_thing}
use Rattle.dataset_answers.specs.Answers.{answer_to_change_of}
use Rattle.dataset_answers.proofs.TableSummaryAnswers.{change_same}
use Rattle.dataset_answers.proofs.answers.package_change.Goals as goal

pub returns : goal.returns
returns g c =
    let view = context_view c.args.context.now in
    let summaries = g.H.TableLookup.summaries c.args.tables.now in
    subst (λ x. Answers c.change_of_dataset.result x)
    (found_thing _ (λ dataset. answer_to_change_of c.args.whole view summaries dataset)
    (answer_to_change_of c.args.whole view summaries c.in_ok-dataset.dataset.now) c.in_ok-dataset.dataset.now
    (sym (rw c.naming_key-key.ensures at c.in_ok-dataset.ensures)) refl
    ∙ change_same c.args.whole view summaries)
    c.change_of_dataset.ensures

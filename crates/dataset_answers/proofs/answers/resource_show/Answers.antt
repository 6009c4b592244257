use Rattle.std.proofs.Common.{sym, ap}
use Rattle.packages.specs.LocatedResource.{located_now}
use Rattle.visibility.specs.CallView.{context_view}
use Rattle.portal_calls.specs.declared.answer.Answer.TheVariants.{Shown}
use Rattle.portal_calls.proofs.Answering.{found_thing}
use Rattle.dataset_answers.proofs.TableSummaryAnswers.{by_all_tables, resource_show_same}
use Rattle.dataset_answers.proofs.answers.resource_show.Goals as goal

pub returns : goal.returns
returns g c =
    by_all_tables (resource_show_same (context_view c.args.context.now) (g.H.TableLookup.summaries c.args.tables.now))
    (found_thing _ _ _ (located_now c.in_ok-located.located) (sym c.in_ok-located.ensures.found)
    (ap Shown c.in_ok-shown.ensures))

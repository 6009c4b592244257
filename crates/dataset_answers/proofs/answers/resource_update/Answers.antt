use Rattle.std.proofs.Common.{sym, refl}
use Rattle.packages.specs.LocatedResource.{located_now}
use Rattle.visibility.specs.CallView.{context_view}
use Rattle.portal_calls.proofs.Answering.{found_thing, no_rule_broken}
use Rattle.dataset_answers.proofs.BodyLemmas.{no_errors}
use Rattle.dataset_answers.proofs.TableSummaryAnswers.{by_all_tables, resource_update_same}
use Rattle.dataset_answers.proofs.answers.resource_update.Goals as goal

pub returns : goal.returns
returns g c =
    let described =
    c.in_ok-read.ensures.built (no_errors c.args.context.now.quota c.in_ok-read.read.errors c.in_ok-resource.ensures.valid) in
    by_all_tables (resource_update_same (context_view c.args.context.now) (g.H.TableLookup.summaries c.args.tables.now))
    (found_thing _ _ _ (located_now c.in_ok-located.located) (sym c.in_ok-located.ensures.found)
    (no_rule_broken _ _ _ _ _ _ c.in_ok-read.ensures.errors c.in_ok-resource.ensures.valid refl
    (rw (c.in_ok-accept_resource_at.ensures, c.in_ok-resource.ensures.value, described) refl)))

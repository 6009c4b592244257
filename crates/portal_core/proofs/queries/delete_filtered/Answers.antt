use Rattle.std.proofs.Common.{◌∙◌}
use Rattle.packages.specs.LocatedResource.{located_now}
use Rattle.visibility.specs.CallView.{context_view}
use Rattle.datastore_answers.specs.Tables.{tables_of}
use Rattle.portal_core.proofs.QueryLemmas.{delete-filtered}
use Rattle.portal_core.proofs.queries.delete_filtered.Goals as goal

pub returns-clause-answer : goal.returns-clause-answer
returns-clause-answer c =
    c.in_ok-datastore_delete_rows.ensures.answer
    ∙ delete-filtered (context_view c.args.context.now) (tables_of c.args.tables.now) c.args.filters.now
    (located_now c.in_ok-positioned.positioned) c.in_ok-found.found c.in_ok-positioned.ensures.found
    c.in_ok-found.ensures

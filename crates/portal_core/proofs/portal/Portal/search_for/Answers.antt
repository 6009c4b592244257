-- The caller's view has the tables of the datasets that it sees.
use Rattle.std.proofs.Common.{◌≡◌, ◌∙◌, IfOk, List, ap, subst}
use Rattle.datastore_answers.specs.Summaries.{summaries_of}
use Rattle.datastore_answers.specs.Tables.{tables_of, tables_seen}
use Rattle.datastore_answers.specs.declared.resource_table.ResourceTable.{ResourceTable}
use Rattle.portal_events.specs.declared.event.Reply.{Reply}
use Rattle.visibility.specs.TableSummary.{TableSummary, summaries_seen}
use Rattle.visibility.specs.View.{datasets_seen, people_seen}
use Rattle.visibility.specs.Viewer.{ViewerState, datasets_for, people_for}
use Rattle.portal_state.specs.Search.{reply_if_found, search_outcome}
use Rattle.portal_state.proofs.TableViewing.{held_there}
use Rattle.portal_core.proofs.portal.Portal.search_for.Goals as goal

pub returns : goal.returns
returns g c =
    let state = c.args.self.now.state in
    let caller = c.args.caller.now in
    let body = c.args.body.now in
    let viewer = c.viewer-viewer.result in
    let tables = tables_of c.self.inside.parts.tables in
    let seen = datasets_seen caller state.people state.datasets in
    subst (λ (r : Reply). IfOk c.reply_of.result (λ reply. reply ≡ r))
    (ap (λ (summaries : List TableSummary). reply_if_found
    (search_outcome body (people_for viewer) (datasets_for viewer) summaries)) (held_there (datasets_for viewer) tables)
    ∙ ap (λ (v : ViewerState). reply_if_found
    (search_outcome body (people_for v) (datasets_for v) (summaries_of (tables_seen (datasets_for v) tables))))
    c.viewer-viewer.ensures
    ∙ ap (λ (ts : List ResourceTable). reply_if_found
    (search_outcome body (people_seen caller state.people) seen (summaries_of (tables_seen seen ts))))
    (ap (λ p. p.state.tables) c.self.view_is))
    (c.reply_of.ensures
    (search_outcome body (people_for viewer) (datasets_for viewer)
    (summaries_seen (datasets_for viewer) (summaries_of tables))) c.search-outcome.ensures)

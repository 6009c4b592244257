use Rattle.std.proofs.Common.{◌≡◌, IfOk, string_bytes, subst}
use Rattle.visibility.specs.Viewer.{ViewerState, datasets_for}
use Rattle.datastore_answers.specs.Tables.{tables_of, tables_seen}
use Rattle.portal_state.specs.View.{view_of}
use Rattle.portal_reports.specs.Datasets.{datasets_text}
use Rattle.portal_reports.specs.Tables.{tables_text}
use Rattle.portal_reports.proofs.report.text_for.Goals as goal

pub returns-in-Datasets : goal.returns-in-Datasets
returns-in-Datasets g c =
    rw c.in-Datasets.is (subst (λ (v : ViewerState). IfOk c.datasets_text.result
    (λ text. string_bytes text ≡ datasets_text v.people.orgs (datasets_for v)))
    c.viewer-viewer.ensures c.datasets_text.ensures)

pub returns-in-Tables : goal.returns-in-Tables
returns-in-Tables g c =
    rw c.in-Tables.is (subst (λ ts. IfOk c.tables_text.result (λ text. string_bytes text
    ≡ tables_text (view_of c.args.caller.now c.args.portal.now.state).datasets
    (tables_seen (view_of c.args.caller.now c.args.portal.now.state).datasets ts)))
    c.tables.ensures
    (subst (λ (v : ViewerState). IfOk c.tables_text.result
    (λ text. string_bytes text ≡ tables_text (datasets_for v) (tables_seen (datasets_for v) (tables_of c.tables.result.now))))
    c.viewer-viewer.ensures c.tables_text.ensures))

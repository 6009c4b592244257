-- The reports on a portal, as functions of a view of its state.
use Rattle.std.specs.Prelude.{ℕ, List}
use Rattle.portal_state.specs.State.{State}
use Rattle.portal_reports.specs.Datasets.{datasets_text}
use Rattle.portal_reports.specs.Tables.{tables_text}
use Rattle.portal_words.specs.declared.command.ReportKind.{ReportKind}
use Rattle.portal_words.specs.declared.command.ReportKind.TheVariants.{Datasets, Tables}

-- the text of a report on the view
abbrev pub report_text : ReportKind → State → List ℕ
report_text Datasets view = datasets_text view.people.orgs view.datasets
report_text Tables view = tables_text view.datasets view.tables

-- The clauses of `run` on the words are what its status says of them.
use Rattle.portal_cli.proofs.Around.{memory_reports, reports_words, store_reports}
use Rattle.portal_cli.proofs.run_over.Goals as goal

pub returns-clause-words : goal.returns-clause-words
returns-clause-words g c = reports_words _ _ c.run-ended.ensures.words c.run-ended.ensures.no_command

pub returns-in-Err-clause-words : goal.returns-in-Err-clause-words
returns-in-Err-clause-words g c =
    rw c.report.ensures.status (store_reports _ _ c.in-Err.ensures.fault c.in-Err.ensures.no_command)

pub returns-in_default-eight_fetchers-clause-words : goal.returns-in_default-eight_fetchers-clause-words
returns-in_default-eight_fetchers-clause-words g c = rw c.report-in_default-eight_fetchers.ensures.status (memory_reports _)

pub returns-in_default-eight_fetchers-clause-line : goal.returns-in_default-eight_fetchers-clause-line
returns-in_default-eight_fetchers-clause-line g c =
    rw c.report-in_default-eight_fetchers.ensures.status c.report-in_default-eight_fetchers.ensures.line

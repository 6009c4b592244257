use Rattle.harvest_results.proofs.JobLemmas.{report-bad, report-counts}
use Rattle.harvest_results.proofs.history_laws.the_report_of_an_ended_job_counts.Goals as goal

pub returns : goal.returns
returns c = record { counts = report-counts; bad = report-bad }

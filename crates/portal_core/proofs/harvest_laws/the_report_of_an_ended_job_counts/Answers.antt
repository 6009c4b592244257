use Rattle.portal_core.proofs.HarvestRuns.{bad-so, counts-so}
use Rattle.portal_core.proofs.harvest_laws.the_report_of_an_ended_job_counts.Goals as goal

pub returns : goal.returns
returns c = record {
  counts = λ state events source id report valid begin. counts-so state events source id valid begin report;
  bad = λ state events source id report valid begin. bad-so state events source id valid begin report;
}

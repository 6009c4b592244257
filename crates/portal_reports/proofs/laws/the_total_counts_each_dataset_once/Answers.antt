use Rattle.portal_reports.proofs.TotalLemmas.{total_counts}
use Rattle.portal_reports.proofs.laws.the_total_counts_each_dataset_once.Goals as goal

pub returns : goal.returns
returns c = total_counts

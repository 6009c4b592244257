use Rattle.harvest_rows.specs.Rows.{IsJobRow}
use Rattle.harvest_rows.proofs.ListLemmas.{ReadsOn}
use Rattle.harvest_rows.proofs.kept_harvests.read_jobs.Given as goal

abbrev pub invariant-loop-row : goal.invariant-loop-row
invariant-loop-row l = ReadsOn IsJobRow l.jobs.items l.rows l.row-index

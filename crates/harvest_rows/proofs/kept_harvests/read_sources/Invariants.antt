use Rattle.harvest_rows.specs.Rows.{IsSourceRow}
use Rattle.harvest_rows.proofs.ListLemmas.{ReadsOn}
use Rattle.harvest_rows.proofs.kept_harvests.read_sources.Given as goal

abbrev pub invariant-loop-row : goal.invariant-loop-row
invariant-loop-row l = ReadsOn IsSourceRow l.sources.items l.rows l.row-index

use Rattle.portal_rows.specs.KeptValues.{IsDatasetRow}
use Rattle.portal_rows.proofs.ZipLemmas.{ReadsOn}
use Rattle.portal_rows.proofs.kept_values.read_datasets.Given as goal

abbrev pub invariant-loop-row : goal.invariant-loop-row
invariant-loop-row l = ReadsOn IsDatasetRow l.datasets.items l.rows l.row-index

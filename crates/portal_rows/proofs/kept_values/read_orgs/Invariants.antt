use Rattle.portal_rows.specs.OrgRows.{IsOrgRow}
use Rattle.portal_rows.proofs.ZipLemmas.{ReadsOn}
use Rattle.portal_rows.proofs.kept_values.read_orgs.Given as goal

abbrev pub invariant-loop-row : goal.invariant-loop-row
invariant-loop-row l = ReadsOn IsOrgRow l.orgs.items l.rows l.row-index

use Rattle.portal_rows.specs.KeptValues.{IsRowOfNewTable}
use Rattle.portal_rows.proofs.ZipLemmas.{ReadsOn}
use Rattle.portal_rows.proofs.kept_tables.read_new_tables.Given as goal

abbrev pub invariant-loop-head : goal.invariant-loop-head
invariant-loop-head l = ReadsOn IsRowOfNewTable l.tables.items l.heads l.head-index

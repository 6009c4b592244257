use Rattle.std.proofs.Common.{◌≡◌, drop}
use Rattle.datastore_answers.specs.Restrict.{tables_restrict}
use Rattle.datastore_answers.proofs.deletions.check_tables.Given as goal

abbrev pub invariant-loop-table : goal.invariant-loop-table
invariant-loop-table l =
    tables_restrict l.removal.keys l.number l.tables
    ≡ tables_restrict l.removal.keys l.number (drop l.table-index l.tables)

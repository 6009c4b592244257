use Rattle.datastore_table.proofs.RuleLemmas.{restored_by_rules, table_by_rules}
use Rattle.datastore_table.proofs.laws.tables_are_valid_exactly_by_the_rules.Goals as goal

pub returns : goal.returns
returns c = record { valid = table_by_rules; restorable = restored_by_rules }

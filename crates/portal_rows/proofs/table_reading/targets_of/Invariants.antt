use Rattle.std.proofs.Common.{◌≡◌, ◌^◌, drop}
use Rattle.portal_rows.specs.Readings.{all_read, number_in}
use Rattle.portal_rows.proofs.ReadLemmas.{read_on}
use Rattle.portal_rows.proofs.table_reading.targets_of.Given as goal

abbrev pub invariant-loop-value : goal.invariant-loop-value
invariant-loop-value l = all_read (number_in (2 ^ 32)) l.values
    ≡ read_on (number_in (2 ^ 32)) l.targets.items (drop l.value-index l.values)

use Rattle.std.proofs.Common.{◌≡◌, map, take}
use Rattle.portal_rows.specs.TableRows.{number_value}
use Rattle.portal_rows.proofs.tables.target_values.Given as goal

abbrev pub invariant-loop-target : goal.invariant-loop-target
invariant-loop-target l = l.values.items ≡ map number_value (take l.target-index l.targets)

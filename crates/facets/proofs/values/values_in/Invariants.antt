use Rattle.std.proofs.Common.{◌≡◌, filter, take}
use Rattle.facets.specs.Counts.{is_value}
use Rattle.facets.proofs.values.values_in.Given as goal

abbrev pub invariant-loop-text : goal.invariant-loop-text
invariant-loop-text l = l.values.items ≡ filter is_value (take l.text-index l.texts)

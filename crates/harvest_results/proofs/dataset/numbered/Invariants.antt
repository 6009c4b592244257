use Rattle.std.proofs.Common.{◌≡◌, ◌+◌, take}
use Rattle.harvest_results.specs.Harvested.{numbered_from}
use Rattle.harvest_results.proofs.dataset.numbered.Given as goal

abbrev pub invariant-loop-distribution : goal.invariant-loop-distribution
invariant-loop-distribution l = record {
  count : l.number ≡ l.distribution-index + 1;
  numbered : l.resources.items ≡ numbered_from 1 (take l.distribution-index l.distributions);
}

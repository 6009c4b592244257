use Rattle.std.proofs.Common.{◌≡◌, map}
use Rattle.dataset_search.specs.Sort.{key_reading}
use Rattle.dataset_search.proofs.sort.parts_of.Given as goal

-- The parts so far are read.
abbrev pub invariant-loop-part : goal.invariant-loop-part
invariant-loop-part l = l.parts.items ≡ map key_reading (map (λ x. x.now) l.yielded)

use Rattle.std.proofs.Common.{◌≡◌, List, ◌++◌, length}
use Rattle.packages.specs.declared.package.Package.{Package}
use Rattle.packages.proofs.RestoreLemmas.{IsRestored}
use Rattle.packages.proofs.shelf.Shelf.restore.Given as goal

-- the datasets that were put are the last ones, and the shelf has them
abbrev pub invariant-loop-dataset : goal.invariant-loop-dataset
invariant-loop-dataset l = (done : List Package) × (l.rest.items ++ done ≡ l.fn.datasets) × IsRestored l.shelf done

abbrev pub decreases-loop-dataset : goal.decreases-loop-dataset
decreases-loop-dataset l = length l.rest.items

-- The numbers of a dataset's resources.
use Rattle.std.specs.Prelude.{◌≢◌, ◌<◌, ◌≤◌}
use Rattle.std.specs.List.{All, AllPairs}
use Rattle.packages.specs.declared.package.Package.{Package}

-- The resources' numbers are distinct, at least 1 and below the next number.
pub record AreNumbered (dataset : Package) : Type 0 where
  pub next : 1 ≤ dataset.next_resource
  pub within : All (λ r. (1 ≤ r.number) × (r.number < dataset.next_resource)) dataset.resources
  pub distinct : AllPairs (λ r s. r.number ≢ s.number) dataset.resources

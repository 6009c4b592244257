-- The names of a dataset's states, which are those of CKAN 2.10.
use Rattle.std.specs.Prelude.{ℕ, List, codes}
use Rattle.packages.specs.declared.package.State.{State}
use Rattle.packages.specs.declared.package.State.TheVariants.{Draft, Active, Deleted}

-- the name of a state
abbrev pub state_name : State → List ℕ
state_name Draft = codes "draft"
state_name Active = codes "active"
state_name Deleted = codes "deleted"

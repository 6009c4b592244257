-- A caller with the people and the datasets that it asks about, and its view of them.
use Rattle.std.specs.Prelude.{List}
use Rattle.portal_base.specs.declared.caller.Caller.{Caller}
use Rattle.org_roles.specs.PeopleLists.{PeopleLists}
use Rattle.packages.specs.declared.package.Package.{Package}
use Rattle.visibility.specs.View.{people_seen, datasets_seen}

-- a caller among the people
pub record StandingState : Type 0 where
  pub caller : Caller
  pub people : PeopleLists

-- a caller, and the people and the datasets that it asks about, whether it sees them or not
pub record ViewerState : Type 0 where
  pub caller : Caller
  pub people : PeopleLists
  pub datasets : List Package

-- the people as the caller sees them
abbrev pub people_for : ViewerState → PeopleLists
people_for viewer = people_seen viewer.caller viewer.people

-- the datasets that the caller sees
abbrev pub datasets_for : ViewerState → List Package
datasets_for viewer = datasets_seen viewer.caller viewer.people viewer.datasets

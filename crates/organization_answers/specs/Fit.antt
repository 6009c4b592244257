-- The changes of organizations and roles that can be made, given the caller's view, and that the caller has the right
-- to make. `owners` are the organizations of the sources in the view. Whether a new organization's name is free isn't
-- checked here.
use Rattle.std.specs.Prelude.{ℕ, ◌≡◌, ◌≢◌, List, [], true, false, is_some}
use Rattle.org_roles.specs.PeopleLists.{is_sysadmin_in, is_user_in, org_in, role_in}
use Rattle.org_roles.specs.declared.change.OrgChange.{OrgChange}
use Rattle.org_roles.specs.declared.change.OrgChange.TheVariants.{Create, Patch, Remove, SetRole, DropRole}
use Rattle.org_roles.specs.declared.entry.Org.{Org}
use Rattle.visibility.specs.CallView.{CallView}
use Rattle.visibility.specs.View.{administers, has_datasets}
use Rattle.organization_answers.specs.Owners.{owns_source}

-- a new organization's name isn't empty, and the caller is a sysadmin
pub record IsFitCreation (view : CallView) (org : Org) : Type 0 where
  pub named : org.name ≢ []
  pub sysadmin : is_sysadmin_in view.people view.caller ≡ true

-- the organization with that name exists, and the caller administers it
pub record IsAdministered (view : CallView) (org : List ℕ) : Type 0 where
  pub exists : is_some (org_in view.people org) ≡ true
  pub administered : administers view.people view.caller org ≡ true

-- the caller administers the organization, and no dataset and no source in the view belongs to it
pub record IsFitRemoval (view : CallView) (owners : List (List ℕ)) (org : List ℕ) : Type 0 where
  pub own : IsAdministered view org
  pub empty : has_datasets org view.datasets ≡ false
  pub unharvested : owns_source org owners ≡ false

-- the caller administers the organization, and the user exists
pub record IsFitRole (view : CallView) (org user : List ℕ) : Type 0 where
  pub own : IsAdministered view org
  pub user_exists : is_user_in view.people user ≡ true

-- the caller administers the organization, and the user exists and has a role there
pub record IsFitLoss (view : CallView) (org user : List ℕ) : Type 0 where
  pub fit : IsFitRole view org user
  pub has_role : is_some (role_in view.people org user) ≡ true

-- a change that can be made, given the caller's view, and that the caller has the right to make
abbrev pub IsFitOrg : CallView → List (List ℕ) → OrgChange → Type 0
IsFitOrg view owners (Create org) = IsFitCreation view org
IsFitOrg view owners (Patch org) = IsAdministered view org.name
IsFitOrg view owners (Remove name) = IsFitRemoval view owners name
IsFitOrg view owners (SetRole org user role) = IsFitRole view org user
IsFitOrg view owners (DropRole org user) = IsFitLoss view org user

-- The default users, organizations and roles open it.
use Rattle.std.proofs.Common.{[], ◌∷◌, refl}
use Rattle.portal_state.proofs.Keeping.{opened_valid}
use Rattle.portal_serve.specs.Defaults.{default_users, default_org, default_roles}
use Rattle.portal_serve.proofs.laws.the_default_state_is_valid.Goals as goal

pub returns : goal.returns
returns c = opened_valid (record { users = default_users; orgs = default_org ∷ []; roles = default_roles }) refl

-- The portal as contracts see it: its state, and the keeper of the state's rows.
use Rattle.std.specs.Prelude.{◌≡◌, List, [], ◌∷◌, All, Option, map}
use Rattle.portal_base.specs.Ordered.{ascending}
use Rattle.org_roles.specs.Order.{user_cmp}
use Rattle.harvest_stages.specs.AtRest.{IsAtRest, at_rest}
use Rattle.portal_keeper.specs.Keeping.{Shows}
use Rattle.portal_keeper.specs.declared.row.KeptRow.{KeptRow}
use Rattle.portal_state.specs.KeptRows.{IsSized, kept_rows}
use Rattle.portal_state.specs.Opened.{opened}
use Rattle.portal_state.specs.Parts.{IsConsistent, state_of}
use Rattle.portal_state.specs.State.{State}
use Rattle.portal_state.specs.Values.{IsStateOf}
use Rattle.portal_state.specs.declared.parts.Parts.{Parts}
use Rattle.portal_state.specs.declared.opening.Opening.{Opening}

pub record PortalValue (K : Type 0) : Type 0 where
  pub state : State
  pub keeper : K

-- The parts of a portal whose keeper has these observable rows: they make up a valid state, and the rows are the state's.
pub record AreKept (rows : Option (List KeptRow)) (parts : Parts) : Type 0 where
  pub consistent : IsConsistent parts
  pub sized : IsSized (state_of parts)
  pub kept : Shows rows (kept_rows (state_of parts))

-- ---- opening

-- The state that has the rows, with the users of the opening, with no job that runs, and with nothing accepted.
pub record IsReopened (opening : Opening) (rows : List KeptRow) (state : State) : Type 0 where
  pub of_rows : IsStateOf rows state
  pub users : state.people.users ≡ ascending user_cmp opening.users
  pub rest : All IsAtRest state.sources
  pub unused : state.quota_used ≡ []

-- the state with the users of the opening, with each running job new again, and with nothing accepted
abbrev pub reopened : Opening → State → State
reopened opening state = record state {
  people = record state.people { users = ascending user_cmp opening.users };
  sources = map at_rest state.sources;
  quota_used = [];
}

-- The state of a portal that is opened over these rows of a store. If there are none, it is the opening's.
abbrev pub IsOpenedOver : Opening → List KeptRow → State → Type 0
IsOpenedOver opening [] state = state ≡ opened opening
IsOpenedOver opening (row ∷ rows) state = IsReopened opening (row ∷ rows) state

-- The rows are those of no state. A store without rows isn't meant: it gets the rows of the opening.
abbrev pub AreOfNoState : List KeptRow → Type 0
AreOfNoState [] = ⊥
AreOfNoState (row ∷ rows) = (state : State) → IsStateOf (row ∷ rows) state → ⊥

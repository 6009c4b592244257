-- The trace of devices that are borrowed together.
use Rattle.std.specs.Prelude.{◌≡◌, ℕ, ℤ, List, Option}
use Rattle.portal_serve.specs.Run.{StageTrace, stage_trace}
use Rattle.portal_serve.specs.declared.stage.Stage.{Stage}

-- the trace of output, the clock and the nonces, by the trace of each
abbrev pub trace_of : {O C N : Type 0} → (O → Option (List ℕ)) → (C → Option (List ℤ)) → (N → Option (List ℕ))
    → Stage O C N → StageTrace
trace_of taken moments nonces stage =
    stage_trace (taken stage.output.now) (moments stage.clock.now) (nonces stage.nonces.now)

-- They are still those that were borrowed.
pub record AreSameLoans {O C N : Type 0} (old new : Stage O C N) : Type 0 where
  pub output : new.output.ghost_name ≡ old.output.ghost_name
  pub clock : new.clock.ghost_name ≡ old.clock.ghost_name
  pub nonces : new.nonces.ghost_name ≡ old.nonces.ghost_name

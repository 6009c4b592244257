-- In a valid state each harvested dataset is public.
use Rattle.portal_state.proofs.Keeping.{harvested_open}
use Rattle.portal_core.proofs.portal.Portal.viewer.Goals as goal
use Rattle.portal_state.specs.Parts.{state_of}

pub new-requires : goal.new-requires
new-requires g c = harvested_open (state_of c.self.inside.parts) c.self.invariant.consistent.valid

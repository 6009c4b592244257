use Rattle.portal_hall.specs.Passes.{room_of}
use Rattle.portal_hall_tests.proofs.crowd.+spread.Given as goal

abbrev pub decreases-spread : goal.decreases-spread
decreases-spread g l = room_of l.pass

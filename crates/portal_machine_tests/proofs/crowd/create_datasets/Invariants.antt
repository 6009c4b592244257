use Rattle.std.proofs.Common.{◌≡◌}
use Rattle.portal_hall.specs.Passes.{IsPassOf, room_of}
use Rattle.portal_machine_tests.proofs.crowd.create_datasets.Given as goal

abbrev pub invariant-loop-number : goal.invariant-loop-number
invariant-loop-number g l = IsPassOf l.hall l.pass × (room_of l.pass ≡ room_of l.initial.pass)

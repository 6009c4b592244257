use Rattle.std.proofs.Common.{◌≡◌}
use Rattle.portal_hall.specs.Passes.{IsPassOf, room_of}
use Rattle.portal_hall_tests.proofs.crowd.create_names.Given as goal

abbrev pub invariant-loop-name : goal.invariant-loop-name
invariant-loop-name g l = IsPassOf l.hall l.pass × (room_of l.pass ≡ room_of l.initial.pass)

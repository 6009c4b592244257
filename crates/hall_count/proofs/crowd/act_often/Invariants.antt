use Rattle.std.proofs.Common.{◌≡◌}
use Rattle.portal_hall.specs.Passes.{IsPassOf, room_of}
use Rattle.hall_count.proofs.crowd.act_often.Given as goal

abbrev pub invariant-loop : goal.invariant-loop
invariant-loop g l = IsPassOf l.hall l.pass × (room_of l.pass ≡ room_of l.initial.pass)

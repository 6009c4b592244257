use Rattle.std.proofs.Common.{◌+◌, ◌*◌}
use Rattle.hall_count.proofs.crowd.+in_hall.Given as goal

abbrev pub decreases-act_in_hall : goal.decreases-act_in_hall
decreases-act_in_hall g l = 2 * l.threads

abbrev pub decreases-join+arg2 : goal.decreases-join+arg2
decreases-join+arg2 g l = 2 * l.rest + 1

abbrev pub decreases-join+arg3 : goal.decreases-join+arg3
decreases-join+arg3 g l = 2 * l.half + 1

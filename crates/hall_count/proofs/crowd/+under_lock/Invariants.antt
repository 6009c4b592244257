use Rattle.std.proofs.Common.{◌+◌, ◌*◌}
use Rattle.hall_count.proofs.crowd.+under_lock.Given as goal

abbrev pub decreases-act_under_lock : goal.decreases-act_under_lock
decreases-act_under_lock g l = 2 * l.threads

abbrev pub decreases-join+arg2 : goal.decreases-join+arg2
decreases-join+arg2 g l = 2 * l.rest + 1

abbrev pub decreases-join+arg3 : goal.decreases-join+arg3
decreases-join+arg3 g l = 2 * l.half + 1

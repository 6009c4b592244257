use Rattle.std.proofs.Common.{◌+◌, ◌≤◌, length}
use Rattle.std.specs.Prelude.{vec_len, vec_capacity}
use Rattle.hall_posts.proofs.Joining.{SplitOff}
use Rattle.hall_posts.proofs.posts.split_posts.Given as goal

abbrev pub invariant-loop-work : goal.invariant-loop-work
invariant-loop-work g l =
    SplitOff l.hall l.fn.pass l.fn.works.items l.posts.items l.pass l.work-iterator.rest.items
    × (vec_len l.posts + length l.work-iterator.rest.items ≤ vec_capacity l.posts)

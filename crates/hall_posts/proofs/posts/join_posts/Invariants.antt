use Rattle.std.proofs.Common.{◌≡◌, ◌+◌, ◌≤◌, List, ◌++◌, length}
use Rattle.std.specs.Prelude.{All, vec_len, vec_capacity}
use Rattle.hall_posts.specs.Posts.{IsPostOf}
use Rattle.hall_posts.proofs.Joining.{Joined, PostsFor}
use Rattle.hall_posts.proofs.posts.join_posts.Given as goal

abbrev pub invariant-loop-post : goal.invariant-loop-post
invariant-loop-post g l =
    (done : PostsFor l.hall l.fn.works.items)
    × (l.fn.posts.items ≡ done ++ l.post-iterator.rest.items)
    × Joined l.hall l.fn.pass l.fn.works.items done l.pass l.works.items
    × All (IsPostOf l.hall) l.post-iterator.rest.items
    × (vec_len l.works + length l.post-iterator.rest.items ≤ vec_capacity l.works)

use Rattle.hall_posts.specs.Posts.{IsPostOf}
use Rattle.portal_hall_tests.proofs.posts.create_at_post.Given as goal

abbrev pub invariant-loop-name : goal.invariant-loop-name
invariant-loop-name g l = IsPostOf l.hall l.post

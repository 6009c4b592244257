-- What callers know of posts.
use Rattle.std.specs.Prelude.{◌≡◌, ℕ, ◌≤◌, List, [], ◌++◌, flat_map, sum_by}
use Rattle.portal_hall.specs.History.{Begins}
use Rattle.portal_hall.specs.Passes.{IsPassOf, room_of, seen, own, mark}
use Rattle.portal_hall.specs.declared.hall.Hall.{Hall}
use Rattle.portal_hall.specs.declared.pass.Pass.{Pass}
use Rattle.hall_posts.specs.declared.posts.Post.{Post}

module _ {M W E R : Type 0} where
  abbrev pub work_of : Post M W E R → W
  work_of post = post.work

  -- the count of the hall's seats that the posts have
  abbrev pub seats_in : List (Post M W E R) → ℕ
  seats_in posts = sum_by (λ (post : Post M W E R). room_of post.pass) posts

  -- the indexes in the history of the events that the posts' calls added, post by post
  abbrev pub indexes_of : List (Post M W E R) → List ℕ
  indexes_of posts = flat_map (λ (post : Post M W E R). own post.pass) posts

  -- the post's pass is one of this hall's
  abbrev pub IsPostOf : Hall M E R → Post M W E R → Type 0
  IsPostOf hall post = IsPassOf hall post.pass

  -- The post has one seat. It knows what the pass knew, and owns no event.
  pub record IsNewPost (hall : Hall M E R) (from : Pass M E R) (post : Post M W E R) : Type 0 where
    pub pass : IsPassOf hall post.pass
    pub room : room_of post.pass ≡ 1
    pub same : seen post.pass ≡ seen from
    pub fresh : own post.pass ≡ []
    pub faults : mark post.pass ≡ mark from

  -- The pass has seen all that the post has, and knows of as many faults.
  pub record Knows (pass : Pass M E R) (post : Post M W E R) : Type 0 where
    pub events : Begins (seen post.pass) (seen pass)
    pub faults : mark post.pass ≤ mark pass

module _ {M E R : Type 0} (hall : Hall M E R) where
  -- The pass is still the hall's, with as many seats. Its calls added events at these indexes, in this order.
  pub record Advances (gained : List ℕ) (before after : Pass M E R) : Type 0 where
    pub pass : IsPassOf hall after
    pub room : room_of after ≡ room_of before
    pub events : Begins (seen before) (seen after)
    pub indexes : own after ≡ own before ++ gained
    pub faults : mark before ≤ mark after

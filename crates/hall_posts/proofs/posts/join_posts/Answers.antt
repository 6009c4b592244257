use Rattle.std.proofs.Common.{◌≡◌, ◌∙◌, [], ◌∷◌, ◌++◌, ap, append_assoc, arith, length, subst, sym}
use Rattle.std.specs.Prelude.{All}
use Rattle.std.proofs.lemmas.List.{nil_from_length}
use Rattle.std.proofs.lemmas.List.Elements.{All-head, All-tail}
use Rattle.hall_posts.specs.Posts.{IsPostOf}
use Rattle.hall_posts.proofs.Joining.{PostsFor, joined_all, joined_next, joined_none}
use Rattle.hall_posts.proofs.posts.join_posts.Goals as goal

pub loop-post-init : goal.loop-post-init
loop-post-init g c =
    let given = c.into_iter-post-iterator.ensures.into_iter_gives.0 in (
      [],
      sym given,
      joined_none c.args.hall.now c.args.pass.now c.args.works.now.items c.requires.pass,
      subst (All (IsPostOf c.args.hall.now)) (sym given) c.requires.posts,
      omega (arith, c.requires.reserved, ap length given, c.args.posts.ok.0),
    )

pub join-requires-clause-pass : goal.join-requires-clause-pass
join-requires-clause-pass g c = c.loop-post.invariant.2.pass_is

pub join-requires-clause-other : goal.join-requires-clause-other
join-requires-clause-other g c = All-head (IsPostOf c.args.hall.now) c.in-Some.post c.next.new.self.rest.items
    (subst (All (IsPostOf c.args.hall.now)) c.in-Some.ensures.steps.0 c.loop-post.invariant.3)

pub push_reserved-requires : goal.push_reserved-requires
push_reserved-requires g c = omega (arith, c.loop-post.invariant.4, ap length c.in-Some.ensures.steps.0)

pub loop-post-preserved : goal.loop-post-preserved
loop-post-preserved g c =
    let was = c.loop-post.invariant in
    let post = c.in-Some.post in
    let rest = c.next.new.self.rest.items in
    let step = c.in-Some.ensures.steps.0 in
    let joined = c.join.ensures in
    let done : PostsFor c.args.hall.now c.args.works.now.items = was.0 in (
      done ++ post ∷ [],
      was.1 ∙ ap (λ (l : PostsFor c.args.hall.now c.args.works.now.items). done ++ l) step
          ∙ sym (append_assoc done (post ∷ []) rest),
      joined_next c.args.hall.now c.args.pass.now c.args.works.now.items done c.loop-post.pass c.join.new.pass
          c.loop-post.works.items c.push_reserved.new.self.items post was.2 joined.pass.0 joined.pass.1 joined.begins.0
          joined.begins.1 joined.own joined.mark c.push_reserved.ensures.items,
      All-tail (IsPostOf c.args.hall.now) post rest (subst (All (IsPostOf c.args.hall.now)) step was.3),
      omega (arith, was.4, ap length step, c.push_reserved.ensures.len, c.push_reserved.ensures.capacity),
    )

pub returns : goal.returns
returns g c =
    let was = c.loop-post.invariant in
    let left = c.loop-post.post-iterator.rest in
    let none : left.items ≡ [] = nil_from_length left.items (sym left.ok.0 ∙ c.in-None.ensures.steps.0) in
    let all = joined_all c.args.hall.now c.args.pass.now c.args.works.now.items c.args.posts.items was.0 left.items
    c.loop-post.pass c.loop-post.works.items was.2 was.1 none in record {
      pass = (all.pass_is, all.seats);
      seen = (all.events, all.faults);
      posts = all.known;
      own = all.indexes;
      works = all.works_are;
    }

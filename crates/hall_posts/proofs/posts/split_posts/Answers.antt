use Rattle.std.proofs.Common.{◌≡◌, ◌∙◌, [], ap, arith, length, length-append, map, sym}
use Rattle.std.proofs.lemmas.List.{length-map, nil_from_length}
use Rattle.hall_posts.specs.Posts.{work_of}
use Rattle.hall_posts.proofs.Joining.{split_all, split_next, split_none}
use Rattle.hall_posts.proofs.posts.split_posts.Goals as goal

pub loop-work-init : goal.loop-work-init
loop-work-init g c =
    let given = c.into_iter-work-iterator.ensures.into_iter_gives.0 in (
      split_none c.args.hall.now c.args.pass.now c.args.works.items c.in-Ok.posts.items _
          c.requires.pass c.in-Ok.ensures.items given,
      omega (arith, ap length given, c.in-Ok.ensures.len, c.in-Ok.ensures.capacity, c.len.ensures, c.args.works.ok.0),
    )

pub new_post-requires-clause-pass : goal.new_post-requires-clause-pass
new_post-requires-clause-pass g c = c.loop-work.invariant.0.pass_is

pub new_post-requires-clause-room : goal.new_post-requires-clause-room
new_post-requires-clause-room g c =
    let s = c.loop-work.invariant.0 in
    let posts = c.loop-work.posts.items in
    omega (
      arith,
      s.seats,
      c.requires.room,
      c.args.works.ok.0,
      ap length s.works_are,
      length-append (map work_of posts) c.loop-work.work-iterator.rest.items,
      length-map posts work_of,
      ap length c.in-Some.ensures.steps.0,
    )

pub push_reserved-requires : goal.push_reserved-requires
push_reserved-requires g c = omega (arith, c.loop-work.invariant.1, ap length c.in-Some.ensures.steps.0)

pub loop-work-preserved : goal.loop-work-preserved
loop-work-preserved g c =
    let was = c.loop-work.invariant in
    let step = c.in-Some.ensures.steps.0 in
    let made = c.new_post.ensures in (
      split_next c.args.hall.now c.args.pass.now c.args.works.items c.loop-work.posts.items
          c.push_reserved.new.self.items c.loop-work.pass c.new_post.new.pass c.loop-work.work-iterator.rest.items
          c.next.new.self.rest.items c.in-Some.work c.new_post.result was.0 step c.push_reserved.ensures.items
          made.pass.0 made.pass.1 made.kept.0 made.kept.1 made.kept.2 made.post.0 made.post.1,
      omega (arith, was.1, ap length step, c.push_reserved.ensures.len, c.push_reserved.ensures.capacity),
    )

pub returns : goal.returns
returns g c =
    let s = c.loop-work.invariant.0 in
    let left = c.loop-work.work-iterator.rest in
    let none : left.items ≡ [] = nil_from_length left.items (sym left.ok.0 ∙ c.in-None.ensures.steps.0) in record {
      pass = s.pass_is;
      kept = (s.events, s.indexes, s.faults);
      room = omega (arith, s.seats, c.loop-work.posts.ok.0);
      works = split_all c.args.hall.now c.args.pass.now c.args.works.items c.loop-work.posts.items c.loop-work.pass
          left.items s none;
      posts = s.new_ones;
    }

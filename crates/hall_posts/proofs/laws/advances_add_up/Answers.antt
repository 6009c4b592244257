use Rattle.hall_posts.proofs.Joining.{advance_twice}
use Rattle.hall_posts.proofs.laws.advances_add_up.Goals as goal

pub returns : goal.returns
returns g c = λ some others first second.
    advance_twice c.args.hall.now some others c.args.before.now c.args.between.now c.args.after.now first second

use Rattle.hall_posts.proofs.Replying.{reply_later}
use Rattle.hall_posts.proofs.laws.replies_hold_of_the_history.Goals as goal

pub returns : goal.returns
returns g c =
    let m = g.M.Machine in reply_later m.step m.IsOutOfMemory m.IsFault

use Rattle.hall_posts.proofs.Replying.{entry_is_reply}
use Rattle.hall_posts.proofs.laws.an_entry_is_replied.Goals as goal

pub returns : goal.returns
returns g c =
    let m = g.M.Machine in entry_is_reply m.step m.IsOutOfMemory m.IsFault

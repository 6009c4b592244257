use Rattle.hall_posts.proofs.Replying.{refusal_is_reply}
use Rattle.hall_posts.proofs.laws.a_refusal_is_replied.Goals as goal

pub returns : goal.returns
returns g c =
    let m = g.M.Machine in refusal_is_reply m.step m.IsOutOfMemory m.IsFault

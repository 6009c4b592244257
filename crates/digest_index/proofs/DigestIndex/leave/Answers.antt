use Rattle.digest_index.proofs.Changes.{leaves_both}
use Rattle.digest_index.proofs.DigestIndex.leave.Goals as goal

pub returns : goal.returns
returns g c =
    leaves_both c.args.self.now c.leave_first.new.self c.leave_further.new.self c.args.digest c.args.number
    c.leave_first.ensures c.leave_further.ensures

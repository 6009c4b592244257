use Rattle.std.proofs.Common.{◌+◌, ◌≤◌, refl, subst, arith}
use Rattle.digest_index.specs.Index.{Enters, IndexState, index_state}
use Rattle.digest_index.proofs.Changes.{enters_further}
use Rattle.digest_index.proofs.DigestIndex.enter_further.Goals as goal

pub returns : goal.returns
returns g c =
    let old : IndexState g.row.N.Denot = index_state c.self.inside.first c.self.inside.further in
    let new : IndexState g.row.N.Denot = index_state c.self.inside.first c.insert-put.new.self in
    let len = rw c.unwrap.ensures at c.insert-put.ensures.len in
    let items = rw c.unwrap.ensures at c.insert-put.ensures.items in
    let room : old.room ≤ new.room + 1 = omega (arith, len, c.insert-put.ensures.capacity) in
    subst (λ s. Enters s new c.args.digest c.args.number) c.self.view_is
    (enters_further old new c.args.digest c.args.number c.count_up_to-index.result
    record { digest = c.args.digest; number = c.args.number } refl refl refl items room)

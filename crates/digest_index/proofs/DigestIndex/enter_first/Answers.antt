use Rattle.std.proofs.Common.{◌+◌, ◌≤◌, ◌∙◌, ap, refl, subst, arith}
use Rattle.digest_index.specs.Index.{Enters, IndexState, first_under, index_state}
use Rattle.digest_index.proofs.Changes.{enters_first}
use Rattle.digest_index.proofs.DigestIndex.enter_first.Goals as goal

pub returns : goal.returns
returns g c =
    let old : IndexState g.row.N.Denot = index_state c.self.inside.first c.self.inside.further in
    let new : IndexState g.row.N.Denot = index_state c.insert-put.new.self c.self.inside.further in
    let room : old.room ≤ new.room + 1 = omega (arith, c.insert-put.ensures.spare) in
    let updates = rw c.unwrap.ensures at c.insert-put.ensures.updates in
    subst (λ s. Enters s new c.args.digest c.args.number) c.self.view_is
    (enters_first old new c.args.digest c.args.number
    (ap (first_under c.args.digest) c.self.view_is ∙ c.requires.none) updates.0 refl room)

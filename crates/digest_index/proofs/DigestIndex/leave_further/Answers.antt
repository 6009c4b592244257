-- The further numbers stay, except for the number.
use Rattle.std.proofs.Common.{◌≡◌, ◌≤◌, ◌==◌, ◌&&◌, ◌∙◌, not, false, filter, rules, refl, sym, ap, subst, arith}
use Rattle.std.specs.List.{list_any}
use Rattle.std.specs.List.Sorted.{IsNonDecreasingBy}
use Rattle.std.proofs.lemmas.Fn.{filter_same}
use Rattle.std.proofs.lemmas.List.Kept.{IsNonDecreasingBy-filter}
use Rattle.digest_index.specs.Index.{IndexState, LeavesFurther, entries_under, index_state}
use Rattle.digest_index.specs.declared.Further.{Further}
use Rattle.digest_index.proofs.Changes.{leaves_further, leaves_none}
use Rattle.digest_index.proofs.DigestIndex.leave_further.Goals as goal

pub invariant_of-self : goal.invariant_of-self
invariant_of-self g c =
    let kept : c.retain.new.self.items ≡ filter (λ e.
    not (e.digest == c.args.digest && g.N.PartialEq.eq e.number c.args.number)) c.self.inside.further.items =
    filter_same _ _ _ (λ n b f' k. search rules) _ _ c.retain.ensures.filtered in
    subst (IsNonDecreasingBy (λ (e : Further g.row.N.Denot). e.digest)) (sym kept)
    (IsNonDecreasingBy-filter (λ (e : Further g.row.N.Denot). e.digest)
    (λ (e : Further g.row.N.Denot). not (e.digest == c.args.digest && g.N.PartialEq.eq e.number c.args.number))
    c.self.inside.further.items c.self.invariant)

pub returns-then-has_number : goal.returns-then-has_number
returns-then-has_number g c =
    let old : IndexState g.row.N.Denot = index_state c.self.inside.first c.self.inside.further in
    let new : IndexState g.row.N.Denot = index_state c.self.inside.first c.retain.new.self in
    let room : old.room ≤ new.room = omega (arith, c.retain.ensures.bound, c.retain.ensures.capacity) in
    let kept : c.retain.new.self.items ≡ filter (λ e.
    not (e.digest == c.args.digest && g.N.PartialEq.eq e.number c.args.number)) c.self.inside.further.items =
    filter_same _ _ _ (λ n b f' k. search rules) _ _ c.retain.ensures.filtered in
    subst (λ s. LeavesFurther s new c.args.digest c.args.number) c.self.view_is
    (leaves_further old new c.args.digest c.args.number g.N.PartialEq.eq g.met.N.Number.same refl kept room)

pub returns-else-has_number : goal.returns-else-has_number
returns-else-has_number g c =
    let none : list_any (λ (e : Further g.row.N.Denot). g.N.PartialEq.eq e.number c.args.number)
    (entries_under c.args.digest c.args.self.now.further) ≡ false =
    ap (list_any (λ (e : Further g.row.N.Denot). g.N.PartialEq.eq e.number c.args.number)) (sym c.further.ensures)
    ∙ sym c.has_number.ensures ∙ c.if-has_number.false in
    leaves_none c.args.self.now c.args.digest c.args.number g.N.PartialEq.eq g.met.N.Number.same none

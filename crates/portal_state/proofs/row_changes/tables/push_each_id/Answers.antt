use Rattle.std.proofs.Common.{◌++◌, ◌<◌, ◌^◌, ◌∙◌, ℕ, List, ap, arith, get_or, subst, sym, take}
use Rattle.std.specs.List.{flat_map}
use Rattle.std.proofs.lemmas.List.{flat_map_more, get_or_default, take_more}
use Rattle.portal_keeper.specs.declared.change.Change.{Change}
use Rattle.portal_state.specs.ChangedRows.{removals_of_id}
use Rattle.portal_state.proofs.row_changes.tables.push_each_id.Goals as goal

pub loop-id-preserved : goal.loop-id-preserved
loop-id-preserved c =
    let made : ℕ → List Change = removals_of_id c.args.resource.now c.args.rows.now in
    let id : ℕ = get_or c.args.ids.now c.loop-id.id-index 0 in
    c.in_ok-push_id.ensures
    ∙ ap (λ (l : List Change). l ++ made id) c.loop-id.invariant
    ∙ flat_map_more made c.args.changes.now.items (take c.loop-id.id-index c.args.ids.now) id
    ∙ ap (λ (ids : List ℕ). c.args.changes.now.items ++ flat_map made ids)
    (sym (take_more c.args.ids.now c.loop-id.id-index 0 c.loop-id-test.true))

-- Each item of the slice is a `u64`.
pub returns-clause-sized : goal.returns-clause-sized
returns-clause-sized c =
    λ k d lt. let small : get_or c.args.ids.now k 0 < 2 ^ 64 = omega (arith, c.type_inv.ids k) in
    subst (λ n. n < 2 ^ 64) (get_or_default c.args.ids.now k 0 d lt) small

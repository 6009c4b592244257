-- The type was inserted in the order of the keys.
use Rattle.std.proofs.Common.{◌∙◌}
use Rattle.action_api.proofs.TypeMember.{type_inserted}
use Rattle.action_api.proofs.errors.validation_json.Goals as goal

pub returns : goal.returns
returns c =
    type_inserted c.args.faults.now c.in_ok-members.members.items c.from.result c.index_of_type-index.result
    c.in_ok-members.ensures (rw c.as_slice.ensures.value at c.index_of_type-index.ensures.index)
    (c.from.ensures ∙ (rw (c.from_static.ensures, c.from_static-2.ensures) at c.in_ok-insert.ensures.items))

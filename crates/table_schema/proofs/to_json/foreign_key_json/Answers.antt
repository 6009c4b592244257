use Rattle.std.proofs.Common.{◌∙◌, refl}
use Rattle.table_schema.proofs.to_json.foreign_key_json.Goals as goal

pub returns : goal.returns
returns c =
    c.into_json.ensures
    ∙ (rw c.in_ok-add-2.ensures.ok (rw c.in_ok-add.ensures.ok (rw c.new-members.ensures
    (rw c.in_ok-names_json.ensures (rw c.in_ok-reference_json.ensures (rw c.as_slice.ensures refl))))))

use Rattle.table_schema.proofs.to_json.add_before_format.Goals as goal

pub returns-in_ok-character_json-in-Number : goal.returns-in_ok-character_json-in-Number
returns-in_ok-character_json-in-Number c =
    let made = c.in_ok-character_json-in-Number.ensures in
    rw c.in-Number.is (rw made at c.add.ensures.ok)

pub returns-in_ok-texts_json-in-Boolean : goal.returns-in_ok-texts_json-in-Boolean
returns-in_ok-texts_json-in-Boolean c =
    let made = c.in_ok-texts_json-in-Boolean.ensures in
    rw c.in-Boolean.is (rw (made, c.as_slice.ensures) at c.add-in-Boolean.ensures.ok)

-- The value of a text in UTF-8 is the value that it is read as.
use Rattle.std.proofs.Common.{◌≡◌, inl, inr, sym, ap, ◌∙◌}
use Rattle.dataset_rows.specs.Reading.{json_read}
use Rattle.dataset_rows.proofs.ReadBack.{json_read-Ok, json_read-Err}
use Rattle.harvest_rows.proofs.body.json_read.Goals as goal

pub returns-in-Ok : goal.returns-in-Ok
returns-in-Ok c =
    let bytes = c.as_bytes.result.now in
    let same : bytes ≡ c.args.body.now = c.as_bytes.ensures.value ∙ c.as_str.ensures in
    sym (ap json_read (sym same) ∙ json_read-Ok bytes c.in-Ok.json c.as_bytes.ensures.utf8 c.in-Ok.ensures.value)

pub returns-in-Err-NotJson : goal.returns-in-Err-NotJson
returns-in-Err-NotJson c =
    let bytes = c.as_bytes.result.now in
    let same : bytes ≡ c.args.body.now = c.as_bytes.ensures.value ∙ c.as_str.ensures in
    sym (ap json_read (sym same) ∙ json_read-Err bytes c.in-Err-NotJson.field-0 c.as_bytes.ensures.utf8
    (inl c.in-Err-NotJson.field-0-is) c.in-Err-NotJson.ensures.fault)

pub returns-in-Err-Fraction : goal.returns-in-Err-Fraction
returns-in-Err-Fraction c =
    let bytes = c.as_bytes.result.now in
    let same : bytes ≡ c.args.body.now = c.as_bytes.ensures.value ∙ c.as_str.ensures in
    sym (ap json_read (sym same) ∙ json_read-Err bytes c.in-Err-Fraction.field-0 c.as_bytes.ensures.utf8
    (inr c.in-Err-Fraction.field-0-is) c.in-Err-Fraction.ensures.fault)

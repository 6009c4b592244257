use Rattle.std.proofs.Common.{inr, sym, ◌∙◌, true≢false}
use Rattle.serde_json.specs.View.{view}
use Rattle.portal_base.proofs.JsonReading.{reading_of_data, reading_refused, value_read, fault_read}
use Rattle.portal_base.proofs.JsonSame.{readable_read}
use Rattle.portal_base.proofs.json_value.Json.read.Goals as goal

pub returns-in-Ok-clause-value : goal.returns-in-Ok-clause-value
returns-in-Ok-clause-value c =
    let d = view c.in-Ok.value in
    let got = c.in-Ok.ensures.ok in
    value_read c.value_of.result d _ (reading_of_data c.args.bytes.now d got.0 got.1) c.value_of.ensures.ok

pub returns-in-Ok-clause-fault : goal.returns-in-Ok-clause-fault
returns-in-Ok-clause-fault c =
    let d = view c.in-Ok.value in
    let got = c.in-Ok.ensures.ok in
    fault_read c.value_of.result d _ (reading_of_data c.args.bytes.now d got.0 got.1) c.value_of.ensures.fault

pub returns-in-Err-2-clause-fault : goal.returns-in-Err-2-clause-fault
returns-in-Err-2-clause-fault c =
    inr (reading_refused c.args.bytes.now
    (c.in-Err.ensures.err (λ m. true≢false (sym (c.is_memory.ensures.1 m) ∙ c.if-is_memory.false))))

pub returns-in-Ok-clause-readable : goal.returns-in-Ok-clause-readable
returns-in-Ok-clause-readable c = readable_read c.value_of.result (view c.in-Ok.value) c.in-Ok.ensures.nests
    c.value_of.ensures.ok c.value_of.ensures.orderly

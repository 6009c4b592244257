use Rattle.std.proofs.Common.{◌∙◌}
use Rattle.std.specs.Prelude.{decimal}
use Rattle.harvest_sources.proofs.JobIds.{is_id, is_no_id, is_no_id_undotted}
use Rattle.harvest_sources.proofs.job_ids.is_job_id.Goals as goal

pub returns-in-Some-strip_prefix : goal.returns-in-Some-strip_prefix
returns-in-Some-strip_prefix c =
    let name = c.in-Some.ensures.cases in
    let dot = c.in-Some-strip_prefix.ensures.cases in
    rw (← c.as_bytes.ensures.value, ← c.as_bytes-2.ensures.value, ← c.format-digits.ensures.text)
    (rw (c.as_bytes-in-Some-strip_prefix.ensures.value) at c.eq.ensures
    ∙ is_id c.as_bytes.result.now c.as_bytes-2.result.now c.format-digits.result.now c.in-Some.rest.now
    c.in-Some-strip_prefix.suffix.now name.0 name.1 dot.0 dot.1)

pub returns-in-None-strip_prefix : goal.returns-in-None-strip_prefix
returns-in-None-strip_prefix c =
    let name = c.in-Some.ensures.cases in
    rw (← c.as_bytes.ensures.value, ← c.as_bytes-2.ensures.value)
    (is_no_id_undotted c.as_bytes.result.now c.as_bytes-2.result.now (decimal c.args.number) c.in-Some.rest.now name.0
    name.1 c.in-None-strip_prefix.ensures.cases)

pub returns-in-None : goal.returns-in-None
returns-in-None c =
    rw (← c.as_bytes.ensures.value, ← c.as_bytes-2.ensures.value)
    (is_no_id c.as_bytes.result.now c.as_bytes-2.result.now (decimal c.args.number) c.in-None.ensures.cases)

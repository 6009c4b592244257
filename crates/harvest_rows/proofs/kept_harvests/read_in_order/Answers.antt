use Rattle.harvest_rows.proofs.KeptLemmas.{all-read, refused}
use Rattle.harvest_rows.proofs.kept_harvests.read_in_order.Goals as goal

pub returns-in_default : goal.returns-in_default
returns-in_default c =
    refused c.args.rows.now c.split_after.result.0.now c.split_after.result.1.now (record {
      whole = c.split_after.ensures.whole;
      up = c.split_after.ensures.front;
      after = c.split_after.ensures.back;
    })
    (λ kept have.
    let some = (c.in_ok-sources.ensures kept.sources).1 have.sources_read in
    let none = c.in_default.is in
    absurd (cc))

pub returns-in-None : goal.returns-in-None
returns-in-None c =
    refused c.args.rows.now c.split_after.result.0.now c.split_after.result.1.now (record {
      whole = c.split_after.ensures.whole;
      up = c.split_after.ensures.front;
      after = c.split_after.ensures.back;
    })
    (λ kept have.
    let some = (c.in_ok-jobs.ensures kept.jobs).1 have.jobs_read in
    let none = c.in-None.is in
    absurd (cc))

pub returns-in-Some-2 : goal.returns-in-Some-2
returns-in-Some-2 c =
    all-read c.args.rows.now c.split_after.result.0.now c.split_after.result.1.now c.in_ok-sources.field-0
    c.in_ok-jobs.field-0 (record { sources = c.in-Some.sources; jobs = c.in-Some-2.jobs }) c.requires (record {
      whole = c.split_after.ensures.whole;
      up = c.split_after.ensures.front;
      after = c.split_after.ensures.back;
    })
    c.in_ok-sources.ensures c.in_ok-jobs.ensures c.in-Some.is c.in-Some-2.is

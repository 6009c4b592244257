use Rattle.portal_rows.proofs.KeptReading.{all-read, back-in_order, front-in_order, refused}
use Rattle.portal_rows.proofs.kept_values.read_after_version.Goals as goal

pub split_after-requires-2 : goal.split_after-requires-2
split_after-requires-2 c =
    back-in_order c.args.rows.now c.split_after.result.0.now c.split_after.result.1.now c.requires
    c.split_after.ensures.whole

pub split_after-requires-3 : goal.split_after-requires-3
split_after-requires-3 c =
    back-in_order c.split_after.result.1.now c.split_after-2.result.0.now c.split_after-2.result.1.now
    (back-in_order c.args.rows.now c.split_after.result.0.now c.split_after.result.1.now c.requires
    c.split_after.ensures.whole)
    c.split_after-2.ensures.whole

pub read_tables-requires-clause-heads : goal.read_tables-requires-clause-heads
read_tables-requires-clause-heads c =
    front-in_order c.split_after-2.result.1.now c.split_after-3.result.0.now c.split_after-3.result.1.now
    (back-in_order c.split_after.result.1.now c.split_after-2.result.0.now c.split_after-2.result.1.now
    (back-in_order c.args.rows.now c.split_after.result.0.now c.split_after.result.1.now c.requires
    c.split_after.ensures.whole)
    c.split_after-2.ensures.whole)
    c.split_after-3.ensures.whole

pub read_tables-requires-clause-rows : goal.read_tables-requires-clause-rows
read_tables-requires-clause-rows c =
    back-in_order c.split_after-2.result.1.now c.split_after-3.result.0.now c.split_after-3.result.1.now
    (back-in_order c.split_after.result.1.now c.split_after-2.result.0.now c.split_after-2.result.1.now
    (back-in_order c.args.rows.now c.split_after.result.0.now c.split_after.result.1.now c.requires
    c.split_after.ensures.whole)
    c.split_after-2.ensures.whole)
    c.split_after-3.ensures.whole

pub returns-in_default : goal.returns-in_default
returns-in_default c =
    refused c.args.rows.now c.split_after.result.0.now c.split_after.result.1.now c.split_after-2.result.0.now
    c.split_after-2.result.1.now c.split_after-3.result.0.now c.split_after-3.result.1.now (record {
      first = c.split_after.ensures.whole;
      second = c.split_after-2.ensures.whole;
      third = c.split_after-3.ensures.whole;
      orgs_up = c.split_after.ensures.front;
      orgs_after = c.split_after.ensures.back;
      datasets_up = c.split_after-2.ensures.front;
      datasets_after = c.split_after-2.ensures.back;
      heads_up = c.split_after-3.ensures.front;
      heads_after = c.split_after-3.ensures.back;
    })
    (λ values have.
    let some = (c.in_ok-orgs.ensures values.orgs).1 have.orgs_read in
    let none = c.in_default.is in
    absurd (cc))

pub returns-in_default-2 : goal.returns-in_default-2
returns-in_default-2 c =
    refused c.args.rows.now c.split_after.result.0.now c.split_after.result.1.now c.split_after-2.result.0.now
    c.split_after-2.result.1.now c.split_after-3.result.0.now c.split_after-3.result.1.now (record {
      first = c.split_after.ensures.whole;
      second = c.split_after-2.ensures.whole;
      third = c.split_after-3.ensures.whole;
      orgs_up = c.split_after.ensures.front;
      orgs_after = c.split_after.ensures.back;
      datasets_up = c.split_after-2.ensures.front;
      datasets_after = c.split_after-2.ensures.back;
      heads_up = c.split_after-3.ensures.front;
      heads_after = c.split_after-3.ensures.back;
    })
    (λ values have.
    let some = (c.in_ok-datasets.ensures values.datasets).1 have.datasets_read in
    let none = c.in_default-2.is in
    absurd (cc))

pub returns-in-None : goal.returns-in-None
returns-in-None c =
    refused c.args.rows.now c.split_after.result.0.now c.split_after.result.1.now c.split_after-2.result.0.now
    c.split_after-2.result.1.now c.split_after-3.result.0.now c.split_after-3.result.1.now (record {
      first = c.split_after.ensures.whole;
      second = c.split_after-2.ensures.whole;
      third = c.split_after-3.ensures.whole;
      orgs_up = c.split_after.ensures.front;
      orgs_after = c.split_after.ensures.back;
      datasets_up = c.split_after-2.ensures.front;
      datasets_after = c.split_after-2.ensures.back;
      heads_up = c.split_after-3.ensures.front;
      heads_after = c.split_after-3.ensures.back;
    })
    (λ values have.
    let some = (c.in_ok-tables.ensures values.tables).1 have.tables_read in
    let none = c.in-None.is in
    absurd (cc))

pub returns-in-Some-3 : goal.returns-in-Some-3
returns-in-Some-3 c =
    all-read c.args.rows.now c.split_after.result.0.now c.split_after.result.1.now c.split_after-2.result.0.now
    c.split_after-2.result.1.now c.split_after-3.result.0.now c.split_after-3.result.1.now
    c.in_ok-orgs.field-0 c.in_ok-datasets.field-0
    c.in_ok-tables.field-0
    (record { orgs = c.in-Some.orgs; datasets = c.in-Some-2.datasets; tables = c.in-Some-3.tables }) c.requires
    (record {
      first = c.split_after.ensures.whole;
      second = c.split_after-2.ensures.whole;
      third = c.split_after-3.ensures.whole;
      orgs_up = c.split_after.ensures.front;
      orgs_after = c.split_after.ensures.back;
      datasets_up = c.split_after-2.ensures.front;
      datasets_after = c.split_after-2.ensures.back;
      heads_up = c.split_after-3.ensures.front;
      heads_after = c.split_after-3.ensures.back;
    })
    c.in_ok-orgs.ensures c.in_ok-datasets.ensures c.in_ok-tables.ensures c.in-Some.is c.in-Some-2.is c.in-Some-3.is

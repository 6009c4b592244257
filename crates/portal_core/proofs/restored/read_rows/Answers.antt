use Rattle.portal_core.proofs.RestoredRows.{both-read, no_harvests-read, no_values-read}
use Rattle.portal_core.proofs.restored.read_rows.Goals as goal

pub returns-in_default : goal.returns-in_default
returns-in_default c =
    no_values-read c.args.rows.now c.split_before_sources.result.0.now c.split_before_sources.result.1.now
    c.in_ok-values.field-0 (record {
      whole = c.split_before_sources.ensures.whole;
      up = c.split_before_sources.ensures.front;
      after = c.split_before_sources.ensures.back;
    })
    c.in_ok-values.ensures c.in_default.is

pub returns-in-Some-2 : goal.returns-in-Some-2
returns-in-Some-2 c =
    both-read c.args.rows.now c.split_before_sources.result.0.now c.split_before_sources.result.1.now
    c.in_ok-values.field-0 c.in_ok-harvests.field-0 c.in-Some.values c.in-Some-2.harvests (record {
      whole = c.split_before_sources.ensures.whole;
      up = c.split_before_sources.ensures.front;
      after = c.split_before_sources.ensures.back;
    })
    c.in_ok-values.ensures c.in_ok-harvests.ensures c.in-Some.is c.in-Some-2.is

pub returns-in-None : goal.returns-in-None
returns-in-None c =
    no_harvests-read c.args.rows.now c.split_before_sources.result.0.now c.split_before_sources.result.1.now
    c.in_ok-harvests.field-0 (record {
      whole = c.split_before_sources.ensures.whole;
      up = c.split_before_sources.ensures.front;
      after = c.split_before_sources.ensures.back;
    })
    c.in_ok-harvests.ensures c.in-None.is

use Rattle.std.proofs.Common.{sym}
use Rattle.table_schema.proofs.StampLemmas.{zoned_moment-short}
use Rattle.table_schema.proofs.stamp.zoned_moment.Goals as goal

pub returns-then-time-lt8 : goal.returns-then-time-lt8
returns-then-time-lt8 c = sym (zoned_moment-short c.args.date.now c.args.time.now c.if-time-lt8.true)

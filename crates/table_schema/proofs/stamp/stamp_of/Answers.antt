use Rattle.std.proofs.Common.{take, sym, ap, ◌∙◌}
use Rattle.std.proofs.lemmas.Bool.{cond-true}
use Rattle.portal_base.proofs.CalendarLemmas.{drop-rest}
use Rattle.table_schema.specs.Stamp.{stamp_reading, zoned_moment}
use Rattle.table_schema.proofs.StampLemmas.{stamp_reading-short, stamp_reading-unmarked}
use Rattle.table_schema.proofs.stamp.stamp_of.Goals as goal
use Rattle.table_schema.proofs.stamp.stamp_of.Goals.{then-text-lt19-via-then-text-lt19}
use Rattle.table_schema.proofs.stamp.stamp_of.Goals.{then-text-lt19-via-else-text-lt19+then-not-is_time_designator}

pub returns-then-text-lt19 : goal.returns-then-text-lt19
returns-then-text-lt19 c =
    sym (elim c.then-text-lt19.branch [
      | then-text-lt19-via-then-text-lt19 w ↦ stamp_reading-short c.args.text.now w.if-text-lt19.true
      | then-text-lt19-via-else-text-lt19+then-not-is_time_designator w ↦
          stamp_reading-unmarked c.args.text.now (sym w.is_time_designator.ensures ∙ w.if-not-is_time_designator.true)
    ])

pub returns : goal.returns
unfolding stamp_reading
returns c =
    let text = c.args.text.now in
    c.zoned_moment.ensures ∙ sym (cond-true _ _ _ (sym c.is_time_designator.ensures ∙ c.if-not-is_time_designator.false)
    ∙ ap (zoned_moment (take 10 text)) (drop-rest 11 text))

use Rattle.std.proofs.Common.{sym, ◌∙◌}
use Rattle.portal_base.proofs.CalendarLemmas.{moment_at-no_day, moment_at-no_time, moment_at-made, seconds_of-computed}
use Rattle.portal_base.proofs.CalendarLemmas.{date_reading-IsDay, time_reading-bound}
use Rattle.portal_base.proofs.moment.Moment.at.Goals as goal

pub returns-in_err-day : goal.returns-in_err-day
returns-in_err-day c =
    c.from_residual.ensures ∙ sym (moment_at-no_day c.args.date.now c.args.time.now (sym c.in_err-day.ensures))

pub returns-in_err-second : goal.returns-in_err-second
returns-in_err-second c = c.from_residual-in_err-second.ensures
    ∙ sym (moment_at-no_time c.args.date.now c.args.time.now (sym c.in_err-second.ensures))

pub returns : goal.returns
returns c =
    let dated = sym c.in_ok-day.ensures in
    let timed = sym c.in_ok-second.ensures in
    let seconds = seconds_of-computed _ _ _ _ (date_reading-IsDay c.args.date.now _ dated)
    (time_reading-bound c.args.time.now _ timed) c.from.ensures c.from-2.ensures in
    moment_at-made c.args.date.now c.args.time.now _ _ c.from_seconds.result _ dated timed seconds
    c.from_seconds.ensures.within.1 c.from_seconds.ensures.same

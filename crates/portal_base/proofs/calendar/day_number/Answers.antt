use Rattle.std.proofs.Common.{◌≡◌, true, false, refl, rules}
use Rattle.std.proofs.lemmas.Bool.{false_from_ne_true}
use Rattle.portal_base.specs.MomentReading.{has_day}
use Rattle.portal_base.proofs.CalendarLemmas.{has_day-is-IsDate}
use Rattle.portal_base.proofs.calendar.day_number.Goals as goal

pub returns-in-Ok : goal.returns-in-Ok
returns-in-Ok c =
    let date = has_day-is-IsDate c.args.year c.args.month c.args.day c.requires.year c.requires.month c.requires.day in
    let named : has_day c.args.year c.args.month c.args.day ≡ true = date.1 (c.in-Ok.ensures.succeeds.0 refl) in
    rw named (search rules)

pub returns-in-Err : goal.returns-in-Err
returns-in-Err c =
    let date = has_day-is-IsDate c.args.year c.args.month c.args.day c.requires.year c.requires.month c.requires.day in
    let unnamed : has_day c.args.year c.args.month c.args.day ≡ false =
    false_from_ne_true (has_day c.args.year c.args.month c.args.day)
    (λ t. cc (c.in-Err.ensures.succeeds.1 (date.0 t))) in
    rw unnamed refl

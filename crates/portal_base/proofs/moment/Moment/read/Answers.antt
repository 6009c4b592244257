use Rattle.std.proofs.Common.{take, sym, ap, ◌∙◌}
use Rattle.portal_base.specs.Calendar.{moment_at}
use Rattle.portal_base.specs.MomentReading.{moment_reading}
use Rattle.portal_base.proofs.CalendarLemmas.{moment_reading-at, moment_reading-other_length, moment_reading-unmarked}
use Rattle.portal_base.proofs.CalendarLemmas.{drop-rest}
use Rattle.portal_base.proofs.moment.Moment.read.Goals as goal
use Rattle.portal_base.proofs.moment.Moment.read.Goals.{then-bytes-ne19-via-then-bytes-ne19}
use Rattle.portal_base.proofs.moment.Moment.read.Goals.{then-bytes-ne19-via-else-bytes-ne19+then-bytes-ne84}

pub returns-then-bytes-ne19 : goal.returns-then-bytes-ne19
returns-then-bytes-ne19 c =
    let bytes = c.as_bytes-bytes.result.now in
    sym (elim c.then-bytes-ne19.branch [
      | then-bytes-ne19-via-then-bytes-ne19 w ↦ moment_reading-other_length bytes w.if-bytes-ne19.true
      | then-bytes-ne19-via-else-bytes-ne19+then-bytes-ne84 w ↦ moment_reading-unmarked bytes w.if-bytes-ne84.true
    ]) ∙ ap moment_reading c.as_bytes-bytes.ensures.value

pub returns : goal.returns
returns c =
    let bytes = c.as_bytes-bytes.result.now in
    c.at.ensures ∙ sym (ap (moment_at (take 10 bytes)) (drop-rest 11 bytes))
    ∙ moment_reading-at bytes c.if-bytes-ne19.false c.if-bytes-ne84.false
    ∙ ap moment_reading c.as_bytes-bytes.ensures.value

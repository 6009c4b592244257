-- The line that was taken is the one that was processed. What stopped processing it stopped the turn.
use Rattle.std.proofs.Common.{◌≡◌, ◌<◌, refl, sym, ap, subst, Ok, Err, ◌∙◌, length, true≢false}
use Rattle.portal_serve.proofs.Working.{processes_too_long, processes_lines, stops_in_writing, begins_no_line}
use Rattle.portal_serve.proofs.Working.{begun_in_line}
use Rattle.portal_links.proofs.Passing.{DrawsAll-same}
use Rattle.portal_serve.proofs.Working.{stops_same_line}
use Rattle.portal_serve.proofs.Playing.{stops_turn, stops_between, fails_between, read_failed}
use Rattle.portal_lines.specs.declared.lines.LineFault.TheVariants.{EarlierFault}
use Rattle.portal_serve.specs.declared.script.TheConstants.{LONGEST_LINE}
use Rattle.portal_serve.proofs.play.play_next.Goals as goal

pub returns-in-Err-play_line-clause-cut : goal.returns-in-Err-play_line-clause-cut
returns-in-Err-play_line-clause-cut g c =
    λ other.
    stops_turn _ _ _ _ _ _ _ _ _ _ (c.next.ensures.line (c.in-Ok-Line.is ∙ ap Ok c.in-Ok-Line.field-0-is))
    (begun_in_line _ _ c.end_of_call.ensures)
    (stops_same_line _ _ _ _ _ _ _ _ c.line.ensures c.in-Err-play_line.ensures.cut)

pub returns-in-Ok-write_early-clause-more : goal.returns-in-Ok-write_early-clause-more
returns-in-Ok-write_early-clause-more g c =
    let skips = c.next.ensures.long (c.in-Ok-TooLong.is ∙ ap Ok c.in-Ok-TooLong.field-0-is) in
    let long : LONGEST_LINE < length skips.0 = subst (λ n. n < length skips.0) c.requires.longest skips.2 in
    λ more. record {
      line = skips.0;
      takes = skips.1;
      processes = processes_lines _ _ _ _ _ _ _ _ _ (processes_too_long _ _ skips.0 long)
          (DrawsAll-same _ _ (ap g.C.Clock.given c.in-Ok-write_early.ensures.clock))
          (DrawsAll-same _ _ (ap g.N.Nonces.given c.in-Ok-write_early.ensures.nonces)) c.in-Ok-write_early.ensures.ok;
    }

pub returns-in-Err-write_early-clause-cut : goal.returns-in-Err-write_early-clause-cut
returns-in-Err-write_early-clause-cut g c =
    let skips = c.next.ensures.long (c.in-Ok-TooLong.is ∙ ap Ok c.in-Ok-TooLong.field-0-is) in
    let long : LONGEST_LINE < length skips.0 = subst (λ n. n < length skips.0) c.requires.longest skips.2 in
    λ other.
    stops_turn _ _ _ _ _ _ _ _ _ skips.0 skips.1 (begun_in_line _ _ c.end_of_call-in-Err-write_early.ensures)
    (stops_in_writing _ _ _ _ _ _ _ _ _ (processes_too_long _ _ skips.0 long)
    (DrawsAll-same _ _ (ap g.C.Clock.given c.in-Err-write_early.ensures.clock))
    (DrawsAll-same _ _ (ap g.N.Nonces.given c.in-Err-write_early.ensures.nonces)) c.in-Err-write_early.ensures.failed)

pub returns-in-Err-clause-cut : goal.returns-in-Err-clause-cut
returns-in-Err-clause-cut g c =
    let received = c.in-Err.ensures.received in
    λ other. stops_between _ _ _ _ _ _ _ _ _ received.0 received.1 received.2 (begins_no_line _ _ _ _ refl)

-- no fault came before this one
first : (g : _) (c : goal.After-end_of_fault g) → c.in-Err.fault ≡ EarlierFault → ⊥
first g c is =
    let earlier = c.next.ensures.earlier.1 (c.in-Err.is ∙ ap (λ f. Err f) is) in
    true≢false (sym earlier ∙ c.requires.goes_on)

pub returns-in-Err-clause-unended : goal.returns-in-Err-clause-unended
returns-in-Err-clause-unended g c =
    λ stops.
    let failed = read_failed c.in-Err.fault c.end_of_fault.result (first g c) c.end_of_fault.ensures stops in
    let received = c.next.ensures.unended (c.in-Err.is ∙ ap (λ f. Err f) failed) in
    fails_between _ _ _ _ _ _ _ _ received.0 received.1 received.2 received.3 (begins_no_line _ _ _ _ refl)

-- There is room for the report before the round begins. Whatever stops the line, its round was not begun, was made in part, or
-- went to its end.
use Rattle.std.proofs.Common.{[], ◌∷◌, ◌++◌, ap, ◌∙◌}
use Rattle.std.proofs.lemmas.Result.{on_ok_weaker, on_err_weaker}
use Rattle.portal_serve.proofs.Rounding.{processes_round, stops_after_round, stops_before_round, stops_in_round}
use Rattle.portal_serve.proofs.play.play_round.Goals as goal

pub returns-then-is_err-clause-cut : goal.returns-then-is_err-clause-cut
returns-then-is_err-clause-cut g c = λ line is. stops_before_round _ _ _ _ _ _ _ _ c.reserve.ensures.items

pub returns-in-Ok-clause-ok : goal.returns-in-Ok-clause-ok
returns-in-Ok-clause-ok g c =
    λ line is.
    on_ok_weaker c.write_report-written.result
    (λ takes. processes_round _ _ _ _ _ _ _ _ line _ c.in-Ok.report _ _ is c.in-Ok.ensures.fetchers c.in-Ok.ensures.makes
    (c.push_reserved.ensures.items ∙ ap (λ r. r ++ c.in-Ok.report ∷ []) c.reserve.ensures.items) takes
    (ap g.C.Clock.given c.write_report-written.ensures.clock) (ap g.N.Nonces.given c.write_report-written.ensures.nonces))
    c.write_report-written.ensures.ok

pub returns-in-Ok-clause-cut : goal.returns-in-Ok-clause-cut
returns-in-Ok-clause-cut g c =
    λ line is.
    on_err_weaker c.write_report-written.result
    (λ part. stops_after_round _ _ _ _ _ _ _ _ line _ c.in-Ok.report _ _ is c.in-Ok.ensures.fetchers
    c.in-Ok.ensures.makes
    (c.push_reserved.ensures.items ∙ ap (λ r. r ++ c.in-Ok.report ∷ []) c.reserve.ensures.items) part
    (ap g.C.Clock.given c.write_report-written.ensures.clock) (ap g.N.Nonces.given c.write_report-written.ensures.nonces))
    c.write_report-written.ensures.failed

pub returns-in-Err-Keeper-clause-cut : goal.returns-in-Err-Keeper-clause-cut
returns-in-Err-Keeper-clause-cut g c =
    λ line is.
    stops_in_round _ _ _ _ _ _ _ _ line _ _ is c.in-Err-Keeper.ensures.fetchers c.in-Err-Keeper.ensures.makes
    c.reserve.ensures.items

pub returns-in-Err-OutOfMemory-clause-cut : goal.returns-in-Err-OutOfMemory-clause-cut
returns-in-Err-OutOfMemory-clause-cut g c =
    λ line is.
    stops_in_round _ _ _ _ _ _ _ _ line _ _ is c.in-Err-OutOfMemory.ensures.fetchers
    c.in-Err-OutOfMemory.ensures.makes c.reserve.ensures.items

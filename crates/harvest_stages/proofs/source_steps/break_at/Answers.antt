use Rattle.std.proofs.Common.{◌∙◌, ap, sym}
use Rattle.std.specs.Option.{option_copied}
use Rattle.harvest_stages.proofs.PreparedLemmas.{break_made}
use Rattle.harvest_stages.proofs.source_steps.break_at.Goals as goal

pub returns-in_ok-report-in-Some : goal.returns-in_ok-report-in-Some
returns-in_ok-report-in-Some c =
    break_made c.args.place c.args.source.now.state c.in-Some.job.now c.args.cause c.in_ok-report-in-Some.report
    c.step_at.result (sym c.unlisted_job.ensures ∙ ap option_copied c.in-Some.is) c.in_ok-report-in-Some.ensures
    c.step_at.ensures

use Rattle.std.proofs.Common.{◌∙◌, sym}
use Rattle.harvest_stages.proofs.PreparedLemmas.{end_made}
use Rattle.harvest_stages.proofs.source_steps.end_at.Goals as goal

pub returns : goal.returns
returns c =
    end_made c.args.place c.args.source.now.state c.args.deleted c.in_ok-report.report c.in_ok-try_clone.field-0
    c.step_at.result (sym c.is_settled.ensures ∙ c.if-not-is_settled.false) c.in_ok-report.ensures
    c.in_ok-try_clone.ensures c.step_at.ensures

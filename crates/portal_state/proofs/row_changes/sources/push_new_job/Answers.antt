use Rattle.std.proofs.Common.{◌≡◌, List, OnOk, subst}
use Rattle.portal_keeper.specs.declared.change.Change.{Change}
use Rattle.portal_state.proofs.SourceRows.{new_job_changes}
use Rattle.portal_state.proofs.row_changes.sources.push_new_job.Goals as goal

pub returns-clause-changes : goal.returns-clause-changes
returns-clause-changes c =
    subst (λ (l : List Change). OnOk c.push_job.result (c.push_job.new.changes.items ≡ l))
    (new_job_changes c.args.changes.now.items c.push_change.new.changes.items c.args.source.now.state c.args.created
    c.source.result.now c.source-2.result.now c.in_ok-numbered.numbered c.in_ok-job.job c.in_ok-push_change.ensures
    c.source.ensures.source c.source-2.ensures.source c.in_ok-numbered.ensures.source c.in_ok-job.ensures)
    c.push_job.ensures

-- The one desk is all of its list.
use Rattle.std.proofs.Common.{◌∙◌, sym}
use Rattle.portal_cli.proofs.Around.{holds_of_only}
use Rattle.portal_cli.proofs.run.run.Goals as goal

pub returns-clause-runs : goal.returns-clause-runs
returns-clause-runs g c =
    holds_of_only _ _ _ _ c.requires.desk c.index_mut.ensures.value
    (rw c.report.ensures.status c.carry_out-status.ensures.runs)

pub returns-clause-rule : goal.returns-clause-rule
returns-clause-rule g c = rw c.report.ensures.status c.carry_out-status.ensures.rule

pub returns-clause-read_fault : goal.returns-clause-read_fault
returns-clause-read_fault g c = λ is. c.carry_out-status.ensures.read_fault (sym c.report.ensures.status ∙ is)

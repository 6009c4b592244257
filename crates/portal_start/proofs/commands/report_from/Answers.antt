-- The report was written on the portal that the run began with.
use Rattle.std.proofs.Common.{inl}
use Rattle.portal_start.specs.Start.{beginning_with}
use Rattle.portal_start.proofs.commands.report_from.Goals as goal

pub returns-in-Ok-clause-reports : goal.returns-in-Ok-clause-reports
returns-in-Ok-clause-reports g c =
    inl (beginning_with c.in-Ok.start.opening c.in-Ok.start.tokens, c.in-Ok.ensures.begins, c.report_over.ensures.reports)

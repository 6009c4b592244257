use Rattle.std.proofs.Common.{◌≡◌, map, take}
use Rattle.harvest_sources.specs.ReportJson.{report_dictionary}
use Rattle.harvest_pool.proofs.report.report_dictionaries.Given as goal

-- the dictionaries so far
abbrev pub invariant-loop-report : goal.invariant-loop-report
invariant-loop-report l = l.list.items ≡ map report_dictionary (take l.report-index l.reports)

use Rattle.std.proofs.Common.{◌≡◌, map, take}
use Rattle.harvest_sources.specs.ReportJson.{bad_dictionary}
use Rattle.harvest_sources.proofs.reports.bad_list.Given as goal

-- the dictionaries so far
abbrev pub invariant-loop-iri : goal.invariant-loop-iri
invariant-loop-iri l = l.list.items ≡ map bad_dictionary (take l.iri-index l.iri-items)

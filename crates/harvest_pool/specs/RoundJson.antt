-- The dictionary of a round's report.
use Rattle.std.specs.Prelude.{[], ◌∷◌, map, codes}
use Rattle.portal_base.specs.declared.json_value.Json.{Json}
use Rattle.portal_base.specs.declared.json_value.Json as json
use Rattle.harvest_sources.specs.ReportJson.{report_dictionary}
use Rattle.harvest_pool.specs.declared.report.RoundReport.{RoundReport}

-- the reports of its sources
abbrev pub round_dictionary : RoundReport → Json
round_dictionary report = json.Map ((codes "sources", json.List (map report_dictionary report.sources)) ∷ [])

-- The dictionaries of sources and jobs, with keys that ascend by bytes.
use Rattle.std.specs.Prelude.{[], ◌∷◌, codes, Option, option_map}
use Rattle.portal_base.specs.declared.caller.Caller.{Caller}
use Rattle.portal_base.specs.MomentText.{moment_text}
use Rattle.portal_base.specs.declared.json_value.Json.{Json}
use Rattle.portal_base.specs.declared.json_value.Json as json
use Rattle.org_roles.specs.PeopleLists.{PeopleLists}
use Rattle.harvest_sources.specs.Jobs.{id_of_job}
use Rattle.harvest_sources.specs.ReportJson.{report_dictionary, state_name}
use Rattle.harvest_sources.specs.Sources.{SourceWithRoom}
use Rattle.harvest_sources.specs.declared.job.Job.{Job}
use Rattle.harvest_sources.specs.declared.source.HarvestSource.{HarvestSource}
use Rattle.harvest_answers.specs.View.{seen_part}

-- a source, whose id is its name
abbrev pub source_dictionary : HarvestSource → Json
source_dictionary source = json.Map (
    (codes "id", json.Text source.name)
    ∷ (codes "name", json.Text source.name)
    ∷ (codes "owner_org", json.Text source.owner_org)
    ∷ (codes "title", json.Text source.title)
    ∷ (codes "url", json.Text source.url)
    ∷ [])

-- the same, if the caller sees the source
abbrev pub seen_dictionary : PeopleLists → Caller → SourceWithRoom → Option Json
seen_dictionary people caller s = option_map (λ seen. source_dictionary seen.source) (seen_part people caller s.state)

-- a job, with what it has done
abbrev pub job_dictionary : Job → Json
job_dictionary job = json.Map (
    (codes "created", json.Text (moment_text job.created))
    ∷ (codes "id", json.Text (id_of_job job))
    ∷ (codes "source_id", json.Text job.source)
    ∷ (codes "state", json.Text (state_name job.report.state))
    ∷ (codes "stats", report_dictionary job.report)
    ∷ [])

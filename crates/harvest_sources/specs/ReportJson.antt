-- The dictionary of a report on a job, with keys that ascend by bytes.
use Rattle.std.specs.Prelude.{ℕ, pos, List, [], ◌∷◌, map, codes}
use Rattle.portal_base.specs.declared.json_value.Json.{Json}
use Rattle.portal_base.specs.declared.json_value.Json as json
use Rattle.harvest_sources.specs.Causes.{cause_text}
use Rattle.harvest_sources.specs.declared.cause.Cause.{Cause}
use Rattle.harvest_sources.specs.declared.job.JobState.{JobState}
use Rattle.harvest_sources.specs.declared.job.JobState.TheVariants.{New, Running, Finished, Broken}
use Rattle.harvest_sources.specs.declared.job.SourceReport.{SourceReport}

abbrev pub state_name : JobState → List ℕ
state_name New = codes "New"
state_name Running = codes "Running"
state_name Finished = codes "Finished"
state_name (Broken cause) = codes "Broken"

-- the text of the cause of a broken job
abbrev pub state_cause_text : JobState → List ℕ
state_cause_text New = []
state_cause_text Running = []
state_cause_text Finished = []
state_cause_text (Broken cause) = cause_text cause

-- a listed IRI that gave no dataset, with its cause
abbrev pub bad_dictionary : List ℕ × Cause → Json
bad_dictionary bad = json.Map (
    (codes "cause", json.Text (cause_text bad.1))
    ∷ (codes "iri", json.Text bad.0)
    ∷ [])

abbrev pub report_dictionary : SourceReport → Json
report_dictionary report = json.Map (
    (codes "added", json.Whole (pos report.added))
    ∷ (codes "bad", json.List (map bad_dictionary report.bad))
    ∷ (codes "cause", json.Text (state_cause_text report.state))
    ∷ (codes "deleted", json.Whole (pos report.deleted))
    ∷ (codes "source", json.Text report.source)
    ∷ (codes "state", json.Text (state_name report.state))
    ∷ (codes "unchanged", json.Whole (pos report.unchanged))
    ∷ (codes "unnamed", json.Whole (pos report.unnamed))
    ∷ (codes "updated", json.Whole (pos report.updated))
    ∷ [])

use Rattle.std.proofs.Common.{◌≡◌, ℕ, ℤ, List, [], ◌∷◌, subst}
use Rattle.std.specs.Prelude.{IfOk, codes}
use Rattle.portal_base.specs.MomentText.{moment_text}
use Rattle.portal_base.specs.declared.json_value.Json.{Json}
use Rattle.portal_base.specs.declared.json_value.Json as json
use Rattle.harvest_sources.specs.ReportJson.{state_name}
use Rattle.harvest_rows.proofs.jobs.job_json.Goals as goal

-- the value of a job, with these parts
abbrev stated : ℤ → List ℕ → Json → Json
stated created state stats = json.Map (
    (codes "created", json.Text (moment_text created))
    ∷ (codes "state", json.Text state)
    ∷ (codes "stats", stats)
    ∷ [])

pub returns : goal.returns
returns c =
    subst (λ (stats : Json). IfOk c.dictionary.result
    (λ made. made ≡ stated c.args.created (state_name c.args.report.now.state) stats)) c.in_ok-stats.ensures
    (subst (λ (name : List ℕ). IfOk c.dictionary.result
    (λ made. made ≡ stated c.args.created name c.in_ok-stats.stats)) c.name.ensures
    c.dictionary.ensures.same)

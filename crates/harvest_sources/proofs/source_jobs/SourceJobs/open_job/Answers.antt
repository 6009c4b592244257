use Rattle.std.proofs.Common.{◌≡◌, rules, ap, sym, ◌∙◌}
use Rattle.std.specs.Prelude.{slice_get}
use Rattle.std.specs.Option.{option_copied}
use Rattle.std.proofs.lemmas.Option.{gets}
use Rattle.harvest_sources.specs.Jobs.{is_open}
use Rattle.harvest_sources.proofs.PlaceLemmas.{find-no_position, find-position}
use Rattle.harvest_sources.proofs.source_jobs.SourceJobs.open_job.Goals as goal

pub returns-in_err-self-clause-job : goal.returns-in_err-self-clause-job
returns-in_err-self-clause-job c =
    rw (← c.self.view_is) (ap option_copied c.from_residual.ensures
    ∙ sym (find-no_position is_open c.self.inside.jobs.items (sym c.self.invariant.current ∙ c.in_err-self.was)))

pub returns-clause-job : goal.returns-clause-job
returns-clause-job c =
    let got : option_copied c.get.result ≡ slice_get c.self.inside.jobs.items c.in_ok-self.field-0 =
    search (gets, rules) in
    rw (← c.self.view_is) (got
    ∙ sym (find-position is_open c.self.inside.jobs.items c.in_ok-self.field-0
    (sym c.self.invariant.current ∙ c.in_ok-self.was)))

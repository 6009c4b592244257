use Rattle.std.proofs.Common.{◌∙◌, sym}
use Rattle.std.specs.Prelude.{is_some}
use Rattle.harvest_sources.specs.Steps.{waiting_of}
use Rattle.harvest_stages.proofs.LocatedLemmas.{first_passes, none_passes, read_at, state_at}
use Rattle.harvest_stages.proofs.located.first_waiting.Goals as goal

pub returns-in_err-place-clause-source : goal.returns-in_err-place-clause-source
returns-in_err-place-clause-source c =
    rw c.from_residual.ensures
    (sym (none_passes (λ s. is_some (waiting_of s)) c.args.sources.now
    (sym c.waiting_place.ensures.place ∙ c.in_err-place.was)))

pub returns-clause-source : goal.returns-clause-source
returns-clause-source c =
    sym (first_passes (λ s. is_some (waiting_of s)) c.args.sources.now c.in_ok-place.place c.index-sources-place.result
    (sym c.waiting_place.ensures.place ∙ c.in_ok-place.was) c.in_ok-place.ensures.within c.index-sources-place.is)

pub returns-clause-place : goal.returns-clause-place
returns-clause-place c =
    state_at c.args.sources.now c.in_ok-place.place c.index-sources-place.result
    (read_at c.args.sources.now c.in_ok-place.place c.index-sources-place.result c.in_ok-place.ensures.within
    c.index-sources-place.is)

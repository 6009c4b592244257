use Rattle.std.proofs.Common.{◌≡◌, IsTrue, IfSome, Some, None, sym, subst, ◌∙◌}
use Rattle.std.specs.Prelude.{position}
use Rattle.harvest_sources.specs.Entries.{with_job}
use Rattle.harvest_sources.specs.Jobs.{in_state, is_open, is_running_state}
use Rattle.harvest_sources.specs.Sources.{SourceState, SourceWithRoom, is_listed, open_job}
use Rattle.harvest_sources.proofs.JobLemmas.{state_set_is, state_set_places, with_job_at, with_state}
use Rattle.harvest_sources.proofs.PlaceLemmas.{find-no_position}
use Rattle.harvest_sources.proofs.source_jobs.SourceJobs.set_state.Goals as goal

pub invariant_of-self : goal.invariant_of-self
invariant_of-self c =
    let s : SourceState = record {
      source = c.self.inside.source;
      jobs = c.self.inside.jobs.items;
      listing = c.self.inside.listing;
    } in
    let at : position is_open s.jobs ≡ Some c.in-Some.index = sym c.self.invariant.current ∙ c.in-Some.is in
    let runs = subst (λ (v : SourceWithRoom). IsTrue (is_listed v.state) → IsTrue (is_running_state c.args.state))
    (sym c.self.view_is) c.requires in
    rw (c.then_some-self-inside.ensures, c.is_open.ensures)
    (state_set_places s c.in-Some.index c.index_mut.result.now c.args.state c.self.invariant.jobs at
    c.index_mut.ensures.value c.self.inside.waiting c.self.invariant.waiting runs)

pub returns-in-Some-clause-state : goal.returns-in-Some-clause-state
returns-in-Some-clause-state c =
    let s : SourceState = record {
      source = c.self.inside.source;
      jobs = c.self.inside.jobs.items;
      listing = c.self.inside.listing;
    } in
    let at : position is_open s.jobs ≡ Some c.in-Some.index = sym c.self.invariant.current ∙ c.in-Some.is in
    subst (λ (v : SourceWithRoom). IfSome (open_job v.state) (λ j.
    with_job_at c.in-Some.index (with_state c.args.state c.index_mut.result.now) s.listing s
    ≡ with_job (in_state c.args.state j) v.state)) c.self.view_is
    (state_set_is s c.in-Some.index c.index_mut.result.now c.args.state c.self.invariant.jobs at
    c.index_mut.ensures.value)

pub returns-in-Some-clause-holds : goal.returns-in-Some-clause-holds
returns-in-Some-clause-holds c = (invariant_of-self c).jobs

pub returns-in_default-clause-state : goal.returns-in_default-clause-state
returns-in_default-clause-state c =
    let nothing = find-no_position is_open c.self.inside.jobs.items (sym c.self.invariant.current ∙ c.in_default.is) in
    let none : open_job c.args.self.now.state ≡ None =
    subst (λ (v : SourceWithRoom). open_job v.state ≡ None) c.self.view_is nothing in
    subst (λ o. IfSome o (λ job. c.args.self.now.state
    ≡ with_job (in_state c.args.state job) c.args.self.now.state)) (sym none) tt

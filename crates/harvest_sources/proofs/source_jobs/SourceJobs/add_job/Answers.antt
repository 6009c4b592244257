use Rattle.std.specs.Prelude.{if◌then◌else◌, is_ok}
use Rattle.std.proofs.Common.{◌≡◌, ap, None, ◌++◌, [], ◌∷◌, rules, sym, subst, ◌∙◌, ◌+◌}
use Rattle.harvest_sources.specs.Entries.{with_new_job}
use Rattle.harvest_sources.specs.Jobs.{new_job}
use Rattle.harvest_sources.specs.Sources.{SourceState, SourceWithRoom, open_job}
use Rattle.harvest_sources.proofs.JobLemmas.{pushed_places, pushed_state}
use Rattle.harvest_sources.proofs.source_jobs.SourceJobs.add_job.Goals as goal

pub invariant_of-self : goal.invariant_of-self
invariant_of-self c =
    let s : SourceState = record {
      source = c.self.inside.source;
      jobs = c.self.inside.jobs.items;
      listing = c.self.inside.listing;
    } in
    let ended : open_job s ≡ None =
    subst (λ (v : SourceWithRoom). open_job v.state ≡ None) (sym c.self.view_is) c.requires.ended in
    let job : c.args.job ≡ new_job s.source.name s.source.next_job c.args.job.created =
    subst (λ (v : SourceWithRoom). c.args.job
    ≡ new_job v.state.source.name v.state.source.next_job c.args.job.created) (sym c.self.view_is) c.requires.job in
    let pushed : c.push.new.self.items ≡ s.jobs ++ c.args.job ∷ [] =
    c.push.ensures.items ∙ ap (λ r. if is_ok r then s.jobs ++ c.args.job ∷ [] else s.jobs) c.unwrap.ensures in
    pushed_places s c.args.job c.push.new.self.items c.len.result c.self.inside.waiting c.self.invariant.jobs ended job
    c.self.invariant.waiting (c.len.ensures ∙ search rules) pushed

pub returns-clause-state : goal.returns-clause-state
returns-clause-state c =
    let s : SourceState = record {
      source = c.self.inside.source;
      jobs = c.self.inside.jobs.items;
      listing = c.self.inside.listing;
    } in
    let ended : open_job s ≡ None =
    subst (λ (v : SourceWithRoom). open_job v.state ≡ None) (sym c.self.view_is) c.requires.ended in
    let job : c.args.job ≡ new_job s.source.name s.source.next_job c.args.job.created =
    subst (λ (v : SourceWithRoom). c.args.job
    ≡ new_job v.state.source.name v.state.source.next_job c.args.job.created) (sym c.self.view_is) c.requires.job in
    let pushed : c.push.new.self.items ≡ s.jobs ++ c.args.job ∷ [] =
    c.push.ensures.items ∙ ap (λ r. if is_ok r then s.jobs ++ c.args.job ∷ [] else s.jobs) c.unwrap.ensures in
    subst (λ (v : SourceWithRoom). record s {
      source = record s.source { next_job = s.source.next_job + 1 };
      jobs = c.push.new.self.items;
    } ≡ with_new_job c.args.job v.state) c.self.view_is
    (pushed_state s c.args.job c.push.new.self.items c.self.invariant.jobs ended job pushed)

pub returns-clause-holds : goal.returns-clause-holds
returns-clause-holds c = (invariant_of-self c).jobs

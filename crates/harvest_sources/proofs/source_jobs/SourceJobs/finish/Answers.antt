use Rattle.std.proofs.Common.{◌≡◌, ℕ, pos, [], IsTrue, IfSome, Some, None, sym, subst, ◌∙◌}
use Rattle.std.specs.Prelude.{position}
use Rattle.harvest_sources.specs.Entries.{with_job, with_listing}
use Rattle.harvest_sources.specs.Jobs.{is_open, with_report}
use Rattle.harvest_sources.specs.Listings.{finished_report}
use Rattle.harvest_sources.specs.Sources.{SourceState, SourceWithRoom, open_job}
use Rattle.harvest_sources.specs.Steps.{is_settled}
use Rattle.harvest_sources.specs.declared.job.Job.{Job}
use Rattle.harvest_sources.proofs.JobLemmas.{finish_given, finished_is, finished_places}
use Rattle.harvest_sources.proofs.PlaceLemmas.{find-no_position}
use Rattle.harvest_sources.proofs.source_jobs.SourceJobs.finish.Goals as goal

pub invariant_of-self : goal.invariant_of-self
invariant_of-self c =
    let s : SourceState = record {
      source = c.self.inside.source;
      jobs = c.self.inside.jobs.items;
      listing = c.self.inside.listing;
    } in
    let at : position is_open s.jobs ≡ Some c.in-Some.index = sym c.self.invariant.current ∙ c.in-Some.is in
    let given = finish_given s c.args.report
    (subst (λ (v : SourceWithRoom). IsTrue (is_settled v.state)) (sym c.self.view_is) c.requires.settled)
    (subst (λ (v : SourceWithRoom). IfSome v.state.listing (λ listing.
    (deleted : ℕ) × (c.args.report ≡ finished_report v.state.source.name listing deleted)))
    (sym c.self.view_is) c.requires.report) in
    let d : Job = record { source = []; number = 0; created = pos 0; report = c.args.report } in
    rw c.forget.ensures
    (finished_places s c.in-Some.index d c.args.report c.put_report.new.jobs.items c.self.invariant.jobs at given.0
    given.1 (c.put_report.ensures d))

pub returns-in-Some-clause-state : goal.returns-in-Some-clause-state
returns-in-Some-clause-state c =
    let s : SourceState = record {
      source = c.self.inside.source;
      jobs = c.self.inside.jobs.items;
      listing = c.self.inside.listing;
    } in
    let at : position is_open s.jobs ≡ Some c.in-Some.index = sym c.self.invariant.current ∙ c.in-Some.is in
    let given = finish_given s c.args.report
    (subst (λ (v : SourceWithRoom). IsTrue (is_settled v.state)) (sym c.self.view_is) c.requires.settled)
    (subst (λ (v : SourceWithRoom). IfSome v.state.listing (λ listing.
    (deleted : ℕ) × (c.args.report ≡ finished_report v.state.source.name listing deleted)))
    (sym c.self.view_is) c.requires.report) in
    let d : Job = record { source = []; number = 0; created = pos 0; report = c.args.report } in
    subst (λ (v : SourceWithRoom). IfSome (open_job v.state) (λ j.
    record s { jobs = c.put_report.new.jobs.items; listing = c.forget.new.place }
    ≡ with_listing None (with_job (with_report c.args.report j) v.state))) c.self.view_is
    (subst (λ l. IfSome (open_job s) (λ j. record s { jobs = c.put_report.new.jobs.items; listing = l }
    ≡ with_listing None (with_job (with_report c.args.report j) s))) (sym c.forget.ensures)
    (finished_is s c.in-Some.index d c.args.report c.put_report.new.jobs.items c.self.invariant.jobs at given.0
    given.1 (c.put_report.ensures d)))

pub returns-in-Some-clause-holds : goal.returns-in-Some-clause-holds
returns-in-Some-clause-holds c = (invariant_of-self c).jobs

pub returns-in_default-clause-state : goal.returns-in_default-clause-state
returns-in_default-clause-state c =
    let nothing = find-no_position is_open c.self.inside.jobs.items (sym c.self.invariant.current ∙ c.in_default.is) in
    let none : open_job c.args.self.now.state ≡ None =
    subst (λ (v : SourceWithRoom). open_job v.state ≡ None) c.self.view_is nothing in
    subst (λ o. IfSome o (λ job. c.args.self.now.state
    ≡ with_listing None (with_job (with_report c.args.report job) c.args.self.now.state))) (sym none) tt

use Rattle.std.proofs.Common.{◌≡◌, ◌∙◌, ℕ, List, Option, Some, None, ap, cond, refl, sym}
use Rattle.std.specs.Option.{option_copied}
use Rattle.harvest_sources.specs.Jobs.{split_job_id}
use Rattle.harvest_sources.specs.Sources.{SourceWithRoom, source_cmp, states, stored_cmp}
use Rattle.harvest_stages.proofs.LocatedLemmas.{found_at, named_nowhere, none_at, read_at, state_at, undotted_nowhere}
use Rattle.harvest_stages.proofs.MapLemmas.{map-IsAscending}
use Rattle.harvest_stages.proofs.SourceLemmas.{nowhere}
use Rattle.harvest_stages.proofs.located.source_of_job.Goals as goal

pub returns-in_err-name-clause-source : goal.returns-in_err-name-clause-source
returns-in_err-name-clause-source c =
    let nothing : Option (List ℕ × List ℕ) = None in
    let split : nothing ≡ split_job_id c.args.id.now = rw c.in_err-name.was at c.split_job_id.ensures in
    rw c.from_residual.ensures (sym (undotted_nowhere (states c.args.sources.now) c.args.id.now (sym split)))

pub place_of-requires : goal.place_of-requires
place_of-requires c =
    map-IsAscending (λ (s : SourceWithRoom). s.state) stored_cmp source_cmp (λ s t. refl) c.args.sources.now
    c.requires.ascending

pub returns-in_err-place-clause-source : goal.returns-in_err-place-clause-source
returns-in_err-place-clause-source c =
    let split : Some (c.in_ok-name.name.now, c.in_ok-name.field-0-1.now) ≡ split_job_id c.args.id.now =
    rw c.in_ok-name.was at c.split_job_id.ensures in
    rw c.from_residual-in_err-place.ensures
    (sym (named_nowhere (states c.args.sources.now) c.args.id.now c.in_ok-name.name.now c.in_ok-name.field-0-1.now
    c.requires (sym split)
    (nowhere c.args.sources.now c.in_ok-name.name.now (sym c.place_of.ensures.place ∙ c.in_err-place.was))))

pub returns-in_err-job-clause-source : goal.returns-in_err-job-clause-source
returns-in_err-job-clause-source c =
    let split : Some (c.in_ok-name.name.now, c.in_ok-name.field-0-1.now) ≡ split_job_id c.args.id.now =
    rw c.in_ok-name.was at c.split_job_id.ensures in
    rw c.from_residual-in_err-job.ensures
    (sym (none_at c.args.sources.now c.args.id.now c.in_ok-name.name.now c.in_ok-name.field-0-1.now
    c.in_ok-place.place c.index-sources-place.result c.requires (sym split)
    (sym c.place_of.ensures.place ∙ c.in_ok-place.was) c.in_ok-place.ensures.within c.index-sources-place.is
    (sym c.open_job.ensures.job ∙ ap option_copied c.in_err-job.was)))

pub returns-then-is_job_id-clause-source : goal.returns-then-is_job_id-clause-source
returns-then-is_job_id-clause-source c =
    let split : Some (c.in_ok-name.name.now, c.in_ok-name.field-0-1.now) ≡ split_job_id c.args.id.now =
    rw c.in_ok-name.was at c.split_job_id.ensures in
    sym (found_at c.args.sources.now c.args.id.now c.in_ok-name.name.now c.in_ok-name.field-0-1.now
    c.in_ok-place.place c.index-sources-place.result c.requires (sym split)
    (sym c.place_of.ensures.place ∙ c.in_ok-place.was) c.in_ok-place.ensures.within c.index-sources-place.is
    c.in_ok-job.job.now c.as_str.result.now c.is_job_id.result
    (sym c.open_job.ensures.job ∙ ap option_copied c.in_ok-job.was) c.as_str.ensures c.is_job_id.ensures
    ∙ ap (λ b. cond b (Some c.index-sources-place.result.state) None) c.if-is_job_id.true)

pub returns-then-is_job_id-clause-place : goal.returns-then-is_job_id-clause-place
returns-then-is_job_id-clause-place c =
    state_at c.args.sources.now c.in_ok-place.place c.index-sources-place.result
    (read_at c.args.sources.now c.in_ok-place.place c.index-sources-place.result c.in_ok-place.ensures.within
    c.index-sources-place.is)

pub returns-else-is_job_id-clause-source : goal.returns-else-is_job_id-clause-source
returns-else-is_job_id-clause-source c =
    let split : Some (c.in_ok-name.name.now, c.in_ok-name.field-0-1.now) ≡ split_job_id c.args.id.now =
    rw c.in_ok-name.was at c.split_job_id.ensures in
    sym (found_at c.args.sources.now c.args.id.now c.in_ok-name.name.now c.in_ok-name.field-0-1.now
    c.in_ok-place.place c.index-sources-place.result c.requires (sym split)
    (sym c.place_of.ensures.place ∙ c.in_ok-place.was) c.in_ok-place.ensures.within c.index-sources-place.is
    c.in_ok-job.job.now c.as_str.result.now c.is_job_id.result
    (sym c.open_job.ensures.job ∙ ap option_copied c.in_ok-job.was) c.as_str.ensures c.is_job_id.ensures
    ∙ ap (λ b. cond b (Some c.index-sources-place.result.state) None) c.if-is_job_id.false)

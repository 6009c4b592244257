-- Sources that are restored from kept ones, and their relation to the sources of a valid state.
use Rattle.std.proofs.Common.{◌≡◌, ◌∙◌, List, All, IfNone, IfOk, IfSome, None, Option, Some, map, sym, ap, subst}
use Rattle.std.specs.Prelude.{Err, Ok, Result, option_map}
use Rattle.std.specs.List.Sorted.{IsPermutation}
use Rattle.std.proofs.lemmas.List.Elements.{All-map}
use Rattle.std.proofs.lemmas.List.Sorted.{Contains-permutation, IsPermutation-sym}
use Rattle.portal_base.specs.Ordered.{ascending}
use Rattle.portal_base.proofs.Inserted.{IsAscending-ascending}
use Rattle.portal_base.proofs.Unique.{Contains-IsIn, IsIn, IsIn-Contains, IsIn-ascending, ascending-IsIn, unique}
use Rattle.portal_base.proofs.Upserted.{All-IsIn, All-each, ascending-same}
use Rattle.org_roles.specs.PeopleLists.{PeopleLists}
use Rattle.packages.proofs.FindLemmas.{IsIn-map, map-IsIn}
use Rattle.dataset_answers.specs.Sound.{OrgExists}
use Rattle.harvest_rows.specs.KeptHarvests.{AreKeptHarvests, kept_job_cmp, kept_job_cmp_total}
use Rattle.harvest_rows.specs.Rows.{IsKeptJob, IsKeptSource}
use Rattle.harvest_rows.specs.declared.kept_harvests.KeptHarvests.{KeptHarvests}
use Rattle.harvest_sources.specs.Sources.{SourceState}
use Rattle.harvest_sources.specs.declared.job.Job.{Job}
use Rattle.harvest_sources.specs.declared.source.HarvestSource.{HarvestSource}
use Rattle.harvest_stages.specs.AtRest.{IsAtRest, all_jobs, at_rest, bare_sources, job_at_rest}
use Rattle.harvest_stages.specs.Restored.{name_cmp_total, name_cmp, restored}
use Rattle.harvest_stages.specs.Stages.{StagesWithRoom, sources_in}
use Rattle.harvest_stages.proofs.PartLemmas.{IsPermutation-ascending, left-IsIn}
use Rattle.harvest_stages.proofs.RestLemmas.{all_rest}
use Rattle.harvest_stages.proofs.RestoringLaws.{made_jobs, made_order, made_rests, made_sound, restored_again}
use Rattle.portal_core.specs.Restored.{AreHarvestsOf}
use Rattle.portal_state.specs.Typed.{IsTypedSource}
use Rattle.portal_core.proofs.HarvestValues.{all_jobs-apart}
use Rattle.portal_state.proofs.RowMembers.{IsIn-flat_map}

-- each source belongs to an organization that exists
abbrev pub HaveOwners : PeopleLists → List HarvestSource → Type 0
HaveOwners people sources = All (λ source. OrgExists people source.owner_org) sources

-- Each kept job is on its own source.
pub jobs_reported : (kept : KeptHarvests) → AreKeptHarvests kept
    → All (λ (job : Job). job.report.source ≡ job.source) kept.jobs
jobs_reported kept are =
    All-each (λ (job : Job). job.report.source ≡ job.source) kept.jobs
    (λ job m. (All-IsIn IsKeptJob kept.jobs are.jobs job m).own)

-- ---- what is restored

-- In sources at rest each job is at rest.
pub stays : (s : SourceState) → IsAtRest s → (job : Job) → IsIn job s.jobs → job_at_rest job ≡ job
stays s rests job m = left-IsIn job_at_rest s.jobs (ap (λ (t : SourceState). t.jobs) rests) job m

module _ (people : PeopleLists) (kept : KeptHarvests) (made : List SourceState) (are : AreKeptHarvests kept)
    (owned : HaveOwners people kept.sources) (is : restored kept.sources kept.jobs ≡ Some made) where
  reported : All (λ (job : Job). job.report.source ≡ job.source) kept.jobs
  reported = jobs_reported kept are

  same_jobs : IsPermutation kept.jobs (all_jobs made)
  same_jobs = made_jobs kept.sources kept.jobs made reported is

  from_all : (job : Job) → IsIn job (all_jobs made) → IsIn job kept.jobs
  from_all job m =
      IsIn-Contains job kept.jobs
      (Contains-permutation (all_jobs made) kept.jobs job (IsPermutation-sym kept.jobs (all_jobs made) same_jobs)
      (Contains-IsIn job (all_jobs made) m))

  to_all : (job : Job) → IsIn job kept.jobs → IsIn job (all_jobs made)
  to_all job m =
      IsIn-Contains job (all_jobs made)
      (Contains-permutation kept.jobs (all_jobs made) job same_jobs (Contains-IsIn job kept.jobs m))

  job_kept : (job : Job) → IsIn job (all_jobs made) → IsKeptJob job
  job_kept job m = All-IsIn IsKeptJob kept.jobs are.jobs job (from_all job m)

  bare : bare_sources made ≡ kept.sources
  bare =
      made_order kept.sources kept.jobs made reported is
      ∙ ascending-same name_cmp name_cmp_total kept.sources are.sources_ascend

  in_order : ascending kept_job_cmp (all_jobs made) ≡ kept.jobs
  in_order =
      unique kept_job_cmp kept_job_cmp_total (ascending kept_job_cmp (all_jobs made)) kept.jobs
      (IsAscending-ascending kept_job_cmp kept_job_cmp_total (all_jobs made)
      (all_jobs-apart made (made_sound kept.sources kept.jobs made reported is) (λ job m. (job_kept job m).number)))
      are.jobs_ascend (λ job m. from_all job (ascending-IsIn kept_job_cmp job (all_jobs made) m))
      (λ job m. IsIn-ascending kept_job_cmp job (all_jobs made) (to_all job m))

  -- What holds of each kept source holds of each that is restored.
  each-source : (P : HarvestSource → Type 0) → All P kept.sources → (s : SourceState) → IsIn s made → P s.source
  each-source P all s m =
      All-IsIn P kept.sources all s.source
      (subst (IsIn s.source) bare (IsIn-map (λ (t : SourceState). t.source) s made m))

  typed : (s : SourceState) → IsIn s made → IsTypedSource s
  typed s m =
      let rests : IsAtRest s =
      All-IsIn IsAtRest made (made_rests kept.sources kept.jobs made reported is) s m in
      record {
        source = each-source IsKeptSource are.sources s m;
        jobs = All-each (λ (job : Job). IsKeptJob (job_at_rest job)) s.jobs
            (λ job n. subst IsKeptJob (sym (stays s rests job n))
            (job_kept job (IsIn-flat_map (λ (t : SourceState). t.jobs) job s made m n)));
      }

  pub harvests-restored : AreHarvestsOf people kept made
  harvests-restored = record {
    bare = bare;
    jobs = in_order;
    valid = made_sound kept.sources kept.jobs made reported is;
    owners = All-each (λ (s : SourceState). OrgExists people s.source.owner_org) made
        (λ s m. each-source (λ (source : HarvestSource). OrgExists people source.owner_org) owned s m);
    rest = made_rests kept.sources kept.jobs made reported is;
    typed = All-each IsTypedSource made typed;
  }

-- ---- what is not restored

-- Sources at rest are restored from what is kept of them.
harvests-again : (people : PeopleLists) (kept : KeptHarvests) (sources : List SourceState)
    → AreHarvestsOf people kept sources → restored kept.sources kept.jobs ≡ Some sources
harvests-again people kept sources are =
    ap (λ (bare : List HarvestSource). restored bare kept.jobs) (sym are.bare)
    ∙ restored_again sources kept.jobs are.valid are.rest
    (subst (λ (jobs : List Job). IsPermutation jobs (all_jobs sources)) are.jobs
    (IsPermutation-sym (all_jobs sources) (ascending kept_job_cmp (all_jobs sources))
    (IsPermutation-ascending kept_job_cmp (all_jobs sources))))

-- Each of them has an owner.
pub unowned-harvests : (people : PeopleLists) (kept : KeptHarvests) → (HaveOwners people kept.sources → ⊥)
    → (sources : List SourceState) → AreHarvestsOf people kept sources → ⊥
unowned-harvests people kept unowned sources are =
    unowned
    (subst (HaveOwners people) are.bare
    (All-map (λ (source : HarvestSource). OrgExists people source.owner_org) (λ (s : SourceState). s.source) sources
    are.owners))

-- ---- the result of restoring

pub restored-harvests : {E : Type 0} (r : Result (Option StagesWithRoom) E) (people : PeopleLists) (kept : KeptHarvests)
    → AreKeptHarvests kept → HaveOwners people kept.sources
    → IfOk r (λ o. option_map sources_in o ≡ restored kept.sources kept.jobs)
    → IfOk r (λ o. IfSome o (λ made. AreHarvestsOf people kept (sources_in made)))
restored-harvests (Err e) people kept are owned is = tt
restored-harvests (Ok None) people kept are owned is = tt
restored-harvests (Ok (Some made)) people kept are owned is =
    harvests-restored people kept (sources_in made) are owned (sym is)

pub unrestored-harvests : {E : Type 0} (r : Result (Option StagesWithRoom) E) (people : PeopleLists)
    (kept : KeptHarvests) → IfOk r (λ o. option_map sources_in o ≡ restored kept.sources kept.jobs)
    → IfOk r (λ o. IfNone o ((sources : List SourceState) → AreHarvestsOf people kept sources → ⊥))
unrestored-harvests (Err e) people kept is = tt
unrestored-harvests (Ok None) people kept is =
    λ sources are. let some : None ≡ Some sources = is ∙ harvests-again people kept sources are in absurd (cc)
unrestored-harvests (Ok (Some made)) people kept is = tt

-- ---- the sources of a valid state at rest

-- What is kept of a source at rest is what is kept of the source.
pub typed-at_rest : (sources : List SourceState) → All IsTypedSource sources → All IsTypedSource (map at_rest sources)
typed-at_rest sources typed =
    All-map IsTypedSource at_rest sources (All-each (λ (s : SourceState). IsTypedSource (at_rest s)) sources one)
  where
    one : (s : SourceState) → IsIn s sources → IsTypedSource (at_rest s)
    one s m =
        let is : IsTypedSource s = All-IsIn IsTypedSource sources typed s m in
        let rests : IsAtRest (at_rest s) =
        All-IsIn IsAtRest (map at_rest sources) (all_rest sources) (at_rest s) (IsIn-map at_rest s sources m) in
        record {
          source = is.source;
          jobs = All-each (λ (job : Job). IsKeptJob (job_at_rest job)) (map job_at_rest s.jobs)
              (λ job n.
              let w = map-IsIn job_at_rest job s.jobs n in
              subst IsKeptJob (sym (stays (at_rest s) rests job n ∙ w.2))
              (All-IsIn (λ (j : Job). IsKeptJob (job_at_rest j)) s.jobs is.jobs w.0 w.1));
        }

-- Sources whose rows have keys of their own, before and after entries.
use Rattle.std.proofs.Common.{◌≡◌, ℕ, Bool, true, false, List, Option, Some, None, ◌⊎◌, inl, inr, if◌then◌else◌, refl}
use Rattle.std.proofs.Common.{sym, ap, ap₂, ◌∙◌, subst}
use Rattle.std.specs.Cmp.Lexicographic.{slice_cmp}
use Rattle.std.specs.Ordering.{is_eq, nat_cmp}
use Rattle.std.specs.Str.{bytes_eq}
use Rattle.std.proofs.lemmas.Map.Text.{is_eq-slice_cmp}
use Rattle.std.proofs.lemmas.Slice.Eq.{bytes_eq-Decides}
use Rattle.portal_base.specs.Ordered.{IsAscending, found}
use Rattle.portal_base.proofs.Unique.{IsIn}
use Rattle.portal_base.proofs.Upserted.{All-IsIn, IsAscending-dropped, IsAscending-upserted, IsIn-dropped, IsIn-upserted}
use Rattle.packages.proofs.FindLemmas.{IsIn-find, map-IsIn}
use Rattle.harvest_sources.specs.Entries.{DropJob, DropSource, PutJob, PutListing, PutSource, SourceEntry, changed_by}
use Rattle.harvest_sources.specs.Entries.{with_job, with_jobs_of, with_listing, with_source_at, without_job}
use Rattle.harvest_sources.specs.Jobs.{job_at, job_cmp}
use Rattle.harvest_sources.specs.Sources.{AreSources, HasItsJobs, IsJobOf, SourceState, source_at, source_cmp}
use Rattle.harvest_sources.specs.Sources.{source_cmp_total}
use Rattle.harvest_sources.specs.declared.job.Job.{Job}
use Rattle.harvest_sources.specs.declared.source.HarvestSource.{HarvestSource}
use Rattle.harvest_stages.proofs.MapLemmas.{IsAscending-map}

-- The sources are in the order of their names, and each job is one of the source that has it.
pub record AreKeyed (sources : List SourceState) : Type 0 where
  pub ascending : IsAscending source_cmp sources
  pub own : (s : SourceState) → IsIn s sources → (job : Job) → IsIn job s.jobs → job.source ≡ s.source.name

pub keyed-valid : (sources : List SourceState) → AreSources sources → AreKeyed sources
keyed-valid sources are = record {
  ascending = are.ascending;
  own = λ s m job n. let has : HasItsJobs s = All-IsIn HasItsJobs sources are.jobs s m in
      (All-IsIn (IsJobOf s.source) s.jobs has.own job n).own;
}

-- ---- a source that is put

-- the source at its name is the one with this name
pub named-found : (name : List ℕ) (sources : List SourceState) (s : SourceState)
    → found (source_at name) sources ≡ Some s → IsIn s sources × (s.source.name ≡ name)
named-found name sources s is =
    let there = IsIn-find (λ t. is_eq (source_at name t)) s sources is in
    (there.0, (bytes_eq-Decides s.source.name name).0 (sym (is_eq-slice_cmp s.source.name name) ∙ there.1))

pub name-of_put : (source : HarvestSource) (o : Option SourceState) → (with_jobs_of source o).source ≡ source
name-of_put source None = refl
name-of_put source (Some s) = refl

put-keyed : (source : HarvestSource) (sources : List SourceState) → AreKeyed sources
    → AreKeyed (changed_by (PutSource source) sources)
put-keyed source sources was = record {
  ascending = IsAscending-upserted source_cmp source_cmp_total new sources was.ascending;
  own = λ s m job n. by s (IsIn-upserted source_cmp new s sources m) job n;
}
  where
    old : Option SourceState
    old = found (source_at source.name) sources

    new : SourceState
    new = with_jobs_of source old

    of_old : (o : Option SourceState) → found (source_at source.name) sources ≡ o → (job : Job)
        → IsIn job (with_jobs_of source o).jobs → job.source ≡ source.name
    of_old None is job n = absurd n
    of_old (Some s) is job n =
        let there = named-found source.name sources s is in was.own s there.0 job n ∙ there.1

    by : (s : SourceState) → (s ≡ new) ⊎ (IsIn s sources × (is_eq (source_cmp s new) ≡ false)) → (job : Job)
        → IsIn job s.jobs → job.source ≡ s.source.name
    by s (inl same) job n =
        of_old old refl job (subst (λ (t : SourceState). IsIn job t.jobs) same n)
        ∙ sym (ap (λ (u : HarvestSource). u.name) (ap (λ (t : SourceState). t.source) same ∙ name-of_put source old))
    by s (inr other) job n = was.own s other.0 job n

-- ---- a source that is changed

-- the source, changed if it has that name
abbrev pub at_name : List ℕ → (SourceState → SourceState) → SourceState → SourceState
at_name name f s = if bytes_eq s.source.name name then f s else s

-- Sources of which those of a name are changed, where they stay the same beside their jobs, and get none but jobs of that
-- name.
change-keyed : (name : List ℕ) (f : SourceState → SourceState) → ((s : SourceState) → (f s).source ≡ s.source)
    → ((s : SourceState) (job : Job) → IsIn job (f s).jobs → IsIn job s.jobs ⊎ (job.source ≡ name))
    → (sources : List SourceState) → AreKeyed sources → AreKeyed (with_source_at name f sources)
change-keyed name f keeps brings sources was = record {
  ascending = IsAscending-map (at_name name f) source_cmp source_cmp
      (λ s t. ap₂ (λ (u v : HarvestSource). slice_cmp nat_cmp u.name v.name) (same s) (same t)) sources was.ascending;
  own = λ s m job n. let made = map-IsIn (at_name name f) s sources m in
      by made.0 made.1 (bytes_eq made.0.source.name name) refl job
      (subst (λ (t : SourceState). IsIn job t.jobs) made.2 n)
      ∙ sym (ap (λ (u : HarvestSource). u.name) (ap (λ (t : SourceState). t.source) made.2 ∙ same made.0));
}
  where
    same : (s : SourceState) → (at_name name f s).source ≡ s.source
    same s = of (bytes_eq s.source.name name)
      where
        of : (b : Bool) → (if b then f s else s).source ≡ s.source
        of true = keeps s
        of false = refl

    owned : (s : SourceState) → IsIn s sources → bytes_eq s.source.name name ≡ true → (job : Job)
        → IsIn job s.jobs ⊎ (job.source ≡ name) → job.source ≡ s.source.name
    owned s m here job (inl n) = was.own s m job n
    owned s m here job (inr new) = new ∙ sym ((bytes_eq-Decides s.source.name name).0 here)

    by : (s : SourceState) → IsIn s sources → (b : Bool) → bytes_eq s.source.name name ≡ b → (job : Job)
        → IsIn job (if b then f s else s).jobs → job.source ≡ s.source.name
    by s m true here job n = owned s m here job (brings s job n)
    by s m false here job n = was.own s m job n

-- ---- entries

-- Any entry keeps them so.
pub keyed-after : (entry : SourceEntry) (sources : List SourceState) → AreKeyed sources
    → AreKeyed (changed_by entry sources)
keyed-after (PutSource source) sources was = put-keyed source sources was
keyed-after (DropSource name) sources was = record {
  ascending = IsAscending-dropped source_cmp (source_at name) sources was.ascending;
  own = λ s m job n. was.own s (IsIn-dropped (source_at name) s sources m).0 job n;
}
keyed-after (PutJob new) sources was =
    change-keyed new.source (with_job new) (λ s. refl) (λ s job n. by s job (IsIn-upserted job_cmp new job s.jobs n)) sources
    was
  where
    by : (s : SourceState) (job : Job) → (job ≡ new) ⊎ (IsIn job s.jobs × (is_eq (job_cmp job new) ≡ false))
        → IsIn job s.jobs ⊎ (job.source ≡ new.source)
    by s job (inl same) = inr (ap (λ (j : Job). j.source) same)
    by s job (inr old) = inl old.0
keyed-after (DropJob name number) sources was =
    change-keyed name (without_job number) (λ s. refl)
    (λ s job n. inl (IsIn-dropped (job_at number) job s.jobs n).0) sources was
keyed-after (PutListing name listing) sources was =
    change-keyed name (with_listing listing) (λ s. refl) (λ s job n. inl n) sources was

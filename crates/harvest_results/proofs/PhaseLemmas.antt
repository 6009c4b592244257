-- How far a job of a source is, and the source's datasets meanwhile.
use Rattle.std.proofs.Common.{◌≡◌, ◌≢◌, ℕ, Bool, true, false, cond, List, [], Option, Some, None, refl, sym, ap}
use Rattle.std.proofs.Common.{◌∙◌, subst, inl, inr, ◌⊎◌, true≢false}
use Rattle.std.specs.Prelude.{IfSome}
use Rattle.std.specs.Str.{bytes_eq}
use Rattle.std.proofs.lemmas.Slice.Eq.{bytes_eq-Decides}
use Rattle.portal_base.specs.Ordered.{IsAscending}
use Rattle.portal_base.proofs.Unique.{IsIn}
use Rattle.portal_base.proofs.Upserted.{All-IsIn}
use Rattle.packages.specs.declared.package.Package.{Package}
use Rattle.harvest_sources.specs.Entries.{sources_after, with_job}
use Rattle.harvest_sources.specs.Jobs.{id_of_job, in_state, is_running}
use Rattle.harvest_sources.specs.Listings.{cause_of, object_cmp}
use Rattle.harvest_sources.specs.Sources.{AreSources, HasItsJobs, SourceState, open_job, source_named}
use Rattle.harvest_sources.specs.Steps.{Stepped}
use Rattle.harvest_sources.specs.Steps.{outcome_of}
use Rattle.harvest_sources.specs.declared.job.Job.{Job}
use Rattle.harvest_sources.specs.declared.job.JobState.TheVariants as state
use Rattle.harvest_sources.specs.declared.listing.Listing.{Listing}
use Rattle.harvest_sources.specs.declared.reading.Reading.{Reading}
use Rattle.harvest_sources.specs.declared.reading.Reading.TheVariants.{Good, Bad}
use Rattle.harvest_sources.specs.declared.source.HarvestSource.{HarvestSource}
use Rattle.harvest_sources.specs.declared.step.Effect.{Effect}
use Rattle.harvest_sources.specs.declared.step.Effect.TheVariants as effect
use Rattle.harvest_results.specs.Effects.{HarvestState}
use Rattle.harvest_results.specs.Effects.{with_put, without}
use Rattle.harvest_sources.specs.Steps.{is_accepted}
use Rattle.harvest_results.specs.Histories.{Gathered, datasets_of, nothing_gathered}
use Rattle.harvest_results.proofs.SettlingLemmas.{IsSettling, cause_in}
use Rattle.harvest_results.proofs.SourceEntryLemmas.{renewed, renewed_from}

-- ---- how far a job is

-- The job of that id is open and not listed, or its catalogue is listed, or the source has no open job.
pub data Phase (sure : Type 0) (id : List ℕ) (source : HarvestSource) (old : List Package) (g : Gathered)
    (s : SourceState) (ds : List Package) : Type 0 where
  Waits : (job : Job) → open_job s ≡ Some job → id_of_job job ≡ id → s.listing ≡ None → g ≡ nothing_gathered
      → ds ≡ old → Phase sure id source old g s ds
  Reads : (job : Job) (listing : Listing) → open_job s ≡ Some job → id_of_job job ≡ id → s.listing ≡ Some listing
      → IsSettling sure source old g listing ds → Phase sure id source old g s ds
  Over : open_job s ≡ None → Phase sure id source old g s ds

-- That holds of the source in this state.
pub record Holds (sure : Type 0) (id : List ℕ) (source : HarvestSource) (old : List Package) (g : Gathered)
    (st : HarvestState) : Type 0 where
  pub at : SourceState
  pub named : source_named st.sources source.name ≡ Some at
  pub own : at.source ≡ source
  pub phase : Phase sure id source old g at (datasets_of source st)

-- the state after a step with this outcome, by what it puts and drops if it is accepted
abbrev pub after_of : Stepped → Option Package → List Package → HarvestState → HarvestState
after_of p put gone st = record {
  sources = sources_after p.entries st.sources;
  datasets =
      without (cond (is_accepted p.reply) gone []) (with_put (cond (is_accepted p.reply) put None) st.datasets);
}

-- ---- helpers

pub cond_same : {X : Type 0} (b : Bool) (x : X) → cond b x x ≡ x
cond_same true x = refl
cond_same false x = refl

pub which : (x y : List ℕ) → (x ≡ y) ⊎ (x ≢ y)
which x y = by (bytes_eq x y) refl
  where
    by : (b : Bool) → bytes_eq x y ≡ b → (x ≡ y) ⊎ (x ≢ y)
    by true e = inl ((bytes_eq-Decides x y).0 e)
    by false e = inr (λ same. true≢false (sym ((bytes_eq-Decides x y).1 same) ∙ e))

pub has_jobs : (sources : List SourceState) → AreSources sources → (t : SourceState) → IsIn t sources → HasItsJobs t
has_jobs sources fit t m = All-IsIn HasItsJobs sources fit.jobs t m

pub ascending_listing : (s : SourceState) (listing : Listing) → HasItsJobs s → s.listing ≡ Some listing
    → IsAscending object_cmp listing.objects
ascending_listing s listing fit is =
    subst (λ (o : Option Listing). IfSome o (λ l. IsAscending object_cmp l.objects)) is fit.listed

pub renewed-source : (s : SourceState) → (renewed s).source ≡ s.source
renewed-source s = by s.listing (open_job s)
  where
    running : (b : Bool) (job : Job) → (cond b (with_job (in_state state.New job) s) s).source ≡ s.source
    running true job = refl
    running false job = refl

    by : (l : Option Listing) (o : Option Job) → (renewed_from s l o).source ≡ s.source
    by None None = refl
    by (Some listing) None = refl
    by (Some listing) (Some job) = refl
    by None (Some job) = running (is_running job) job

pub renewed-none : (s : SourceState) (l : Option Listing) → renewed_from s l None ≡ s
renewed-none s None = refl
renewed-none s (Some listing) = refl

pub outcome-cause : (reading : Reading) (e : Effect) → cause_of (outcome_of reading e) ≡ cause_in reading
outcome-cause (Good r) effect.Plain = refl
outcome-cause (Good r) effect.Added = refl
outcome-cause (Good r) effect.Updated = refl
outcome-cause (Good r) effect.Unchanged = refl
outcome-cause (Good r) (effect.Deleted count) = refl
outcome-cause (Bad cause) e = refl

-- the open job of the source has the id of its phase
pub phase-open : (sure : Type 0) (id : List ℕ) (source : HarvestSource) (old : List Package) (g : Gathered)
    (s : SourceState) (ds : List Package) (job : Job) → Phase sure id source old g s ds → open_job s ≡ Some job → id_of_job job ≡ id
phase-open sure id source old g s ds job (Waits j opens is listing nothing same) e =
    let alike : job ≡ j = cc in ap id_of_job alike ∙ is
phase-open sure id source old g s ds job (Reads j l opens is listing so) e =
    let alike : job ≡ j = cc in ap id_of_job alike ∙ is
phase-open sure id source old g s ds job (Over none) e = absurd (cc)

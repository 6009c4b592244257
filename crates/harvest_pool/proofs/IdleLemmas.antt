-- A round leaves what no open job is about.
use Rattle.std.proofs.Common.{◌≡◌, ◌∙◌, ℕ, Bool, true, false, List, [], ◌∷◌, Option, Some, None, refl, sym, ap}
use Rattle.std.specs.Prelude.{filter}
use Rattle.portal_base.proofs.Unique.{IsIn}
use Rattle.harvest_sources.specs.Sources.{SourceState, open_job}
use Rattle.harvest_sources.specs.declared.job.Job.{Job}
use Rattle.harvest_sources.specs.declared.step.Step.{Step}
use Rattle.harvest_sources.specs.declared.step.Step.TheVariants.{NewRound, Begin, List as list, Break, Claim, Settle, End}
use Rattle.harvest_results.specs.Effects.{HarvestState, after_step, is_of_source}
use Rattle.harvest_results.proofs.ChangeLemmas.{without-none}
use Rattle.harvest_results.proofs.PhaseLemmas.{has_jobs, renewed-none}
use Rattle.harvest_results.proofs.SourceEntryLemmas.{IsIn-named, named-member, renewed_from, round-own}
use Rattle.harvest_pool.specs.Made.{Made, state_after}
use Rattle.harvest_pool.specs.WholeRounds.{own_datasets}
use Rattle.harvest_pool.proofs.Done.{AllFit}
use Rattle.harvest_pool.proofs.FitLemmas.{all_fit-after, bare-after, same-bare}
use Rattle.harvest_pool.proofs.QuietLemmas.{IsElsewhere, IsSpared, is_round, quiet, target-open}
use Rattle.harvest_pool.proofs.SourceLemmas.{HasOpen, same-named}

-- no source of that name has an open job
abbrev pub IsIdle : List ℕ → HarvestState → Type 0
IsIdle name st = (s : SourceState) → IsIn s st.sources → s.source.name ≡ name → open_job s ≡ None

-- The sources of that name are still there, and their datasets are the same.
pub record Stays (name : List ℕ) (st after : HarvestState) : Type 0 where
  pub there : (s : SourceState) → IsIn s st.sources → s.source.name ≡ name → IsIn s after.sources
  pub datasets : own_datasets name after.datasets ≡ own_datasets name st.datasets

spared-stays : (name : List ℕ) (st after : HarvestState) → AllFit st → IsSpared name st after → Stays name st after
spared-stays name st after fit spared = record {
  there = λ s m named.
      (IsIn-named after.sources name s (spared.0 ∙ named-member st.sources name s fit.sources m named)).0;
  datasets = spared.1;
}

elsewhere : (name : List ℕ) (st : HarvestState) → AllFit st → IsIdle name st → (step : Step)
    → IsElsewhere step st.sources name
elsewhere name st fit idle step t is same =
    let w = target-open name st fit step t is in
    let no : open_job t ≡ None = idle t w.0 same in
    let yes : open_job t ≡ Some w.1.0 = w.1.1 in
    absurd (cc)

round-stays : (name : List ℕ) (st : HarvestState) → AllFit st → IsIdle name st → Stays name st (after_step NewRound st)
round-stays name st fit idle = record {
  there = λ s m named.
      (IsIn-named (after_step NewRound st).sources s.source.name s
      (round-own s st.sources st.sources (λ t n. has_jobs st.sources fit.sources t n) fit.sources.ascending m
      (named-member st.sources s.source.name s fit.sources m refl)
      ∙ ap Some (ap (renewed_from s s.listing) (idle s m named) ∙ renewed-none s s.listing))).0;
  datasets = ap (filter (is_of_source name)) (without-none st.datasets);
}

pub idle-stays : (name : List ℕ) (st : HarvestState) → AllFit st → IsIdle name st → (step : Step)
    → Stays name st (after_step step st)
idle-stays name st fit idle step = by step (is_round step) refl
  where
    other : (s : Step) → is_round s ≡ false → Stays name st (after_step s st)
    other s later = spared-stays name st (after_step s st) fit (quiet name st fit s later (elsewhere name st fit idle s))

    begins : (s : Step) → is_round s ≡ true → Stays name st (after_step s st)
    begins NewRound e = round-stays name st fit idle
    begins Begin e = absurd (cc)
    begins (list job items unnamed) e = absurd (cc)
    begins (Break job cause) e = absurd (cc)
    begins Claim e = absurd (cc)
    begins (Settle job iri reading) e = absurd (cc)
    begins (End job) e = absurd (cc)

    by : (s : Step) (b : Bool) → is_round s ≡ b → Stays name st (after_step s st)
    by s true e = begins s e
    by s false e = other s e

-- It stays idle.
pub idle-after : (name : List ℕ) (st : HarvestState) → AllFit st → IsIdle name st → (step : Step)
    → IsIdle name (after_step step st)
idle-after name st fit idle step t m named =
    let w = same-bare st.sources (after_step step st).sources (bare-after step st fit.sources) t m in
    let was : w.0.source.name ≡ name = ap (λ source. source.name) (sym w.2) ∙ named in
    let here : IsIn w.0 (after_step step st).sources = (idle-stays name st fit idle step).there w.0 w.1 was in
    ap open_job (same-named (after_step step st).sources t w.0 (all_fit-after step st fit).sources m here
    (ap (λ source. source.name) w.2))
    ∙ idle w.0 w.1 was

-- So it is after all steps.
pub idle-through : (name : List ℕ) (made : List Made) (st : HarvestState) → AllFit st → IsIdle name st
    → Stays name st (state_after made st)
idle-through name [] st fit idle = record { there = λ s m named. m; datasets = refl }
idle-through name (m ∷ made) st fit idle =
    let one = idle-stays name st fit idle m.step in
    let rest = idle-through name made (after_step m.step st) (all_fit-after m.step st fit)
    (idle-after name st fit idle m.step) in
    record {
      there = λ s n named. rest.there s (one.there s n named) named;
      datasets = rest.datasets ∙ one.datasets;
    }

-- A source whose job is open had it open before the step.
pub open-before : (name : List ℕ) (st : HarvestState) → AllFit st → (step : Step)
    → HasOpen (after_step step st).sources name → HasOpen st.sources name
open-before name st fit step w =
    let t = same-bare st.sources (after_step step st).sources (bare-after step st fit.sources) w.0 w.1 in
    by t.0 t.1 (ap (λ source. source.name) (sym t.2) ∙ w.2) (open_job t.0) refl
  where
    by : (s : SourceState) → IsIn s st.sources → s.source.name ≡ name → (o : Option Job) → open_job s ≡ o
        → HasOpen st.sources name
    by s m named (Some job) opens = (s, m, named, (job, opens))
    by s m named None closed =
        let none : open_job w.0 ≡ None =
        idle-after name st fit
        (λ u n also. ap open_job (same-named st.sources u s fit.sources n m (also ∙ sym named)) ∙ closed) step w.0 w.1 w.2 in
        let some : open_job w.0 ≡ Some w.3.0 = w.3.1 in
        absurd (cc)

-- What is read from the rows of sources and from those of jobs is read from all of them.
use Rattle.std.proofs.Common.{◌≡◌, ◌↔◌, ◌<◌, ◌≤◌, List, ◌++◌, map, refl, sym, ap, ◌∙◌, subst, arith}
use Rattle.std.specs.Prelude.{All, Option, Some, None}
use Rattle.std.specs.List.{AllZip}
use Rattle.std.proofs.lemmas.Option.{same_Some}
use Rattle.portal_base.proofs.Upserted.{All-IsIn, All-each}
use Rattle.portal_keeper.specs.Rows.{AreInOrder, kind_number, row_cmp}
use Rattle.portal_keeper.specs.declared.row.KeptRow.{KeptRow}
use Rattle.harvest_sources.specs.declared.job.Job.{Job}
use Rattle.harvest_sources.specs.declared.source.HarvestSource.{HarvestSource}
use Rattle.harvest_rows.specs.KeptHarvests.{AreHarvestRows, AreKeptHarvests, rows_of_harvests}
use Rattle.harvest_rows.specs.Rows.{IsJobRow, IsKeptJob, IsKeptSource, IsSourceRow, job_row, source_row}
use Rattle.harvest_rows.specs.declared.kept_harvests.KeptHarvests.{KeptHarvests}
use Rattle.harvest_rows.proofs.JobLemmas.{one_job}
use Rattle.harvest_rows.proofs.KindLemmas.{AreAfter, AreUpTo, kinds_below, made-kind, one_split}
use Rattle.harvest_rows.proofs.ListLemmas.{IsAscending-append, IsAscending-parts, ascending-made, same_made}
use Rattle.harvest_rows.proofs.ListLemmas.{written-zip, zip-good, zip-written}
use Rattle.harvest_rows.proofs.SourceLemmas.{one_source}

-- ---- the rows of values

sources-up : (sources : List HarvestSource) → AreUpTo 6 (map source_row sources)
sources-up sources r m = let is = made-kind source_row 6 (λ s. refl) sources r m in omega (arith, is)

jobs-after : (jobs : List Job) → AreAfter 6 (map job_row jobs)
jobs-after jobs r m = let is = made-kind job_row 7 (λ j. refl) jobs r m in omega (arith, is)

pub rows_of_harvests-in_order : (kept : KeptHarvests) → AreKeptHarvests kept → AreInOrder (rows_of_harvests kept)
rows_of_harvests-in_order kept are =
    IsAscending-append row_cmp (map source_row kept.sources) (map job_row kept.jobs)
    ((ascending-made source_row row_cmp kept.sources).1 are.sources_ascend)
    ((ascending-made job_row row_cmp kept.jobs).1 are.jobs_ascend)
    (kinds_below 6 (map source_row kept.sources) (map job_row kept.jobs) (sources-up kept.sources)
    (jobs-after kept.jobs))

same_sources : (sources others : List HarvestSource) → All IsKeptSource sources → All IsKeptSource others
    → map source_row sources ≡ map source_row others → sources ≡ others
same_sources sources others kept also =
    same_made source_row sources others
    (λ s t m n e. one_source (source_row s) s t (All-IsIn IsKeptSource sources kept s m, refl)
    (All-IsIn IsKeptSource others also t n, e))

same_jobs : (jobs others : List Job) → All IsKeptJob jobs → All IsKeptJob others
    → map job_row jobs ≡ map job_row others → jobs ≡ others
same_jobs jobs others kept also =
    same_made job_row jobs others
    (λ j k m n e. one_job (job_row j) j k (All-IsIn IsKeptJob jobs kept j m, refl)
    (All-IsIn IsKeptJob others also k n, e))

pub same_harvests : (kept other : KeptHarvests) (rows : List KeptRow) → AreHarvestRows kept rows
    → AreHarvestRows other rows → kept ≡ other
same_harvests kept other rows is also =
    let parts = one_split 6 (map source_row kept.sources) (map job_row kept.jobs) (map source_row other.sources)
    (map job_row other.jobs) (sources-up kept.sources) (jobs-after kept.jobs) (sources-up other.sources)
    (jobs-after other.jobs) (is.1 ∙ sym also.1) in
    let sources : kept.sources ≡ other.sources =
    same_sources kept.sources other.sources is.0.sources also.0.sources parts.0 in
    let jobs : kept.jobs ≡ other.jobs = same_jobs kept.jobs other.jobs is.0.jobs also.0.jobs parts.1 in
    λ i. record { sources = sources i; jobs = jobs i }

-- ---- the parts of the rows

-- the rows that a split after those of sources makes of these
pub record AreSplit (rows sources jobs : List KeptRow) : Type 0 where
  pub whole : sources ++ jobs ≡ rows
  pub up : All (λ (r : KeptRow). kind_number r.kind ≤ 6) sources
  pub after : All (λ (r : KeptRow). 6 < kind_number r.kind) jobs

-- These are the rows of the sources, and those are the rows of the jobs.
pub record HaveParts (kept : KeptHarvests) (sources jobs : List KeptRow) : Type 0 where
  pub sources_read : AllZip IsSourceRow kept.sources sources
  pub jobs_read : AllZip IsJobRow kept.jobs jobs

parts-read : (rows sources jobs : List KeptRow) → AreSplit rows sources jobs → (kept : KeptHarvests)
    → AreHarvestRows kept rows → HaveParts kept sources jobs
parts-read rows sources jobs split kept is =
    let parts = one_split 6 (map source_row kept.sources) (map job_row kept.jobs) sources jobs
    (sources-up kept.sources) (jobs-after kept.jobs)
    (All-IsIn (λ (r : KeptRow). kind_number r.kind ≤ 6) sources split.up)
    (All-IsIn (λ (r : KeptRow). 6 < kind_number r.kind) jobs split.after) (is.1 ∙ sym split.whole) in
    record {
      sources_read = written-zip IsKeptSource source_row kept.sources sources
          (All-IsIn IsKeptSource kept.sources is.0.sources) parts.0;
      jobs_read = written-zip IsKeptJob job_row kept.jobs jobs (All-IsIn IsKeptJob kept.jobs is.0.jobs) parts.1;
    }

read-parts : (rows sources jobs : List KeptRow) → AreInOrder rows → AreSplit rows sources jobs
    → (kept : KeptHarvests) → HaveParts kept sources jobs → AreHarvestRows kept rows
read-parts rows sources jobs up split kept have =
    let source_rows : map source_row kept.sources ≡ sources =
    zip-written IsKeptSource source_row kept.sources sources have.sources_read in
    let job_rows : map job_row kept.jobs ≡ jobs =
    zip-written IsKeptJob job_row kept.jobs jobs have.jobs_read in
    let whole : rows_of_harvests kept ≡ rows =
    ap (λ l. l ++ map job_row kept.jobs) source_rows ∙ ap (λ l. sources ++ l) job_rows ∙ split.whole in
    let ordered = IsAscending-parts row_cmp (map source_row kept.sources) (map job_row kept.jobs)
    (subst AreInOrder (sym whole) up) in (
      record {
        sources = All-each IsKeptSource kept.sources
            (zip-good IsKeptSource source_row kept.sources sources have.sources_read);
        sources_ascend = (ascending-made source_row row_cmp kept.sources).0 ordered.0;
        jobs = All-each IsKeptJob kept.jobs (zip-good IsKeptJob job_row kept.jobs jobs have.jobs_read);
        jobs_ascend = (ascending-made job_row row_cmp kept.jobs).0 ordered.1;
      },
      whole,
    )

-- ---- the readers' results

-- No values have rows of which a part can't be read.
pub refused : (rows sources jobs : List KeptRow) → AreSplit rows sources jobs
    → ((kept : KeptHarvests) → HaveParts kept sources jobs → ⊥) → (kept : KeptHarvests)
    → (None ≡ Some kept) ↔ AreHarvestRows kept rows
refused rows sources jobs split none kept =
    (λ e. absurd (cc), λ is. absurd (none kept (parts-read rows sources jobs split kept is)))

pub all-read : (rows sources jobs : List KeptRow) (found_sources : Option (List HarvestSource))
    (found_jobs : Option (List Job)) (read : KeptHarvests) → AreInOrder rows → AreSplit rows sources jobs
    → ((s : List HarvestSource) → (found_sources ≡ Some s) ↔ AllZip IsSourceRow s sources)
    → ((j : List Job) → (found_jobs ≡ Some j) ↔ AllZip IsJobRow j jobs) → found_sources ≡ Some read.sources
    → found_jobs ≡ Some read.jobs → (kept : KeptHarvests) → (Some read ≡ Some kept) ↔ AreHarvestRows kept rows
all-read rows sources jobs found_sources found_jobs read up split source_reader job_reader some_sources some_jobs kept =
    (into, from)
  where
    its_rows : AreHarvestRows read rows
    its_rows =
        read-parts rows sources jobs up split read (record {
          sources_read = (source_reader read.sources).0 some_sources;
          jobs_read = (job_reader read.jobs).0 some_jobs;
        })

    into : Some read ≡ Some kept → AreHarvestRows kept rows
    into e = subst (λ (k : KeptHarvests). AreHarvestRows k rows) (same_Some read kept e) its_rows

    from : AreHarvestRows kept rows → Some read ≡ Some kept
    from is = ap Some (same_harvests read kept rows its_rows is)

pub out_of_order : (rows : List KeptRow) → (AreInOrder rows → ⊥) → (kept : KeptHarvests)
    → (None ≡ Some kept) ↔ AreHarvestRows kept rows
out_of_order rows unordered kept =
    (λ e. absurd (cc), λ is. absurd (unordered (subst AreInOrder is.1 (rows_of_harvests-in_order kept is.0))))

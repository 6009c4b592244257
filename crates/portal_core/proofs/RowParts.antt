-- The rows of a store in two parts: those of organizations, datasets and tables, and then those of sources and jobs.
use Rattle.std.proofs.Common.{◌≡◌, ◌∙◌, ◌<◌, ◌≤◌, List, [], ◌∷◌, ◌++◌, ◌⊎◌, All, map, inl, inr, refl, sym, ap}
use Rattle.std.proofs.Common.{IfSome, arith, slice_get, subst}
use Rattle.std.specs.List.{flat_map}
use Rattle.harvest_rows.specs.KeptHarvests.{AreHarvestRows, AreKeptHarvests, rows_of_harvests}
use Rattle.harvest_rows.specs.Rows.{job_row, source_row}
use Rattle.harvest_rows.specs.declared.kept_harvests.KeptHarvests.{KeptHarvests}
use Rattle.harvest_rows.proofs.KeptLemmas.{rows_of_harvests-in_order, same_harvests}
use Rattle.portal_base.proofs.Unique.{IsIn, ascending-IsIn}
use Rattle.portal_base.proofs.Upserted.{All-IsIn}
use Rattle.portal_keeper.specs.Rows.{AreInOrder, kind_number, row_cmp}
use Rattle.portal_keeper.specs.declared.row.KeptRow.{KeptRow}
use Rattle.portal_rows.specs.KeptValues.{AreKeptValues, IsKeptOf, dataset_row, kept_org_row, listed_rows, rows_of_values}
use Rattle.portal_rows.specs.KeptValues.{table_rows}
use Rattle.portal_rows.specs.declared.kept_tables.KeptTable.{KeptTable}
use Rattle.portal_rows.specs.declared.kept_values.KeptValues.{KeptValues}
use Rattle.portal_rows.proofs.KeptOrder.{cells-kind, dataset-kind, org-kind, rows_of_values-in_order}
use Rattle.portal_rows.proofs.KindLemmas.{AreAfter, AreUpTo, after-kind, after_both, kinds_below, map-kind, one_split}
use Rattle.portal_rows.proofs.KindLemmas.{up_to-kind}
use Rattle.portal_rows.proofs.MemberLemmas.{IsAscending-append, flat_map-IsIn, in_either}
use Rattle.portal_rows.proofs.SameLemmas.{same_values}
use Rattle.portal_state.specs.Values.{AreRowsOf}

-- ---- the kinds of the rows

tables-up : (tables : List KeptTable) → AreUpTo 5 (flat_map table_rows tables)
tables-up tables = λ r m. let w = flat_map-IsIn table_rows r tables m in by r w.0 w.2
  where
    by : (r : KeptRow) (t : KeptTable) → IsIn r (table_rows t) → kind_number r.kind ≤ 5
    by r t (inl same) =
        let is : kind_number r.kind ≡ 4 = ap (λ (q : KeptRow). kind_number q.kind) same in omega (arith, is)
    by r t (inr m) = let is = cells-kind t r m in omega (arith, is)

both-up : (rows others : List KeptRow) → AreUpTo 5 rows → AreUpTo 5 others → AreUpTo 5 (rows ++ others)
both-up rows others first second = λ r m. by r (in_either r rows others m)
  where
    by : (r : KeptRow) → IsIn r rows ⊎ IsIn r others → kind_number r.kind ≤ 5
    by r (inl n) = first r n
    by r (inr n) = second r n

listed-up : (values : KeptValues) (r : KeptRow) → IsIn r (listed_rows values) → kind_number r.kind ≤ 5
listed-up values r (inl same) =
    let is : kind_number r.kind ≡ 1 = ap (λ (q : KeptRow). kind_number q.kind) same in omega (arith, is)
listed-up values r (inr m) =
    let orgs = map kept_org_row values.orgs in
    let datasets = map dataset_row values.datasets in
    let tables = flat_map table_rows values.tables in
    both-up orgs (datasets ++ tables) (up_to-kind 5 2 orgs (org-kind values.orgs) (omega arith))
    (both-up datasets tables (up_to-kind 5 3 datasets (dataset-kind values.datasets) (omega arith))
    (tables-up values.tables))
    r m

values-up : (values : KeptValues) → AreUpTo 5 (rows_of_values values)
values-up values = λ r m. listed-up values r (ascending-IsIn row_cmp r (listed_rows values) m)

harvests-after : (harvests : KeptHarvests) → AreAfter 5 (rows_of_harvests harvests)
harvests-after harvests =
    let sources = map source_row harvests.sources in
    let jobs = map job_row harvests.jobs in
    after_both 5 sources jobs
    (after-kind 5 6 sources (map-kind source_row 6 (λ source. refl) harvests.sources) (omega arith))
    (after-kind 5 7 jobs (map-kind job_row 7 (λ job. refl) harvests.jobs) (omega arith))

-- ---- both parts

-- Together they are in order.
pub both-in_order : (values : KeptValues) (harvests : KeptHarvests) → AreKeptValues values → AreKeptHarvests harvests
    → AreInOrder (rows_of_values values ++ rows_of_harvests harvests)
both-in_order values harvests kept also =
    IsAscending-append row_cmp (rows_of_values values) (rows_of_harvests harvests) (rows_of_values-in_order values kept)
    (rows_of_harvests-in_order harvests also)
    (kinds_below 5 (rows_of_values values) (rows_of_harvests harvests) (values-up values) (harvests-after harvests))

-- No two values have the same rows.
pub same-both : (rows : List KeptRow) (values others : KeptValues) (harvests also : KeptHarvests)
    → AreRowsOf values harvests rows → AreRowsOf others also rows → (values ≡ others) × (harvests ≡ also)
same-both rows values others harvests also is are =
    let parts = one_split 5 (rows_of_values values) (rows_of_harvests harvests) (rows_of_values others)
    (rows_of_harvests also) (values-up values) (harvests-after harvests) (values-up others) (harvests-after also)
    (is.same ∙ sym are.same) in (
      same_values values others (rows_of_values others) (is.values_kept, parts.0) (are.values_kept, refl),
      same_harvests harvests also (rows_of_harvests also) (is.harvests_kept, parts.1) (are.harvests_kept, refl),
    )

-- ---- rows that are cut before the first one of a source or a job

-- the parts of the rows
pub record AreCut (rows front back : List KeptRow) : Type 0 where
  pub whole : front ++ back ≡ rows
  pub up : All (λ (row : KeptRow). kind_number row.kind ≤ 5) front
  pub after : IfSome (slice_get back 0) (λ (row : KeptRow). 5 < kind_number row.kind)

one_cut : (xs ys us vs : List KeptRow) → AreUpTo 5 xs → AreAfter 5 ys → AreUpTo 5 us
    → IfSome (slice_get vs 0) (λ (row : KeptRow). 5 < kind_number row.kind) → xs ++ ys ≡ us ++ vs
    → (xs ≡ us) × (ys ≡ vs)
one_cut [] ys [] vs first second third last e = (refl, e)
one_cut [] ys (u ∷ us) vs first second third last e =
    let low = third u (inl refl) in
    let high = second u (subst (IsIn u) (sym e) (inl refl)) in
    absurd (omega (arith, low, high))
one_cut (x ∷ xs) ys [] [] first second third last e = absurd (cc)
one_cut (x ∷ xs) ys [] (v ∷ vs) first second third last e =
    let same : x ≡ v = cc in
    let low = first x (inl refl) in
    let number : kind_number x.kind ≡ kind_number v.kind = ap (λ (r : KeptRow). kind_number r.kind) same in
    absurd (omega (arith, low, last, number))
one_cut (x ∷ xs) ys (u ∷ us) vs first second third last e =
    let same : x ≡ u = cc in
    let rest : xs ++ ys ≡ us ++ vs = cc in
    let parts = one_cut xs ys us vs (λ r m. first r (inr m)) second (λ r m. third r (inr m)) last rest in
    let fronts : xs ≡ us = parts.0 in
    (cc, parts.1)

-- Rows of values are cut between their two parts.
pub cut-parts : (rows front back : List KeptRow) → AreCut rows front back → (values : KeptValues)
    (harvests : KeptHarvests) → AreRowsOf values harvests rows → IsKeptOf values front × AreHarvestRows harvests back
cut-parts rows front back cut values harvests is =
    let parts = one_cut (rows_of_values values) (rows_of_harvests harvests) front back (values-up values)
    (harvests-after harvests) (All-IsIn (λ (row : KeptRow). kind_number row.kind ≤ 5) front cut.up) cut.after
    (is.same ∙ sym cut.whole) in
    ((is.values_kept, parts.0), (is.harvests_kept, parts.1))

pub parts-rows : (rows front back : List KeptRow) → AreCut rows front back → (values : KeptValues)
    (harvests : KeptHarvests) → IsKeptOf values front → AreHarvestRows harvests back → AreRowsOf values harvests rows
parts-rows rows front back cut values harvests is also = record {
  values_kept = is.0;
  harvests_kept = also.0;
  same = ap (λ (l : List KeptRow). l ++ rows_of_harvests harvests) is.1
      ∙ ap (λ (l : List KeptRow). front ++ l) also.1
      ∙ cut.whole;
}

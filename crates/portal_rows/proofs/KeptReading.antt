-- What is read from the parts of a store's rows is read from all of them.
use Rattle.std.proofs.Common.{◌≡◌, ◌↔◌, ℕ, ◌<◌, ◌≤◌, List, [], ◌∷◌, ◌++◌, inl, inr, map, refl, sym, ap, ◌∙◌, subst}
use Rattle.std.proofs.Common.{arith}
use Rattle.std.specs.Prelude.{All, Option, Some, None}
use Rattle.std.specs.List.{AllZip, flat_map}
use Rattle.std.proofs.lemmas.Option.{same_Some}
use Rattle.dataset_rows.specs.Rows.{IsWellTyped}
use Rattle.packages.specs.Order.{dataset_cmp}
use Rattle.packages.specs.declared.package.Package.{Package}
use Rattle.portal_base.specs.Ordered.{ascending}
use Rattle.portal_base.proofs.Unique.{IsIn}
use Rattle.portal_base.proofs.Upserted.{All-IsIn, All-each}
use Rattle.portal_keeper.specs.Rows.{AreInOrder, kind_number, row_cmp}
use Rattle.portal_keeper.specs.declared.row.KeptRow.{KeptRow}
use Rattle.portal_rows.specs.KeptValues.{AreTablesOf, IsDatasetRow, IsKeptAfterVersion, IsKeptOf}
use Rattle.portal_rows.specs.KeptValues.{dataset_row}
use Rattle.portal_rows.specs.KeptValues.{head_row, kept_org_cmp, kept_org_row, rows_after_version, rows_in_table}
use Rattle.portal_rows.specs.OrgRows.{IsOrgRow, IsOrgWithRoles}
use Rattle.portal_rows.specs.VersionRow.{version_row}
use Rattle.portal_rows.specs.declared.kept_tables.KeptTable.{KeptTable}
use Rattle.portal_rows.specs.declared.kept_values.KeptValues.{KeptValues}
use Rattle.portal_rows.specs.declared.org_reading.OrgWithRoles.{OrgWithRoles}
use Rattle.portal_rows.proofs.KeptOrder.{after_version, rows_of_values-by_kind, rows_of_values-in_order, values-parts}
use Rattle.portal_rows.proofs.KindLemmas.{AreParts, AreUpTo, one_split, same_rows-same_parts}
use Rattle.portal_rows.proofs.MemberLemmas.{IsAscending-back, IsAscending-front, made-ascending}
use Rattle.portal_rows.proofs.ZipLemmas.{written-zip, zip-good, zip-written}

-- ---- the parts of the rows

-- the rows that three splits make of these
pub record AreSplit (rows orgs after_orgs datasets after_datasets heads rest : List KeptRow) : Type 0 where
  pub first : orgs ++ after_orgs ≡ rows
  pub second : datasets ++ after_datasets ≡ after_orgs
  pub third : heads ++ rest ≡ after_datasets
  pub orgs_up : All (λ (r : KeptRow). kind_number r.kind ≤ 2) orgs
  pub orgs_after : All (λ (r : KeptRow). 2 < kind_number r.kind) after_orgs
  pub datasets_up : All (λ (r : KeptRow). kind_number r.kind ≤ 3) datasets
  pub datasets_after : All (λ (r : KeptRow). 3 < kind_number r.kind) after_datasets
  pub heads_up : All (λ (r : KeptRow). kind_number r.kind ≤ 4) heads
  pub heads_after : All (λ (r : KeptRow). 4 < kind_number r.kind) rest

up_to : (k : ℕ) (rows : List KeptRow) → All (λ (r : KeptRow). kind_number r.kind ≤ k) rows → AreUpTo k rows
up_to k rows all r m = All-IsIn (λ (q : KeptRow). kind_number q.kind ≤ k) rows all r m

after : (k : ℕ) (rows others : List KeptRow) → rows ≡ others → All (λ (r : KeptRow). k < kind_number r.kind) others
    → (r : KeptRow) → IsIn r rows → k < kind_number r.kind
after k rows others same all r m =
    All-IsIn (λ (q : KeptRow). k < kind_number q.kind) others all r (subst (IsIn r) same m)

pub split-parts : (rows orgs after_orgs datasets after_datasets heads rest : List KeptRow)
    → AreSplit rows orgs after_orgs datasets after_datasets heads rest → AreParts orgs datasets heads rest
split-parts rows orgs after_orgs datasets after_datasets heads rest split = record {
  orgs_up = up_to 2 orgs split.orgs_up;
  orgs_after = after 2 (datasets ++ (heads ++ rest)) after_orgs
      (ap (λ l. datasets ++ l) split.third ∙ split.second) split.orgs_after;
  datasets_up = up_to 3 datasets split.datasets_up;
  datasets_after = after 3 (heads ++ rest) after_datasets split.third split.datasets_after;
  heads_up = up_to 4 heads split.heads_up;
  heads_after = after 4 rest rest refl split.heads_after;
}

pub split-whole : (rows orgs after_orgs datasets after_datasets heads rest : List KeptRow)
    → AreSplit rows orgs after_orgs datasets after_datasets heads rest → orgs ++ (datasets ++ (heads ++ rest)) ≡ rows
split-whole rows orgs after_orgs datasets after_datasets heads rest split =
    ap (λ l. orgs ++ (datasets ++ l)) split.third ∙ ap (λ l. orgs ++ l) split.second ∙ split.first

-- ---- the values of the parts

pub values-read : (rows orgs datasets heads rest : List KeptRow) (values : KeptValues) → AreInOrder rows
    → orgs ++ (datasets ++ (heads ++ rest)) ≡ rows → AllZip IsOrgRow values.orgs orgs
    → AllZip IsDatasetRow values.datasets datasets → AreTablesOf values.tables heads rest
    → IsKeptAfterVersion values rows
values-read rows orgs datasets heads rest values up whole read_orgs read_datasets tables =
    let org_rows : map kept_org_row values.orgs ≡ orgs =
    zip-written IsOrgWithRoles kept_org_row values.orgs orgs read_orgs in
    let dataset_rows : map dataset_row values.datasets ≡ datasets =
    zip-written IsWellTyped dataset_row values.datasets datasets read_datasets in
    let ordered : AreInOrder (orgs ++ (datasets ++ (heads ++ rest))) = subst AreInOrder (sym whole) up in
    let orgs_ordered = IsAscending-front row_cmp orgs (datasets ++ (heads ++ rest)) ordered in
    let datasets_ordered = IsAscending-front row_cmp datasets (heads ++ rest)
    (IsAscending-back row_cmp orgs (datasets ++ (heads ++ rest)) ordered) in (
      record {
        orgs = All-each IsOrgWithRoles values.orgs (zip-good IsOrgWithRoles kept_org_row values.orgs orgs read_orgs);
        orgs_ascend = made-ascending kept_org_row kept_org_cmp row_cmp values.orgs (λ x y less. less)
            (subst AreInOrder (sym org_rows) orgs_ordered);
        datasets = All-each IsWellTyped values.datasets
            (zip-good IsWellTyped dataset_row values.datasets datasets read_datasets);
        datasets_ascend = made-ascending dataset_row dataset_cmp row_cmp values.datasets (λ x y less. less)
            (subst AreInOrder (sym dataset_rows) datasets_ordered);
        tables = tables.valid;
        tables_ascend = tables.ascend;
      },
      ap (λ l. l ++ (map dataset_row values.datasets
          ++ (map head_row values.tables ++ ascending row_cmp (flat_map rows_in_table values.tables)))) org_rows
          ∙ ap (λ l. orgs ++ (l ++ (map head_row values.tables
          ++ ascending row_cmp (flat_map rows_in_table values.tables)))) dataset_rows
          ∙ ap (λ l. orgs ++ (datasets ++ (l ++ ascending row_cmp (flat_map rows_in_table values.tables))))
          tables.have_heads
          ∙ ap (λ l. orgs ++ (datasets ++ (heads ++ l))) tables.have_rows ∙ whole,
    )

-- the values of the parts of the rows
pub record HaveParts (values : KeptValues) (orgs datasets heads rest : List KeptRow) : Type 0 where
  pub orgs_read : AllZip IsOrgRow values.orgs orgs
  pub datasets_read : AllZip IsDatasetRow values.datasets datasets
  pub tables_read : AreTablesOf values.tables heads rest

pub parts-read : (rows orgs datasets heads rest : List KeptRow) (values : KeptValues)
    → AreParts orgs datasets heads rest
    → orgs ++ (datasets ++ (heads ++ rest)) ≡ rows → IsKeptAfterVersion values rows
    → HaveParts values orgs datasets heads rest
parts-read rows orgs datasets heads rest values parts whole kept =
    let same = same_rows-same_parts (map kept_org_row values.orgs) (map dataset_row values.datasets)
    (map head_row values.tables) (ascending row_cmp (flat_map rows_in_table values.tables)) orgs datasets heads rest
    (values-parts values) parts (kept.1 ∙ sym whole) in
    record {
      orgs_read = written-zip IsOrgWithRoles kept_org_row values.orgs orgs
          (All-IsIn IsOrgWithRoles values.orgs kept.0.orgs) same.0;
      datasets_read = written-zip IsWellTyped dataset_row values.datasets datasets
          (All-IsIn IsWellTyped values.datasets kept.0.datasets) same.1;
      tables_read = record {
        valid = kept.0.tables;
        ascend = kept.0.tables_ascend;
        have_heads = same.2;
        have_rows = same.3;
      };
    }

-- ---- the readers' results

-- No values have rows of which a part can't be read.
pub refused : (rows orgs after_orgs datasets after_datasets heads rest : List KeptRow)
    → AreSplit rows orgs after_orgs datasets after_datasets heads rest
    → ((values : KeptValues) → HaveParts values orgs datasets heads rest → ⊥) → (values : KeptValues)
    → (None ≡ Some values) ↔ IsKeptAfterVersion values rows
refused rows orgs after_orgs datasets after_datasets heads rest split none values = (
  λ e. absurd (cc),
  λ kept. absurd (none values
      (parts-read rows orgs datasets heads rest values
      (split-parts rows orgs after_orgs datasets after_datasets heads rest split)
      (split-whole rows orgs after_orgs datasets after_datasets heads rest split) kept)),
)

pub all-read : (rows orgs after_orgs datasets after_datasets heads rest : List KeptRow)
    (found_orgs : Option (List OrgWithRoles)) (found_datasets : Option (List Package))
    (found_tables : Option (List KeptTable)) (read : KeptValues) → AreInOrder rows
    → AreSplit rows orgs after_orgs datasets after_datasets heads rest
    → ((o : List OrgWithRoles) → (found_orgs ≡ Some o) ↔ AllZip IsOrgRow o orgs)
    → ((d : List Package) → (found_datasets ≡ Some d) ↔ AllZip IsDatasetRow d datasets)
    → ((t : List KeptTable) → (found_tables ≡ Some t) ↔ AreTablesOf t heads rest) → found_orgs ≡ Some read.orgs
    → found_datasets ≡ Some read.datasets → found_tables ≡ Some read.tables → (values : KeptValues)
    → (Some read ≡ Some values) ↔ IsKeptAfterVersion values rows
all-read rows orgs after_orgs datasets after_datasets heads rest found_orgs found_datasets found_tables read up split
    org_reader dataset_reader table_reader some_orgs some_datasets some_tables values = (into, from)
  where
    whole : orgs ++ (datasets ++ (heads ++ rest)) ≡ rows
    whole = split-whole rows orgs after_orgs datasets after_datasets heads rest split

    into : Some read ≡ Some values → IsKeptAfterVersion values rows
    into e =
        subst (λ (v : KeptValues). IsKeptAfterVersion v rows) (same_Some read values e)
        (values-read rows orgs datasets heads rest read up whole ((org_reader read.orgs).0 some_orgs)
        ((dataset_reader read.datasets).0 some_datasets) ((table_reader read.tables).0 some_tables))

    from : IsKeptAfterVersion values rows → Some read ≡ Some values
    from kept =
        let have = parts-read rows orgs datasets heads rest values
        (split-parts rows orgs after_orgs datasets after_datasets heads rest split) whole kept in
        let same_orgs : read.orgs ≡ values.orgs =
        same_Some read.orgs values.orgs (sym some_orgs ∙ (org_reader values.orgs).1 have.orgs_read) in
        let same_datasets : read.datasets ≡ values.datasets =
        same_Some read.datasets values.datasets
        (sym some_datasets ∙ (dataset_reader values.datasets).1 have.datasets_read) in
        let same_tables : read.tables ≡ values.tables =
        same_Some read.tables values.tables (sym some_tables ∙ (table_reader values.tables).1 have.tables_read) in
        let same : read ≡ values =
        λ i. record { orgs = same_orgs i; datasets = same_datasets i; tables = same_tables i } in
        ap Some same

-- The rows after a split are in order,
pub back-in_order : (rows front back : List KeptRow) → AreInOrder rows → front ++ back ≡ rows → AreInOrder back
back-in_order rows front back up whole = IsAscending-back row_cmp front back (subst AreInOrder (sym whole) up)

-- and so are those before it.
pub front-in_order : (rows front back : List KeptRow) → AreInOrder rows → front ++ back ≡ rows → AreInOrder front
front-in_order rows front back up whole = IsAscending-front row_cmp front back (subst AreInOrder (sym whole) up)

-- ---- the row of the version

-- After the row of the version come the rows after it.
pub with_version : (rows rest : List KeptRow) → (version_row ∷ []) ++ rest ≡ rows → (values : KeptValues)
    → IsKeptAfterVersion values rest ↔ IsKeptOf values rows
with_version rows rest whole values = (
  λ kept. (kept.0, rows_of_values-by_kind values kept.0 ∙ ap (λ l. version_row ∷ l) kept.1 ∙ whole),
  λ kept.
      let both : version_row ∷ rows_after_version values ≡ version_row ∷ rest =
      sym (rows_of_values-by_kind values kept.0) ∙ kept.1 ∙ sym whole in
      let after : rows_after_version values ≡ rest = cc in
      (kept.0, after),
)

pub through_version : (rows rest : List KeptRow) → (version_row ∷ []) ++ rest ≡ rows → (found : Option KeptValues)
    → ((values : KeptValues) → (found ≡ Some values) ↔ IsKeptAfterVersion values rest) → (values : KeptValues)
    → (found ≡ Some values) ↔ IsKeptOf values rows
through_version rows rest whole found reads values =
    let step = with_version rows rest whole values in
    (λ e. step.0 ((reads values).0 e), λ kept. (reads values).1 (step.1 kept))

-- Rows that do not begin with the row of the version alone are of no values.
pub without_version : (rows version rest : List KeptRow) → version ++ rest ≡ rows
    → All (λ (r : KeptRow). kind_number r.kind ≤ 1) version → All (λ (r : KeptRow). 1 < kind_number r.kind) rest
    → (version ≡ version_row ∷ [] → ⊥) → (values : KeptValues) → (None ≡ Some values) ↔ IsKeptOf values rows
without_version rows version rest whole up more other values = (λ e. absurd (cc), λ kept. absurd (other (first kept)))
  where
    alone : AreUpTo 1 (version_row ∷ [])
    alone r (inl same) = subst (λ (q : KeptRow). kind_number q.kind ≤ 1) (sym same) (omega arith)
    alone r (inr none) = absurd none

    first : IsKeptOf values rows → version ≡ version_row ∷ []
    first kept =
        (one_split 1 version rest (version_row ∷ []) (rows_after_version values) (up_to 1 version up)
        (after 1 rest rest refl more) alone (after_version values)
        (whole ∙ sym kept.1 ∙ rows_of_values-by_kind values kept.0)).0

pub out_of_order : (rows : List KeptRow) → (AreInOrder rows → ⊥) → (values : KeptValues)
    → (None ≡ Some values) ↔ IsKeptOf values rows
out_of_order rows unordered values =
    (λ e. absurd (cc), λ kept. absurd (unordered (subst AreInOrder kept.1 (rows_of_values-in_order values kept.0))))

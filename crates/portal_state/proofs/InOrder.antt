-- The rows of a valid state are in order: no two have the same kind and key.
use Rattle.std.proofs.Common.{◌≡◌, ℕ, ◌^◌, ◌<◌, ◌≤◌, Bool, true, false, List, [], ◌∷◌, ◌++◌, map, ◌⊎◌, inl, inr, refl}
use Rattle.std.proofs.Common.{◌↔◌, Option, Some, None}
use Rattle.std.proofs.Common.{sym, ap, subst, ◌∙◌, arith}
use Rattle.std.specs.Prelude.{option_map}
use Rattle.std.specs.List.{Contains, flat_map}
use Rattle.std.specs.Ordering.{is_eq, nat_cmp, ordering_then}
use Rattle.std.specs.Cmp.Lexicographic.{slice_cmp}
use Rattle.std.specs.declared.cmp.Ordering.{Ordering}
use Rattle.std.specs.declared.cmp.Ordering.TheVariants.{Less, Greater}
use Rattle.std.proofs.lemmas.Bool.Decides.{nat_tests}
use Rattle.std.proofs.lemmas.Cmp.{tied_itself}
use Rattle.std.proofs.lemmas.Option.{same_Some}
use Rattle.portal_base.specs.Ordered.{IsAscending, IsBelowAll, found}
use Rattle.portal_base.proofs.Inserted.{AreApart, IsAscending-ascending}
use Rattle.portal_base.proofs.Removed.{AreApart-are_apart, is_eq_true}
use Rattle.portal_base.proofs.Unique.{Contains-IsIn, IsIn, IsIn-Contains, IsIn-ascending, ascending-IsIn, below_in}
use Rattle.portal_base.proofs.Unique.{not_below_itself}
use Rattle.portal_base.proofs.Upserted.{All-IsIn, are_apart-IsAscending}
use Rattle.packages.specs.Order.{dataset_cmp}
use Rattle.packages.specs.declared.package.Package.{Package}
use Rattle.packages.proofs.FindLemmas.{IsIn-find, map-IsIn, none-list_any}
use Rattle.org_roles.specs.PeopleLists.{PeopleLists}
use Rattle.datastore_table.specs.Meets.{IsTable}
use Rattle.datastore_table.specs.Table.{AreWithin, IsNumbered}
use Rattle.datastore_table.specs.declared.row.Row.{Row}
use Rattle.datastore_answers.specs.Order.{table_cmp, table_cmp_total}
use Rattle.datastore_answers.specs.declared.address.Address.{Address}
use Rattle.datastore_answers.specs.declared.resource_table.ResourceTable.{ResourceTable}
use Rattle.datastore_answers.proofs.KeepLemmas.{none-passes}
use Rattle.datastore_query.proofs.SelectLemmas.{IsIn-either}
use Rattle.harvest_rows.specs.Rows.{job_row, job_rows, source_row, source_rows}
use Rattle.harvest_sources.specs.Jobs.{job_cmp, job_id}
use Rattle.harvest_sources.specs.Sources.{HasItsJobs, IsJobOf, SourceState, source_cmp, source_cmp_total}
use Rattle.harvest_sources.specs.declared.job.Job.{Job}
use Rattle.portal_state.specs.State.{State}
use Rattle.portal_state.specs.Valid.{IsValid}
use Rattle.portal_keeper.specs.Rows.{AreInOrder, IsKey-row_at, body_at, kind_number, row_at, row_cmp, row_cmp_total}
use Rattle.portal_keeper.specs.declared.row.KeptRow.{KeptRow}
use Rattle.portal_keeper.specs.declared.row.RowKind.TheVariants as kind
use Rattle.portal_keeper.proofs.RowLemmas.{same_key}
use Rattle.portal_rows.specs.OrgRows.{memberships_in, org_row, org_rows}
use Rattle.portal_rows.specs.TableRows.{cells_row, row_key}
use Rattle.portal_rows.specs.VersionRow.{version_row}
use Rattle.portal_rows.proofs.OrderLemmas.{org_rows-in_order, rows_of_table-in_order}
use Rattle.portal_state.specs.KeptRows.{IsSized, dataset_row, kept_rows, listed_rows, resource_id, row_targets, table_rows}
use Rattle.portal_state.proofs.KeyLemmas.{job_cmp_total, same_address, same_number, same_resource, same_source}
use Rattle.portal_state.proofs.RowMembers.{flat_map-IsIn, found-member}

-- ---- rows that are apart

in_order-apart : (rows : List KeptRow) → AreInOrder rows → AreApart row_cmp rows
in_order-apart rows up = AreApart-are_apart row_cmp rows (are_apart-IsAscending row_cmp row_cmp_total rows up)

-- Two lists in one, of which no row of the first has the kind and key of one of the second.
apart-append : (rows others : List KeptRow) → AreApart row_cmp rows → AreApart row_cmp others
    → ((r q : KeptRow) → IsIn r rows → IsIn q others → is_eq (row_cmp q r) ≡ false)
    → AreApart row_cmp (rows ++ others)
apart-append [] others apart also between = also
apart-append (r ∷ rows) others apart also between = (
  none-list_any (λ (q : KeptRow). is_eq (row_cmp q r)) (rows ++ others) (λ q m. by q (IsIn-either q rows others m)),
  apart-append rows others apart.1 also (λ p q m n. between p q (inr m) n),
)
  where
    by : (q : KeptRow) → IsIn q rows ⊎ IsIn q others → is_eq (row_cmp q r) ≡ false
    by q (inl m) = none-passes (λ (p : KeptRow). is_eq (row_cmp p r)) rows apart.0 q m
    by q (inr m) = between r q (inl refl) m

above-apart : (r s : Ordering) → r ≡ Greater → is_eq (ordering_then r s) ≡ false
above-apart r s e = ap (λ (t : Ordering). is_eq (ordering_then t s)) e

-- Rows of different kinds are apart.
kinds-apart : (q r : KeptRow) → kind_number r.kind < kind_number q.kind → is_eq (row_cmp q r) ≡ false
kinds-apart q r less =
    let above : nat_cmp (kind_number q.kind) (kind_number r.kind) ≡ Greater = grind (arith, nat_tests) in
    above-apart (nat_cmp (kind_number q.kind) (kind_number r.kind)) (slice_cmp nat_cmp q.key r.key) above

-- So are rows that do not have both the same kind and the same key.
keys-apart : (q r : KeptRow) → ((q.kind ≡ r.kind) × (q.key ≡ r.key) → ⊥) → is_eq (row_cmp q r) ≡ false
keys-apart q r differ = by (is_eq (row_cmp q r)) refl
  where
    by : (b : Bool) → is_eq (row_cmp q r) ≡ b → b ≡ false
    by true is = absurd (differ (same_key q.kind q.key r.kind r.key (is_eq_true (row_cmp q r) is)))
    by false is = refl

-- ---- the kinds of rows

pub org-kind : (people : PeopleLists) (r : KeptRow) → IsIn r (org_rows people) → kind_number r.kind ≡ 2
org-kind people r m =
    let w = map-IsIn (λ org. org_row org (memberships_in org.name people.roles)) r people.orgs m in
    ap (λ (q : KeptRow). kind_number q.kind) w.2

dataset-kind : (datasets : List Package) (r : KeptRow) → IsIn r (map dataset_row datasets) → kind_number r.kind ≡ 3
dataset-kind datasets r m =
    let w = map-IsIn dataset_row r datasets m in ap (λ (q : KeptRow). kind_number q.kind) w.2

-- ---- the rows of tables

-- the table's numbers have the sizes that they have in a table, and its rows are numbered
record HasSizes (t : ResourceTable) : Type 0 where
  number : t.address.number < 2 ^ 32
  next_id : t.table.next_id < 2 ^ 64
  numbered : IsNumbered t.table.rows t.table.next_id

-- A row of this resource's table: it has the resource's id as its key, or that id with an `_id`.
abbrev HasKeyOf : Address → KeptRow → Type 0
HasKeyOf address r =
    ((r.kind ≡ kind.Table) × (r.key ≡ resource_id address))
    ⊎ ((r.kind ≡ kind.Row) × ((id : ℕ) × (id < 2 ^ 64) × (r.key ≡ row_key (resource_id address) id)))

pub within-id : (next_id : ℕ) (rows : List Row) → AreWithin next_id rows → (row : Row) → IsIn row rows → row.id < next_id
within-id next_id [] within row m = absurd m
within-id next_id (first ∷ rows) within row (inl same) =
    subst (λ (r : Row). r.id < next_id) (sym same) within.1
within-id next_id (first ∷ rows) within row (inr m) = within-id next_id rows within.2 row m

table-key : (t : ResourceTable) → HasSizes t → (r : KeptRow) → IsIn r (table_rows t) → HasKeyOf t.address r
table-key t sized r (inl head) = inl (ap (λ (q : KeptRow). q.kind) head, ap (λ (q : KeptRow). q.key) head)
table-key t sized r (inr m) =
    let w = map-IsIn (cells_row (resource_id t.address)) r t.table.rows m in
    let below : w.0.id < t.table.next_id =
    within-id t.table.next_id t.table.rows sized.numbered.within w.0 w.1 in
    inr (
      ap (λ (q : KeptRow). q.kind) w.2,
      (w.0.id, omega (arith, below, sized.next_id), ap (λ (q : KeptRow). q.key) w.2),
    )

table_is_no_row : kind.Table ≡ kind.Row → ⊥
table_is_no_row same = let numbers : 4 ≡ 5 = ap kind_number same in omega (arith, numbers)

-- A row is of the table of one resource.
one-table : (a b : Address) (r q : KeptRow) → a.number < 2 ^ 32 → b.number < 2 ^ 32 → q.kind ≡ r.kind → q.key ≡ r.key
    → HasKeyOf a r → HasKeyOf b q → a ≡ b
one-table a b r q small also same key (inl first) (inl second) =
    same_address a b small also (sym first.1 ∙ sym key ∙ second.1)
one-table a b r q small also same key (inl first) (inr second) =
    absurd (table_is_no_row (sym first.0 ∙ sym same ∙ second.0))
one-table a b r q small also same key (inr first) (inl second) =
    absurd (table_is_no_row (sym second.0 ∙ same ∙ first.0))
one-table a b r q small also same key (inr first) (inr second) =
    same_address a b small also
    (same_resource (resource_id a) (resource_id b) first.1.0 second.1.0 first.1.1 second.1.1
    (sym first.1.2 ∙ sym key ∙ second.1.2))

tables-apart : (tables : List ResourceTable) → IsAscending table_cmp tables
    → ((t : ResourceTable) → IsIn t tables → HasSizes t) → AreApart row_cmp (flat_map table_rows tables)
tables-apart [] up sized = tt
tables-apart (t ∷ tables) up sized =
    apart-append (table_rows t) (flat_map table_rows tables)
    (in_order-apart (table_rows t)
    (rows_of_table-in_order (resource_id t.address) (row_targets t) t.table (sized t (inl refl)).numbered
    (sized t (inl refl)).next_id))
    (tables-apart tables up.1 (λ u m. sized u (inr m)))
    (λ r q m n. keys-apart q r (between r q m (flat_map-IsIn table_rows q tables n)))
  where
    between : (r q : KeptRow) → IsIn r (table_rows t)
        → (u : ResourceTable) × IsIn u tables × IsIn q (table_rows u) → (q.kind ≡ r.kind) × (q.key ≡ r.key) → ⊥
    between r q m w same =
        let address : t.address ≡ w.0.address =
        one-table t.address w.0.address r q (sized t (inl refl)).number (sized w.0 (inr w.1)).number same.0 same.1
        (table-key t (sized t (inl refl)) r m) (table-key w.0 (sized w.0 (inr w.1)) q w.2) in
        let less : table_cmp t w.0 ≡ Less = below_in table_cmp t w.0 tables up.0 w.1 in
        not_below_itself table_cmp table_cmp_total t
        (subst (λ (a : Address). table_cmp t (record t { address = a }) ≡ Less) (sym address) less)

tables-kind : (tables : List ResourceTable) → ((t : ResourceTable) → IsIn t tables → HasSizes t) → (r : KeptRow)
    → IsIn r (flat_map table_rows tables) → (4 ≤ kind_number r.kind) × (kind_number r.kind ≤ 5)
tables-kind tables sized r m =
    let w = flat_map-IsIn table_rows r tables m in by w.0.address (table-key w.0 (sized w.0 w.1) r w.2)
  where
    by : (a : Address) → HasKeyOf a r → (4 ≤ kind_number r.kind) × (kind_number r.kind ≤ 5)
    by a (inl is) =
        let number : kind_number r.kind ≡ 4 = ap kind_number is.0 in (omega (arith, number), omega (arith, number))
    by a (inr is) =
        let number : kind_number r.kind ≡ 5 = ap kind_number is.0 in (omega (arith, number), omega (arith, number))

-- ---- the rows of sources

below_sources : (s : SourceState) (sources : List SourceState) → IsBelowAll source_cmp s sources
    → IsBelowAll row_cmp (source_row s.source) (source_rows sources)
below_sources s [] below = tt
below_sources s (t ∷ sources) below = (below.0, below_sources s sources below.1)

sources_in_order : (sources : List SourceState) → IsAscending source_cmp sources → AreInOrder (source_rows sources)
sources_in_order [] up = tt
sources_in_order (s ∷ sources) up = (below_sources s sources up.0, sources_in_order sources up.1)

source-kind : (sources : List SourceState) (r : KeptRow) → IsIn r (source_rows sources) → kind_number r.kind ≡ 6
source-kind sources r m =
    let w = map-IsIn (λ (s : SourceState). source_row s.source) r sources m in
    ap (λ (q : KeptRow). kind_number q.kind) w.2

-- ---- the rows of jobs

-- the source's jobs are its own, ascend by number, and have numbers that are `u64`s
pub record HasSizedJobs (s : SourceState) : Type 0 where
  pub own : (job : Job) → IsIn job s.jobs → job.source ≡ s.source.name
  pub small : (job : Job) → IsIn job s.jobs → job.number < 2 ^ 64
  pub ascending : IsAscending job_cmp s.jobs

pub sized-jobs : (state : State) → IsValid state → IsSized state → (s : SourceState) → IsIn s state.sources
    → HasSizedJobs s
sized-jobs state valid sized s m = record {
  own = λ job n. (All-IsIn (IsJobOf s.source) s.jobs its.own job n).own;
  small = λ job n. let given = (All-IsIn (IsJobOf s.source) s.jobs its.own job n).given in omega (arith, given, next);
  ascending = its.ascending;
}
  where
    its : HasItsJobs s
    its = All-IsIn HasItsJobs state.sources valid.sources.jobs s m

    next : s.source.next_job < 2 ^ 64
    next = All-IsIn (λ (t : SourceState). t.source.next_job < 2 ^ 64) state.sources sized.next_jobs s m

jobs-apart : (jobs : List Job) → IsAscending job_cmp jobs → ((job : Job) → IsIn job jobs → job.number < 2 ^ 64)
    → AreApart row_cmp (map job_row jobs)
jobs-apart [] up small = tt
jobs-apart (j ∷ jobs) up small = (
  none-list_any (λ (q : KeptRow). is_eq (row_cmp q (job_row j))) (map job_row jobs)
      (λ q m. keys-apart q (job_row j) (differ q (map-IsIn job_row q jobs m))),
  jobs-apart jobs up.1 (λ k m. small k (inr m)),
)
  where
    differ : (q : KeptRow) → (k : Job) × IsIn k jobs × (q ≡ job_row k)
        → (q.kind ≡ kind.Job) × (q.key ≡ job_id j.source j.number) → ⊥
    differ q w same =
        let number : j.number ≡ w.0.number =
        same_number j.source w.0.source j.number w.0.number (small j (inl refl)) (small w.0 (inr w.1))
        (sym same.1 ∙ ap (λ (r : KeptRow). r.key) w.2) in
        let less : job_cmp j w.0 ≡ Less = below_in job_cmp j w.0 jobs up.0 w.1 in
        not_below_itself job_cmp job_cmp_total j (subst (λ (n : ℕ). nat_cmp j.number n ≡ Less) (sym number) less)

all_jobs-apart : (sources : List SourceState) → IsAscending source_cmp sources
    → ((s : SourceState) → IsIn s sources → HasSizedJobs s) → AreApart row_cmp (job_rows sources)
all_jobs-apart [] up each = tt
all_jobs-apart (s ∷ sources) up each =
    apart-append (map job_row s.jobs) (job_rows sources)
    (jobs-apart s.jobs (each s (inl refl)).ascending (each s (inl refl)).small)
    (all_jobs-apart sources up.1 (λ t m. each t (inr m)))
    (λ r q m n. keys-apart q r (between r q m (flat_map-IsIn (λ (t : SourceState). map job_row t.jobs) q sources n)))
  where
    between : (r q : KeptRow) → IsIn r (map job_row s.jobs)
        → (t : SourceState) × IsIn t sources × IsIn q (map job_row t.jobs) → (q.kind ≡ r.kind) × (q.key ≡ r.key) → ⊥
    between r q m w same =
        let one = map-IsIn job_row r s.jobs m in
        let other = map-IsIn job_row q w.0.jobs w.2 in
        let of_one : one.0.source ≡ other.0.source =
        same_source one.0.source other.0.source one.0.number other.0.number
        (sym (ap (λ (p : KeptRow). p.key) one.2) ∙ sym same.1 ∙ ap (λ (p : KeptRow). p.key) other.2) in
        let name : s.source.name ≡ w.0.source.name =
        sym ((each s (inl refl)).own one.0 one.1) ∙ of_one ∙ (each w.0 (inr w.1)).own other.0 other.1 in
        let less : source_cmp s w.0 ≡ Less = below_in source_cmp s w.0 sources up.0 w.1 in
        not_below_itself source_cmp source_cmp_total s
        (subst (λ (n : List ℕ). slice_cmp nat_cmp s.source.name n ≡ Less) (sym name) less)

job-kind : (sources : List SourceState) (r : KeptRow) → IsIn r (job_rows sources) → kind_number r.kind ≡ 7
job-kind sources r m =
    let w = flat_map-IsIn (λ (s : SourceState). map job_row s.jobs) r sources m in
    let v = map-IsIn job_row r w.0.jobs w.2 in
    ap (λ (q : KeptRow). kind_number q.kind) v.2

-- ---- all rows

below_datasets : (d : Package) (datasets : List Package) → IsBelowAll dataset_cmp d datasets
    → IsBelowAll row_cmp (dataset_row d) (map dataset_row datasets)
below_datasets d [] below = tt
below_datasets d (e ∷ datasets) below = (below.0, below_datasets d datasets below.1)

datasets_in_order : (datasets : List Package) → IsAscending dataset_cmp datasets → AreInOrder (map dataset_row datasets)
datasets_in_order [] up = tt
datasets_in_order (d ∷ datasets) up = (below_datasets d datasets up.0, datasets_in_order datasets up.1)

tables_sized : (state : State) → IsValid state → IsSized state → (t : ResourceTable) → IsIn t state.tables → HasSizes t
tables_sized state valid sized t m = record {
  number = All-IsIn (λ (u : ResourceTable). u.address.number < 2 ^ 32) state.tables sized.tables.numbers t m;
  next_id = All-IsIn (λ (u : ResourceTable). u.table.next_id < 2 ^ 64) state.tables sized.tables.next_ids t m;
  numbered = (All-IsIn (λ (u : ResourceTable). IsTable u.table.schema u.table.rows u.table.next_id) state.tables
      valid.tables.valid t m).numbered;
}

harvests-apart : (state : State) → IsValid state → IsSized state
    → AreApart row_cmp (source_rows state.sources ++ job_rows state.sources)
harvests-apart state valid sized =
    apart-append (source_rows state.sources) (job_rows state.sources)
    (in_order-apart (source_rows state.sources) (sources_in_order state.sources valid.sources.ascending))
    (all_jobs-apart state.sources valid.sources.ascending (sized-jobs state valid sized))
    (λ r q m n.
    let first = source-kind state.sources r m in
    let second = job-kind state.sources q n in
    kinds-apart q r (omega (arith, first, second)))

listed-apart : (state : State) → IsValid state → IsSized state → AreApart row_cmp (listed_rows state)
listed-apart state valid sized = (
  none-list_any (λ (q : KeptRow). is_eq (row_cmp q version_row)) (orgs ++ after_orgs)
      (λ q m. kinds-apart q version_row (above_version q (IsIn-either q orgs after_orgs m))),
  apart-append orgs after_orgs (in_order-apart orgs (org_rows-in_order state.people valid.people))
      (apart-append datasets after_datasets
      (in_order-apart datasets (datasets_in_order state.datasets valid.datasets))
      (apart-append tables harvests
      (tables-apart state.tables valid.tables.ascending each)
      (harvests-apart state valid sized)
      (λ r q m n.
      let first = tables-kind state.tables each r m in
      let second = above_tables q (IsIn-either q sources jobs n) in
      kinds-apart q r (omega (arith, first.1, second))))
      (λ r q m n.
      let first = dataset-kind state.datasets r m in
      let second = above_datasets q (IsIn-either q tables harvests n) in
      kinds-apart q r (omega (arith, first, second))))
      (λ r q m n.
      let first = org-kind state.people r m in
      let second = above_orgs q (IsIn-either q datasets after_datasets n) in
      kinds-apart q r (omega (arith, first, second))),
)
  where
    orgs : List KeptRow
    orgs = org_rows state.people

    datasets : List KeptRow
    datasets = map dataset_row state.datasets

    tables : List KeptRow
    tables = flat_map table_rows state.tables

    sources : List KeptRow
    sources = source_rows state.sources

    jobs : List KeptRow
    jobs = job_rows state.sources

    harvests : List KeptRow
    harvests = sources ++ jobs

    after_datasets : List KeptRow
    after_datasets = tables ++ harvests

    after_orgs : List KeptRow
    after_orgs = datasets ++ after_datasets

    each : (t : ResourceTable) → IsIn t state.tables → HasSizes t
    each = tables_sized state valid sized

    above_tables : (q : KeptRow) → IsIn q sources ⊎ IsIn q jobs → 5 < kind_number q.kind
    above_tables q (inl m) = let number = source-kind state.sources q m in omega (arith, number)
    above_tables q (inr m) = let number = job-kind state.sources q m in omega (arith, number)

    above_datasets : (q : KeptRow) → IsIn q tables ⊎ IsIn q harvests → 3 < kind_number q.kind
    above_datasets q (inl m) = let number = tables-kind state.tables each q m in omega (arith, number.0)
    above_datasets q (inr m) = let number = above_tables q (IsIn-either q sources jobs m) in omega (arith, number)

    above_orgs : (q : KeptRow) → IsIn q datasets ⊎ IsIn q after_datasets → 2 < kind_number q.kind
    above_orgs q (inl m) = let number = dataset-kind state.datasets q m in omega (arith, number)
    above_orgs q (inr m) = let number = above_datasets q (IsIn-either q tables harvests m) in omega (arith, number)

    above_version : (q : KeptRow) → IsIn q orgs ⊎ IsIn q after_orgs → kind_number version_row.kind < kind_number q.kind
    above_version q (inl m) = let number = org-kind state.people q m in omega (arith, number)
    above_version q (inr m) = let number = above_orgs q (IsIn-either q datasets after_datasets m) in omega (arith, number)

pub kept_rows-in_order : (state : State) → IsValid state → IsSized state → AreInOrder (kept_rows state)
kept_rows-in_order state valid sized =
    IsAscending-ascending row_cmp row_cmp_total (listed_rows state) (listed-apart state valid sized)

-- ---- rows at their keys

-- A row is found in the rows of a valid state at its kind and key exactly if it is one of them.
pub found-listed : (state : State) (row : KeptRow) → IsValid state → IsSized state
    → (body_at (kept_rows state) row.kind row.key ≡ Some row.body) ↔ Contains (listed_rows state) row
found-listed state row valid sized = (listed (found (row_at row.kind row.key) (kept_rows state)) refl, kept)
  where
    whole : (q : KeptRow) → q.kind ≡ row.kind → q.key ≡ row.key → q.body ≡ row.body → q ≡ row
    whole q kind key body = λ i. record { kind = kind i; key = key i; body = body i }

    listed : (o : Option KeptRow) → found (row_at row.kind row.key) (kept_rows state) ≡ o
        → body_at (kept_rows state) row.kind row.key ≡ Some row.body → Contains (listed_rows state) row
    listed None is e =
        let none : body_at (kept_rows state) row.kind row.key ≡ None = ap (option_map (λ r. r.body)) is in absurd (cc)
    listed (Some q) is e =
        let there = IsIn-find (λ r. is_eq (row_at row.kind row.key r)) q (kept_rows state) is in
        let key = same_key q.kind q.key row.kind row.key (is_eq_true (row_at row.kind row.key q) there.1) in
        let body : Some q.body ≡ Some row.body = sym (ap (option_map (λ r. r.body)) is) ∙ e in
        Contains-IsIn row (listed_rows state)
        (subst (λ (r : KeptRow). IsIn r (listed_rows state))
        (whole q key.0 key.1 (same_Some q.body row.body body))
        (ascending-IsIn row_cmp q (listed_rows state) there.0))

    kept : Contains (listed_rows state) row → body_at (kept_rows state) row.kind row.key ≡ Some row.body
    kept among =
        ap (option_map (λ r. r.body))
        (found-member row_cmp (row_at row.kind row.key) (IsKey-row_at row.kind row.key) row (kept_rows state)
        (kept_rows-in_order state valid sized)
        (IsIn-ascending row_cmp row (listed_rows state) (IsIn-Contains row (listed_rows state) among))
        (ap is_eq (tied_itself row_cmp_total row)))

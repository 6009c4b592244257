-- What the rows of a valid state have at the keys of organizations, of datasets, of tables and of their rows, of sources
-- and of their jobs.
use Rattle.std.proofs.Common.{◌≡◌, ℕ, ◌<◌, ◌^◌, Bool, true, false, List, [], ◌∷◌, ◌++◌, Option, Some, None, map, ◌⊎◌}
use Rattle.std.proofs.Common.{inl, inr}
use Rattle.std.proofs.Common.{refl, sym, ap, ap₂, subst, ◌∙◌, arith, true≢false}
use Rattle.std.specs.Prelude.{option_map}
use Rattle.std.specs.List.{flat_map}
use Rattle.std.specs.Ordering.{is_eq, nat_cmp}
use Rattle.std.specs.Str.{bytes_eq}
use Rattle.std.proofs.lemmas.Cmp.{tied_itself}
use Rattle.std.proofs.lemmas.Map.Lookups.{exact_bytes, exact_unsigned}
use Rattle.std.proofs.lemmas.Slice.Eq.{bytes_eq-Decides}
use Rattle.portal_base.specs.Ordered.{found}
use Rattle.portal_base.proofs.Removed.{is_eq_true}
use Rattle.portal_base.proofs.Unique.{Contains-IsIn, IsIn, ascending-IsIn}
use Rattle.portal_base.proofs.Upserted.{All-IsIn}
use Rattle.dataset_answers.specs.Changed.{dataset_at_id}
use Rattle.dataset_rows.specs.Rows.{row_text}
use Rattle.datastore_answers.specs.Order.{address_cmp, at_address, is_at, table_cmp_total}
use Rattle.datastore_answers.specs.declared.address.Address.{Address}
use Rattle.datastore_answers.specs.declared.resource_table.ResourceTable.{ResourceTable}
use Rattle.datastore_answers.proofs.KeepLemmas.{at-is, found-in}
use Rattle.datastore_query.proofs.SelectLemmas.{IsIn-back, IsIn-either, IsIn-front}
use Rattle.datastore_table.specs.Meets.{IsTable}
use Rattle.datastore_table.specs.Rows.{row_cmp_total as id_cmp_total}
use Rattle.datastore_table.specs.Table.{AreWithin}
use Rattle.datastore_table.specs.declared.row.Row.{Row}
use Rattle.harvest_rows.specs.Rows.{job_row, job_rows, source_row, source_rows}
use Rattle.harvest_sources.specs.Jobs.{id_of_job, job_id}
use Rattle.harvest_sources.specs.Sources.{SourceState}
use Rattle.harvest_sources.specs.declared.job.Job.{Job}
use Rattle.org_roles.specs.PeopleLists.{org_in}
use Rattle.org_roles.specs.declared.entry.Org.{Org}
use Rattle.packages.specs.Order.{dataset_cmp_total}
use Rattle.packages.specs.declared.package.Package.{Package}
use Rattle.packages.proofs.FindLemmas.{IsIn-find, IsIn-map, find-none, map-IsIn, none-find}
use Rattle.portal_keeper.specs.Rows.{body_at, kind_number, row_at, row_cmp}
use Rattle.portal_keeper.specs.declared.row.KeptRow.{KeptRow}
use Rattle.portal_keeper.specs.declared.row.RowKind.{RowKind}
use Rattle.portal_keeper.specs.declared.row.RowKind.TheVariants as kind
use Rattle.portal_keeper.proofs.RowLemmas.{same_key}
use Rattle.portal_rows.specs.OrgRows.{memberships_in, org_row, org_rows}
use Rattle.portal_rows.specs.TableRows.{cells_row, head_of, row_key, table_row}
use Rattle.portal_rows.proofs.KeyLemmas.{same_row_key}
use Rattle.portal_state.specs.ChangedRows.{cells_body, dataset_body, head_body, org_body}
use Rattle.portal_state.specs.Entries.{row_at_id, rows_at, rows_of}
use Rattle.portal_state.specs.KeptRows.{IsSized, dataset_row, kept_rows, listed_rows, resource_id, row_targets}
use Rattle.portal_state.specs.KeptRows.{table_rows}
use Rattle.portal_state.specs.State.{State}
use Rattle.portal_state.specs.Valid.{IsValid}
use Rattle.portal_state.proofs.InOrder.{found-listed, sized-jobs}
use Rattle.portal_state.proofs.KeyLemmas.{same_address, same_number, same_source}
use Rattle.portal_state.proofs.RowMembers.{IsIn-flat_map, flat_map-IsIn}

-- ---- rows that are there, and keys without one

-- A listed row is found at its kind and key.
present : (state : State) → IsValid state → IsSized state → (r : KeptRow) → IsIn r (listed_rows state)
    → body_at (kept_rows state) r.kind r.key ≡ Some r.body
present state valid sized r m = (found-listed state r valid sized).1 (Contains-IsIn r (listed_rows state) m)

-- Where no listed row has the kind and key, there is none.
absent : (state : State) (kind : RowKind) (key : List ℕ)
    → ((r : KeptRow) → IsIn r (listed_rows state) → r.kind ≡ kind → r.key ≡ key → ⊥)
    → body_at (kept_rows state) kind key ≡ None
absent state kind key none =
    ap (option_map (λ (r : KeptRow). r.body))
    (none-find (λ r. is_eq (row_at kind key r)) (kept_rows state)
    (λ r m. apart r m (is_eq (row_at kind key r)) refl))
  where
    apart : (r : KeptRow) → IsIn r (kept_rows state) → (b : Bool) → is_eq (row_at kind key r) ≡ b → b ≡ false
    apart r m false is = refl
    apart r m true is =
        let same = same_key r.kind r.key kind key (is_eq_true (row_at kind key r) is) in
        absurd (none r (ascending-IsIn row_cmp r (listed_rows state) m) same.0 same.1)

-- ---- the parts of the listed rows

abbrev head_row : ResourceTable → KeptRow
head_row t = table_row (resource_id t.address) (head_of t.table (row_targets t))

-- the rows after those of organizations, those after datasets, and those of sources and jobs
abbrev after_tables : State → List KeptRow
after_tables state = source_rows state.sources ++ job_rows state.sources

abbrev after_datasets : State → List KeptRow
after_datasets state = flat_map table_rows state.tables ++ after_tables state

abbrev after_orgs : State → List KeptRow
after_orgs state = map dataset_row state.datasets ++ after_datasets state

org-listed : (state : State) (o : Org) → IsIn o state.people.orgs
    → IsIn (org_row o (memberships_in o.name state.people.roles)) (listed_rows state)
org-listed state o m =
    inr (IsIn-front (org_row o (memberships_in o.name state.people.roles)) (org_rows state.people) (after_orgs state)
    (IsIn-map (λ (p : Org). org_row p (memberships_in p.name state.people.roles)) o state.people.orgs m))

dataset-listed : (state : State) (d : Package) → IsIn d state.datasets → IsIn (dataset_row d) (listed_rows state)
dataset-listed state d m =
    inr (IsIn-back (dataset_row d) (org_rows state.people) (after_orgs state)
    (IsIn-front (dataset_row d) (map dataset_row state.datasets) (after_datasets state)
    (IsIn-map dataset_row d state.datasets m)))

table-listed : (state : State) (t : ResourceTable) → IsIn t state.tables → (r : KeptRow) → IsIn r (table_rows t)
    → IsIn r (listed_rows state)
table-listed state t m r n =
    inr (IsIn-back r (org_rows state.people) (after_orgs state)
    (IsIn-back r (map dataset_row state.datasets) (after_datasets state)
    (IsIn-front r (flat_map table_rows state.tables) (after_tables state)
    (IsIn-flat_map table_rows r t state.tables m n))))

harvest-listed : (state : State) (r : KeptRow) → IsIn r (after_tables state) → IsIn r (listed_rows state)
harvest-listed state r m =
    inr (IsIn-back r (org_rows state.people) (after_orgs state)
    (IsIn-back r (map dataset_row state.datasets) (after_datasets state)
    (IsIn-back r (flat_map table_rows state.tables) (after_tables state) m)))

source-listed : (state : State) (s : SourceState) → IsIn s state.sources
    → IsIn (source_row s.source) (listed_rows state)
source-listed state s m =
    harvest-listed state (source_row s.source)
    (IsIn-front (source_row s.source) (source_rows state.sources) (job_rows state.sources)
    (IsIn-map (λ (t : SourceState). source_row t.source) s state.sources m))

job-listed : (state : State) (s : SourceState) → IsIn s state.sources → (job : Job) → IsIn job s.jobs
    → IsIn (job_row job) (listed_rows state)
job-listed state s m job n =
    harvest-listed state (job_row job)
    (IsIn-back (job_row job) (source_rows state.sources) (job_rows state.sources)
    (IsIn-flat_map (λ (t : SourceState). map job_row t.jobs) (job_row job) s state.sources m
    (IsIn-map job_row job s.jobs n)))

-- An organization's, a dataset's, a table's or a row's row, a source's or a job's, or that of the version.
abbrev IsOrgRow : State → KeptRow → Type 0
IsOrgRow state r =
    (o : Org) × IsIn o state.people.orgs × (r ≡ org_row o (memberships_in o.name state.people.roles))

abbrev IsDatasetRow : State → KeptRow → Type 0
IsDatasetRow state r = (d : Package) × IsIn d state.datasets × (r ≡ dataset_row d)

abbrev IsHeadRow : State → KeptRow → Type 0
IsHeadRow state r = (t : ResourceTable) × IsIn t state.tables × (r ≡ head_row t)

abbrev IsCellsRow : State → KeptRow → Type 0
IsCellsRow state r =
    (t : ResourceTable) × IsIn t state.tables
    × ((row : Row) × IsIn row t.table.rows × (r ≡ cells_row (resource_id t.address) row))

abbrev IsRowOfSource : State → KeptRow → Type 0
IsRowOfSource state r = (s : SourceState) × IsIn s state.sources × (r ≡ source_row s.source)

abbrev IsRowOfJob : State → KeptRow → Type 0
IsRowOfJob state r =
    (s : SourceState) × IsIn s state.sources × ((job : Job) × IsIn job s.jobs × (r ≡ job_row job))

data IsPart (state : State) (r : KeptRow) : Type 0 where
  of_version : r.kind ≡ kind.Version → IsPart state r
  of_org : IsOrgRow state r → IsPart state r
  of_dataset : IsDatasetRow state r → IsPart state r
  of_head : IsHeadRow state r → IsPart state r
  of_cells : IsCellsRow state r → IsPart state r
  of_source : IsRowOfSource state r → IsPart state r
  of_job : IsRowOfJob state r → IsPart state r

part : (state : State) (r : KeptRow) → IsIn r (listed_rows state) → IsPart state r
part state r (inl same) = of_version (ap (λ (q : KeptRow). q.kind) same)
part state r (inr m) = first (IsIn-either r (org_rows state.people) (after_orgs state) m)
  where
    table : (t : ResourceTable) → IsIn t state.tables → IsIn r (table_rows t) → IsPart state r
    table t n (inl same) = of_head (t, n, same)
    table t n (inr k) = of_cells (t, n, map-IsIn (cells_row (resource_id t.address)) r t.table.rows k)

    fourth : IsIn r (source_rows state.sources) ⊎ IsIn r (job_rows state.sources) → IsPart state r
    fourth (inl n) = of_source (map-IsIn (λ (s : SourceState). source_row s.source) r state.sources n)
    fourth (inr n) =
        let w = flat_map-IsIn (λ (s : SourceState). map job_row s.jobs) r state.sources n in
        of_job (w.0, w.1, map-IsIn job_row r w.0.jobs w.2)

    third : IsIn r (flat_map table_rows state.tables) ⊎ IsIn r (after_tables state) → IsPart state r
    third (inl n) = let w = flat_map-IsIn table_rows r state.tables n in table w.0 w.1 w.2
    third (inr n) = fourth (IsIn-either r (source_rows state.sources) (job_rows state.sources) n)

    second : IsIn r (map dataset_row state.datasets) ⊎ IsIn r (after_datasets state) → IsPart state r
    second (inl n) = of_dataset (map-IsIn dataset_row r state.datasets n)
    second (inr n) = third (IsIn-either r (flat_map table_rows state.tables) (after_tables state) n)

    first : IsIn r (org_rows state.people) ⊎ IsIn r (after_orgs state) → IsPart state r
    first (inl n) =
        of_org (map-IsIn (λ (o : Org). org_row o (memberships_in o.name state.people.roles)) r state.people.orgs n)
    first (inr n) = second (IsIn-either r (map dataset_row state.datasets) (after_datasets state) n)

-- A row of a kind is not one of another.
kinds-differ : (r : KeptRow) (k l : RowKind) → r.kind ≡ k → r.kind ≡ l
    → (kind_number k < kind_number l) ⊎ (kind_number l < kind_number k) → ⊥
kinds-differ r k l one other (inl less) =
    let same : kind_number k ≡ kind_number l = ap kind_number (sym one ∙ other) in omega (arith, less, same)
kinds-differ r k l one other (inr less) =
    let same : kind_number k ≡ kind_number l = ap kind_number (sym one ∙ other) in omega (arith, less, same)

-- ---- organizations

pub body-org : (state : State) → IsValid state → IsSized state → (name : List ℕ)
    → body_at (kept_rows state) kind.Org name ≡ org_body name state.people
body-org state valid sized name = by (org_in state.people name) refl
  where
    none : org_in state.people name ≡ None → (r : KeptRow) → r.kind ≡ kind.Org → r.key ≡ name → IsPart state r → ⊥
    none is r of_kind at (of_version k) = kinds-differ r kind.Org kind.Version of_kind k (inr (omega arith))
    none is r of_kind at (of_org w) =
        let named : w.0.name ≡ name = sym (ap (λ (q : KeptRow). q.key) w.2) ∙ at in
        true≢false (sym ((bytes_eq-Decides w.0.name name).1 named)
        ∙ find-none (λ (o : Org). bytes_eq o.name name) w.0 state.people.orgs is w.1)
    none is r of_kind at (of_dataset w) =
        kinds-differ r kind.Org kind.Set of_kind (ap (λ (q : KeptRow). q.kind) w.2) (inl (omega arith))
    none is r of_kind at (of_head w) =
        kinds-differ r kind.Org kind.Table of_kind (ap (λ (q : KeptRow). q.kind) w.2) (inl (omega arith))
    none is r of_kind at (of_cells w) =
        kinds-differ r kind.Org kind.Row of_kind (ap (λ (q : KeptRow). q.kind) w.2.2) (inl (omega arith))
    none is r of_kind at (of_source w) =
        kinds-differ r kind.Org kind.Source of_kind (ap (λ (q : KeptRow). q.kind) w.2) (inl (omega arith))
    none is r of_kind at (of_job w) =
        kinds-differ r kind.Org kind.Job of_kind (ap (λ (q : KeptRow). q.kind) w.2.2) (inl (omega arith))

    by : (o : Option Org) → org_in state.people name ≡ o
        → body_at (kept_rows state) kind.Org name
        ≡ option_map (λ (p : Org). (org_row p (memberships_in name state.people.roles)).body) o
    by (Some o) is =
        let there = IsIn-find (λ (p : Org). bytes_eq p.name name) o state.people.orgs is in
        subst
        (λ (n : List ℕ). body_at (kept_rows state) kind.Org n
        ≡ Some (org_row o (memberships_in n state.people.roles)).body)
        ((bytes_eq-Decides o.name name).0 there.1)
        (present state valid sized (org_row o (memberships_in o.name state.people.roles))
        (org-listed state o there.0))
    by None is = absent state kind.Org name (λ r m of_kind at. none is r of_kind at (part state r m))

-- ---- datasets

pub body-dataset : (state : State) → IsValid state → IsSized state → (id : List ℕ)
    → body_at (kept_rows state) kind.Set id ≡ dataset_body id state.datasets
body-dataset state valid sized id = by (found (dataset_at_id id) state.datasets) refl
  where
    like : (d : Package) → d.id ≡ id → is_eq (dataset_at_id id d) ≡ true
    like d same =
        ap (λ (i : List ℕ). is_eq (dataset_at_id i d)) (sym same) ∙ ap is_eq (tied_itself dataset_cmp_total d)

    none : found (dataset_at_id id) state.datasets ≡ None → (r : KeptRow) → r.kind ≡ kind.Set → r.key ≡ id
        → IsPart state r → ⊥
    none is r of_kind at (of_version k) = kinds-differ r kind.Set kind.Version of_kind k (inr (omega arith))
    none is r of_kind at (of_org w) =
        kinds-differ r kind.Set kind.Org of_kind (ap (λ (q : KeptRow). q.kind) w.2) (inr (omega arith))
    none is r of_kind at (of_dataset w) =
        true≢false (sym (like w.0 (sym (ap (λ (q : KeptRow). q.key) w.2) ∙ at))
        ∙ find-none (λ (d : Package). is_eq (dataset_at_id id d)) w.0 state.datasets is w.1)
    none is r of_kind at (of_head w) =
        kinds-differ r kind.Set kind.Table of_kind (ap (λ (q : KeptRow). q.kind) w.2) (inl (omega arith))
    none is r of_kind at (of_cells w) =
        kinds-differ r kind.Set kind.Row of_kind (ap (λ (q : KeptRow). q.kind) w.2.2) (inl (omega arith))
    none is r of_kind at (of_source w) =
        kinds-differ r kind.Set kind.Source of_kind (ap (λ (q : KeptRow). q.kind) w.2) (inl (omega arith))
    none is r of_kind at (of_job w) =
        kinds-differ r kind.Set kind.Job of_kind (ap (λ (q : KeptRow). q.kind) w.2.2) (inl (omega arith))

    by : (o : Option Package) → found (dataset_at_id id) state.datasets ≡ o
        → body_at (kept_rows state) kind.Set id ≡ option_map row_text o
    by (Some d) is =
        let there = IsIn-find (λ (e : Package). is_eq (dataset_at_id id e)) d state.datasets is in
        ap (body_at (kept_rows state) kind.Set) (sym (exact_bytes d.id id (is_eq_true (dataset_at_id id d) there.1)))
        ∙ present state valid sized (dataset_row d) (dataset-listed state d there.0)
    by None is = absent state kind.Set id (λ r m of_kind at. none is r of_kind at (part state r m))

-- ---- tables

pub number-sized : (state : State) → IsSized state → (t : ResourceTable) → IsIn t state.tables
    → t.address.number < 2 ^ 32
number-sized state sized t m =
    All-IsIn (λ (u : ResourceTable). u.address.number < 2 ^ 32) state.tables sized.tables.numbers t m

at-itself : (a : Address) (t : ResourceTable) → t.address ≡ a → is_at a t ≡ true
at-itself a t same =
    ap (λ (b : Address). is_eq (address_cmp t.address b)) (sym same) ∙ ap is_eq (tied_itself table_cmp_total t)

pub body-head : (state : State) → IsValid state → IsSized state → (a : Address) → a.number < 2 ^ 32
    → body_at (kept_rows state) kind.Table (resource_id a)
    ≡ option_map (λ (t : ResourceTable). head_body t t.table.next_id) (found (at_address a) state.tables)
body-head state valid sized a small = by (found (at_address a) state.tables) refl
  where
    none : found (at_address a) state.tables ≡ None → (r : KeptRow) → r.kind ≡ kind.Table → r.key ≡ resource_id a
        → IsPart state r → ⊥
    none is r of_kind at (of_version k) = kinds-differ r kind.Table kind.Version of_kind k (inr (omega arith))
    none is r of_kind at (of_org w) =
        kinds-differ r kind.Table kind.Org of_kind (ap (λ (q : KeptRow). q.kind) w.2) (inr (omega arith))
    none is r of_kind at (of_dataset w) =
        kinds-differ r kind.Table kind.Set of_kind (ap (λ (q : KeptRow). q.kind) w.2) (inr (omega arith))
    none is r of_kind at (of_head w) =
        true≢false (sym (at-itself a w.0
        (same_address w.0.address a (number-sized state sized w.0 w.1) small
        (sym (ap (λ (q : KeptRow). q.key) w.2) ∙ at)))
        ∙ find-none (is_at a) w.0 state.tables is w.1)
    none is r of_kind at (of_cells w) =
        kinds-differ r kind.Table kind.Row of_kind (ap (λ (q : KeptRow). q.kind) w.2.2) (inl (omega arith))
    none is r of_kind at (of_source w) =
        kinds-differ r kind.Table kind.Source of_kind (ap (λ (q : KeptRow). q.kind) w.2) (inl (omega arith))
    none is r of_kind at (of_job w) =
        kinds-differ r kind.Table kind.Job of_kind (ap (λ (q : KeptRow). q.kind) w.2.2) (inl (omega arith))

    by : (o : Option ResourceTable) → found (at_address a) state.tables ≡ o
        → body_at (kept_rows state) kind.Table (resource_id a)
        ≡ option_map (λ (t : ResourceTable). head_body t t.table.next_id) o
    by (Some t) is =
        let there = IsIn-find (is_at a) t state.tables is in
        ap (λ (b : Address). body_at (kept_rows state) kind.Table (resource_id b)) (sym (at-is a t there.1))
        ∙ present state valid sized (head_row t) (table-listed state t there.0 (head_row t) (inl refl))
    by None is = absent state kind.Table (resource_id a) (λ r m of_kind at. none is r of_kind at (part state r m))

-- ---- rows of tables

-- the table that has a row at the address
row-table : (a : Address) (tables : List ResourceTable) (row : Row) → IsIn row (rows_at a tables)
    → (t : ResourceTable) × IsIn t tables × (t.address ≡ a) × IsIn row t.table.rows
row-table a tables row m = by (found (at_address a) tables) refl m
  where
    by : (o : Option ResourceTable) → found (at_address a) tables ≡ o → IsIn row (rows_of o)
        → (t : ResourceTable) × IsIn t tables × (t.address ≡ a) × IsIn row t.table.rows
    by None is n = absurd n
    by (Some t) is n = let there = IsIn-find (is_at a) t tables is in (t, there.0, at-is a t there.1, n)

below-next : (next_id : ℕ) (rows : List Row) → AreWithin next_id rows → (row : Row) → IsIn row rows → row.id < next_id
below-next next_id [] within row m = absurd m
below-next next_id (first ∷ rows) within row (inl same) =
    subst (λ (r : Row). r.id < next_id) (sym same) within.1
below-next next_id (first ∷ rows) within row (inr m) = below-next next_id rows within.2 row m

-- An `_id` of a row is a `u64`.
pub row-sized : (state : State) → IsValid state → IsSized state → (t : ResourceTable) → IsIn t state.tables
    → (row : Row) → IsIn row t.table.rows → row.id < 2 ^ 64
row-sized state valid sized t m row n =
    let next : t.table.next_id < 2 ^ 64 =
    All-IsIn (λ (u : ResourceTable). u.table.next_id < 2 ^ 64) state.tables sized.tables.next_ids t m in
    let below : row.id < t.table.next_id =
    below-next t.table.next_id t.table.rows
    (All-IsIn (λ (u : ResourceTable). IsTable u.table.schema u.table.rows u.table.next_id) state.tables
    valid.tables.valid t m).numbered.within row n in
    omega (arith, next, below)

pub like-id : (id : ℕ) (row : Row) → row.id ≡ id → is_eq (row_at_id id row) ≡ true
like-id id row same = ap (λ i. is_eq (nat_cmp row.id i)) (sym same) ∙ ap is_eq (tied_itself id_cmp_total row)

pub body-cells : (state : State) → IsValid state → IsSized state → (a : Address) (id : ℕ) → a.number < 2 ^ 32
    → id < 2 ^ 64 → body_at (kept_rows state) kind.Row (row_key (resource_id a) id)
    ≡ cells_body (resource_id a) (rows_at a state.tables) id
body-cells state valid sized a id small id_small = by (found (row_at_id id) (rows_at a state.tables)) refl
  where
    none : found (row_at_id id) (rows_at a state.tables) ≡ None → (r : KeptRow) → r.kind ≡ kind.Row
        → r.key ≡ row_key (resource_id a) id → IsPart state r → ⊥
    none is r of_kind at (of_version k) = kinds-differ r kind.Row kind.Version of_kind k (inr (omega arith))
    none is r of_kind at (of_org w) =
        kinds-differ r kind.Row kind.Org of_kind (ap (λ (q : KeptRow). q.kind) w.2) (inr (omega arith))
    none is r of_kind at (of_dataset w) =
        kinds-differ r kind.Row kind.Set of_kind (ap (λ (q : KeptRow). q.kind) w.2) (inr (omega arith))
    none is r of_kind at (of_head w) =
        kinds-differ r kind.Row kind.Table of_kind (ap (λ (q : KeptRow). q.kind) w.2) (inr (omega arith))
    none is r of_kind at (of_cells w) =
        let t : ResourceTable = w.0 in
        let row : Row = w.2.0 in
        let key = same_row_key (resource_id t.address) (resource_id a) row.id id
        (row-sized state valid sized t w.1 row w.2.1) id_small (sym (ap (λ (q : KeptRow). q.key) w.2.2) ∙ at) in
        let here : t.address ≡ a = same_address t.address a (number-sized state sized t w.1) small key.0 in
        let among : IsIn row (rows_at a state.tables) =
        subst (λ (o : Option ResourceTable). IsIn row (rows_of o))
        (sym (found-in a state.tables t valid.tables.ascending w.1 (at-itself a t here))) w.2.1 in
        true≢false (sym (like-id id row key.1)
        ∙ find-none (λ (z : Row). is_eq (row_at_id id z)) row (rows_at a state.tables) is among)
    none is r of_kind at (of_source w) =
        kinds-differ r kind.Row kind.Source of_kind (ap (λ (q : KeptRow). q.kind) w.2) (inl (omega arith))
    none is r of_kind at (of_job w) =
        kinds-differ r kind.Row kind.Job of_kind (ap (λ (q : KeptRow). q.kind) w.2.2) (inl (omega arith))

    by : (o : Option Row) → found (row_at_id id) (rows_at a state.tables) ≡ o
        → body_at (kept_rows state) kind.Row (row_key (resource_id a) id)
        ≡ option_map (λ (row : Row). (cells_row (resource_id a) row).body) o
    by (Some row) is =
        let there = IsIn-find (λ (z : Row). is_eq (row_at_id id z)) row (rows_at a state.tables) is in
        let w = row-table a state.tables row there.0 in
        ap₂ (λ (b : Address) (n : ℕ). body_at (kept_rows state) kind.Row (row_key (resource_id b) n)) (sym w.2)
        (sym (exact_unsigned row.id id (is_eq_true (row_at_id id row) there.1)))
        ∙ present state valid sized (cells_row (resource_id w.0.address) row)
        (table-listed state w.0 w.1 (cells_row (resource_id w.0.address) row)
        (inr (IsIn-map (cells_row (resource_id w.0.address)) row w.0.table.rows w.3)))
    by None is =
        absent state kind.Row (row_key (resource_id a) id) (λ r m of_kind at. none is r of_kind at (part state r m))

-- ---- sources and jobs

other_kinds : (r : KeptRow) (k l : RowKind) → r.kind ≡ k → r.kind ≡ l → kind_number l < kind_number k → ⊥
other_kinds r k l one other less = kinds-differ r k l one other (inr less)

-- The row of each source is at its name.
pub body-source : (state : State) → IsValid state → IsSized state → (s : SourceState) → IsIn s state.sources
    → body_at (kept_rows state) kind.Source s.source.name ≡ Some (source_row s.source).body
body-source state valid sized s m = present state valid sized (source_row s.source) (source-listed state s m)

-- Where no source has the name, there is no row.
pub no_source : (state : State) (name : List ℕ)
    → ((s : SourceState) → IsIn s state.sources → s.source.name ≡ name → ⊥)
    → body_at (kept_rows state) kind.Source name ≡ None
no_source state name no_such = absent state kind.Source name (λ r m of_kind at. none r of_kind at (part state r m))
  where
    none : (r : KeptRow) → r.kind ≡ kind.Source → r.key ≡ name → IsPart state r → ⊥
    none r of_kind at (of_version k) = other_kinds r kind.Source kind.Version of_kind k (omega arith)
    none r of_kind at (of_org w) =
        other_kinds r kind.Source kind.Org of_kind (ap (λ (q : KeptRow). q.kind) w.2) (omega arith)
    none r of_kind at (of_dataset w) =
        other_kinds r kind.Source kind.Set of_kind (ap (λ (q : KeptRow). q.kind) w.2) (omega arith)
    none r of_kind at (of_head w) =
        other_kinds r kind.Source kind.Table of_kind (ap (λ (q : KeptRow). q.kind) w.2) (omega arith)
    none r of_kind at (of_cells w) =
        other_kinds r kind.Source kind.Row of_kind (ap (λ (q : KeptRow). q.kind) w.2.2) (omega arith)
    none r of_kind at (of_source w) = no_such w.0 w.1 (sym (ap (λ (q : KeptRow). q.key) w.2) ∙ at)
    none r of_kind at (of_job w) =
        kinds-differ r kind.Source kind.Job of_kind (ap (λ (q : KeptRow). q.kind) w.2.2) (inl (omega arith))

-- The row of each job is at its id.
pub body-job : (state : State) → IsValid state → IsSized state → (s : SourceState) → IsIn s state.sources → (job : Job)
    → IsIn job s.jobs → body_at (kept_rows state) kind.Job (id_of_job job) ≡ Some (job_row job).body
body-job state valid sized s m job n = present state valid sized (job_row job) (job-listed state s m job n)

-- Where no source of the name has a job of the number, there is no row.
pub no_job : (state : State) → IsValid state → IsSized state → (name : List ℕ) (number : ℕ) → number < 2 ^ 64
    → ((s : SourceState) → IsIn s state.sources → s.source.name ≡ name → (job : Job) → IsIn job s.jobs
    → job.number ≡ number → ⊥)
    → body_at (kept_rows state) kind.Job (job_id name number) ≡ None
no_job state valid sized name number small no_such =
    absent state kind.Job (job_id name number) (λ r m of_kind at. none r of_kind at (part state r m))
  where
    none : (r : KeptRow) → r.kind ≡ kind.Job → r.key ≡ job_id name number → IsPart state r → ⊥
    none r of_kind at (of_version k) = other_kinds r kind.Job kind.Version of_kind k (omega arith)
    none r of_kind at (of_org w) =
        other_kinds r kind.Job kind.Org of_kind (ap (λ (q : KeptRow). q.kind) w.2) (omega arith)
    none r of_kind at (of_dataset w) =
        other_kinds r kind.Job kind.Set of_kind (ap (λ (q : KeptRow). q.kind) w.2) (omega arith)
    none r of_kind at (of_head w) =
        other_kinds r kind.Job kind.Table of_kind (ap (λ (q : KeptRow). q.kind) w.2) (omega arith)
    none r of_kind at (of_cells w) =
        other_kinds r kind.Job kind.Row of_kind (ap (λ (q : KeptRow). q.kind) w.2.2) (omega arith)
    none r of_kind at (of_source w) =
        other_kinds r kind.Job kind.Source of_kind (ap (λ (q : KeptRow). q.kind) w.2) (omega arith)
    none r of_kind at (of_job w) =
        let job : Job = w.2.0 in
        let its = sized-jobs state valid sized w.0 w.1 in
        let same : job_id job.source job.number ≡ job_id name number =
        sym (ap (λ (q : KeptRow). q.key) w.2.2) ∙ at in
        no_such w.0 w.1 (sym (its.own job w.2.1) ∙ same_source job.source name job.number number same) job w.2.1
        (same_number job.source name job.number number (its.small job w.2.1) small same)

-- An entry changes no row but the one at its key.
use Rattle.std.proofs.Common.{◌≡◌, ℕ, Bool, true, false, cond, List, [], ◌∷◌, ◌++◌, Option, Some, None, map, ◌⊎◌, inl, inr}
use Rattle.std.proofs.Common.{if◌then◌else◌, refl, sym, ap, ap₂, subst, ◌∙◌, true≢false}
use Rattle.std.specs.Prelude.{filter}
use Rattle.std.specs.List.{flat_map}
use Rattle.std.specs.Ordering.{is_eq, is_lt, nat_cmp, ordering_then}
use Rattle.std.specs.Cmp.Lexicographic.{slice_cmp}
use Rattle.std.specs.Str.{bytes_eq}
use Rattle.std.specs.declared.cmp.Ordering.{Ordering}
use Rattle.std.proofs.lemmas.Slice.Eq.{bytes_eq-Decides}
use Rattle.std.specs.declared.cmp.Ordering.TheVariants.{Less, Equal, Greater}
use Rattle.std.proofs.lemmas.Cmp.{tied_itself}
use Rattle.std.proofs.lemmas.Map.Lookups.{exact_bytes, exact_unsigned}
use Rattle.portal_base.specs.Ordered.{IsAscending, dropped, found, inserted, upserted}
use Rattle.portal_base.proofs.Removed.{is_eq_true}
use Rattle.portal_base.proofs.Unique.{IsIn}
use Rattle.portal_base.proofs.Upserted.{IsIn-dropped, IsIn-upserted, dropped-IsIn, filter-dropped_hidden, upserted-IsIn}
use Rattle.portal_base.proofs.Upserted.{upserted-IsIn_other}
use Rattle.packages.specs.Order.{dataset_cmp, dataset_cmp_total}
use Rattle.packages.specs.declared.package.Package.{Package}
use Rattle.packages.proofs.FindLemmas.{IsIn-find}
use Rattle.org_roles.proofs.PeopleLemmas.{unequal}
use Rattle.org_roles.specs.Order.{membership_cmp, org_at, org_cmp, org_cmp_total, pair_at}
use Rattle.org_roles.specs.PeopleLists.{PeopleLists}
use Rattle.org_roles.specs.declared.entry.Membership.{Membership}
use Rattle.org_roles.specs.declared.entry.Org.{Org}
use Rattle.datastore_table.specs.Rows.{row_cmp as id_cmp, row_cmp_total as id_cmp_total}
use Rattle.datastore_table.specs.declared.row.Row.{Row}
use Rattle.datastore_answers.specs.Changed.{with_table_at}
use Rattle.datastore_answers.specs.Order.{at_address, is_at, table_cmp}
use Rattle.datastore_answers.specs.declared.address.Address.{Address}
use Rattle.datastore_answers.specs.declared.resource_table.ResourceTable.{ResourceTable}
use Rattle.datastore_answers.proofs.KeepLemmas.{at-is, found-in}
use Rattle.dataset_answers.specs.Changed.{dataset_at_id}
use Rattle.dataset_answers.specs.Edits.{DatasetEdit, edited}
use Rattle.harvest_rows.specs.Rows.{job_row, job_rows, source_row, source_rows}
use Rattle.harvest_sources.specs.Entries.{SourceEntry, PutSource, DropSource, PutJob, DropJob, PutListing, with_job}
use Rattle.harvest_sources.specs.Entries.{changed_by as sources_changed_by}
use Rattle.harvest_sources.specs.Entries.{with_jobs_of, with_listing, with_source_at, without_job}
use Rattle.harvest_sources.specs.Jobs.{id_of_job, job_at, job_cmp, job_id}
use Rattle.harvest_sources.specs.Sources.{IsKey-source_at, SourceState, source_at, source_cmp, source_cmp_total}
use Rattle.harvest_sources.specs.declared.job.Job.{Job}
use Rattle.harvest_sources.specs.declared.listing.Listing.{Listing}
use Rattle.harvest_sources.specs.declared.source.HarvestSource.{HarvestSource}
use Rattle.portal_state.specs.State.{State}
use Rattle.portal_keeper.specs.Rows.{key_cmp, row_at, row_cmp_total}
use Rattle.portal_keeper.specs.declared.row.KeptRow.{KeptRow}
use Rattle.portal_keeper.specs.declared.row.RowKind.{RowKind}
use Rattle.portal_keeper.specs.declared.row.RowKind.TheVariants as kind
use Rattle.portal_rows.specs.OrgRows.{memberships_in, org_row, org_rows}
use Rattle.portal_rows.specs.TableRows.{cells_row, head_of, row_key, table_row}
use Rattle.portal_rows.specs.VersionRow.{version_row}
use Rattle.portal_state.specs.Alone.{DropsAlone, DropsSourceAlone, jobs_if}
use Rattle.portal_state.specs.Entries.{Entry, PutOrg, DropOrg, PutRole, DropRole, PutDataset, EditDataset}
use Rattle.portal_state.specs.Entries.{DropDataset, PutTable, DropTable, PutRow, DropRow, OfSources, TableHead, changed_by}
use Rattle.portal_state.specs.Entries.{row_at_id, rows_at, rows_of, table_of, with_edit, with_head, with_row, without_row}
use Rattle.portal_state.specs.KeptRows.{dataset_row, listed_rows, resource_id, row_targets, table_rows}
use Rattle.portal_state.specs.RowChanges.{entry_key, source_entry_key}
use Rattle.portal_state.proofs.KeyLemmas.{job_cmp_total}
use Rattle.portal_state.proofs.KeyedSources.{AreKeyed, name-of_put, named-found}
use Rattle.portal_state.proofs.RowMembers.{IsInBoth, IsIn-flat_map, flat_map-IsIn, found-member, in_both-append}
use Rattle.portal_state.proofs.RowMembers.{in_both-cons, in_both-dropped, in_both-dropped_in, in_both-each}
use Rattle.portal_state.proofs.RowMembers.{in_both-each_in, in_both-itself, in_both-made, in_both-upserted}
use Rattle.portal_state.proofs.RowMembers.{in_both-upserted_in}

-- ---- rows at other keys

-- The row is not the one at this kind and key.
abbrev pub IsOther : RowKind × List ℕ → KeptRow → Type 0
IsOther key r = is_eq (row_at key.0 key.1 r) ≡ false

-- A row at the kind and key is not another one.
not_other : (key : RowKind × List ℕ) (r : KeptRow) → IsOther key r → r.kind ≡ key.0 → r.key ≡ key.1 → ⊥
not_other key r other kind text =
    let same : row_at key.0 key.1 r ≡ Equal =
    ap₂ (λ (k : RowKind) (t : List ℕ). key_cmp k t key.0 key.1) kind text
    ∙ tied_itself row_cmp_total (record { kind = key.0; key = key.1; body = [] }) in
    true≢false (sym (ap is_eq same) ∙ other)

-- What a row is made of has another key too.
other_of : (key : RowKind × List ℕ) (r q : KeptRow) → IsOther key r → r ≡ q → is_eq (row_at key.0 key.1 q) ≡ false
other_of key r q other made = ap (λ (p : KeptRow). is_eq (row_at key.0 key.1 p)) (sym made) ∙ other

-- ---- organizations

abbrev orgs_with : List Membership → List Org → List KeptRow
orgs_with roles orgs = map (λ org. org_row org (memberships_in org.name roles)) orgs

-- An item that fails the filter may be inserted.
filter-inserted_out : {X : Type 0} (cmp : X → X → Ordering) (p : X → Bool) (x : X) (xs : List X) → p x ≡ false
    → filter p (inserted cmp x xs) ≡ filter p xs
filter-inserted_out cmp p x [] fails = ap (λ b. cond b (x ∷ []) []) fails
filter-inserted_out {X} cmp p x (y ∷ ys) fails =
    let P : Bool → Type 0 = λ b. filter p (cond b (y ∷ inserted cmp x ys) (x ∷ y ∷ ys)) ≡ filter p (y ∷ ys) in
    elim (is_lt (cmp y x)) as P [
      | true ↦ ap (λ (l : List X). cond (p y) (y ∷ l) l) (filter-inserted_out cmp p x ys fails)
      | false ↦ ap (λ b. cond b (x ∷ filter p (y ∷ ys)) (filter p (y ∷ ys))) fails
    ]

first_equal : (r s : Ordering) → ordering_then r s ≡ Equal → r ≡ Equal
first_equal Less s e = absurd (cc)
first_equal Equal s e = refl
first_equal Greater s e = absurd (cc)

-- A role that is equal to a pair is in the organization of the pair.
org_of_pair : (org user : List ℕ) (m : Membership) → pair_at org user m ≡ Equal → m.org ≡ org
org_of_pair org user m equal =
    exact_bytes m.org org (first_equal (slice_cmp nat_cmp m.org org) (slice_cmp nat_cmp m.user user) equal)

-- A role that is put or dropped leaves the roles in other organizations as they are.
roles-put : (role : Membership) (roles : List Membership) (name : List ℕ) → (role.org ≡ name → ⊥)
    → memberships_in name (upserted membership_cmp role roles) ≡ memberships_in name roles
roles-put role roles name differ =
    filter-inserted_out membership_cmp (λ (m : Membership). bytes_eq m.org name) role
    (dropped (λ (m : Membership). membership_cmp m role) roles) (unequal role.org name differ)
    ∙ filter-dropped_hidden (λ (m : Membership). bytes_eq m.org name)
    (λ (m : Membership). membership_cmp m role) roles
    (λ m among equal. unequal m.org name (λ same. differ (sym (org_of_pair role.org role.user m equal) ∙ same)))

roles-dropped : (org user : List ℕ) (roles : List Membership) (name : List ℕ) → (org ≡ name → ⊥)
    → memberships_in name (dropped (pair_at org user) roles) ≡ memberships_in name roles
roles-dropped org user roles name differ =
    filter-dropped_hidden (λ (m : Membership). bytes_eq m.org name) (pair_at org user) roles
    (λ m among equal. unequal m.org name (λ same. differ (sym (org_of_pair org user m equal) ∙ same)))

-- If roles change in one organization, the rows of others stay.
roles-others : (org : List ℕ) (before after : List Membership) (orgs : List Org) (r : KeptRow)
    → ((name : List ℕ) → (org ≡ name → ⊥) → memberships_in name after ≡ memberships_in name before)
    → IsOther (kind.Org, org) r → IsInBoth r (orgs_with before orgs) (orgs_with after orgs)
roles-others org before after orgs r same other =
    in_both-made (λ o. org_row o (memberships_in o.name before)) (λ o. org_row o (memberships_in o.name after)) orgs r
    (λ o made. ap (org_row o) (sym (same o.name (differ o (ap (λ (q : KeptRow). q.kind) made)
    (ap (λ (q : KeptRow). q.key) made)))))
    (λ o made. ap (org_row o) (sym (same o.name (differ o (ap (λ (q : KeptRow). q.kind) made)
    (ap (λ (q : KeptRow). q.key) made)))))
  where
    differ : (o : Org) → r.kind ≡ kind.Org → r.key ≡ o.name → org ≡ o.name → ⊥
    differ o kind_is key_is here = not_other (kind.Org, org) r other kind_is (key_is ∙ sym here)

-- ---- datasets

-- The dataset, edited if it has that id.
abbrev with_own_edit : List ℕ → DatasetEdit → Package → Package
with_own_edit id edit d = if bytes_eq d.id id then edited edit d else d

-- An edit leaves the rows of other datasets.
dataset-edited : (id : List ℕ) (edit : DatasetEdit) (datasets : List Package) (r : KeptRow) → IsOther (kind.Set, id) r
    → IsInBoth r (map dataset_row datasets) (map dataset_row (with_edit id edit datasets))
dataset-edited id edit datasets r other =
    subst (IsInBoth r (map dataset_row datasets)) (of_each datasets)
    (in_both-made dataset_row (λ d. dataset_row (with_own_edit id edit d)) datasets r
    (λ d made. same d (bytes_eq d.id id) refl (ap (λ (q : KeptRow). q.kind) made) (ap (λ (q : KeptRow). q.key) made))
    (λ d made. same d (bytes_eq d.id id) refl (ap (λ (q : KeptRow). q.kind) made)
    (ap (λ (q : KeptRow). q.key) made ∙ kept d (bytes_eq d.id id))))
  where
    of_each : (ds : List Package)
        → map (λ d. dataset_row (with_own_edit id edit d)) ds ≡ map dataset_row (with_edit id edit ds)
    of_each [] = refl
    of_each (d ∷ ds) = ap (λ (rest : List KeptRow). dataset_row (with_own_edit id edit d) ∷ rest) (of_each ds)

    kept : (d : Package) (b : Bool) → (if b then edited edit d else d).id ≡ d.id
    kept d true = refl
    kept d false = refl

    same : (d : Package) (b : Bool) → bytes_eq d.id id ≡ b → r.kind ≡ kind.Set → r.key ≡ d.id
        → dataset_row d ≡ dataset_row (if b then edited edit d else d)
    same d true is of_kind at = absurd (not_other (kind.Set, id) r other of_kind (at ∙ (bytes_eq-Decides d.id id).0 is))
    same d false is of_kind at = refl

-- ---- the rows of a table

abbrev head_row : ResourceTable → KeptRow
head_row t = table_row (resource_id t.address) (head_of t.table (row_targets t))

-- Of a table at the address, a row with another key is made of a row with another `_id`.
id-other : (address : Address) (id : ℕ) (r : KeptRow) → IsOther (kind.Row, row_key (resource_id address) id) r
    → (t : ResourceTable) → is_at address t ≡ true → (row : Row) → r ≡ cells_row (resource_id t.address) row
    → is_eq (nat_cmp row.id id) ≡ false
id-other address id r other t is row made = by (is_eq (nat_cmp row.id id)) refl
  where
    by : (b : Bool) → is_eq (nat_cmp row.id id) ≡ b → b ≡ false
    by true same =
        absurd (not_other (kind.Row, row_key (resource_id address) id) r other (ap (λ (q : KeptRow). q.kind) made)
        (ap (λ (q : KeptRow). q.key) made
        ∙ ap₂ (λ (a : Address) (n : ℕ). row_key (resource_id a) n) (at-is address t is)
        (exact_unsigned row.id id (is_eq_true (nat_cmp row.id id) same))))
    by false same = refl

row-put : (address : Address) (row : Row) (r : KeptRow)
    → IsOther (kind.Row, row_key (resource_id address) row.id) r → (t : ResourceTable) (b : Bool) → is_at address t ≡ b
    → IsInBoth r (table_rows t) (table_rows (if b then with_row row t else t))
row-put address row r other t true is =
    in_both-cons r (head_row t) (map (cells_row (resource_id t.address)) t.table.rows)
    (map (cells_row (resource_id t.address)) (upserted id_cmp row t.table.rows))
    (in_both-upserted (cells_row (resource_id t.address)) id_cmp id_cmp_total row t.table.rows r
    (λ z made. id-other address row.id r other t is z made))
row-put address row r other t false is = in_both-itself r (table_rows t)

row-dropped : (address : Address) (id : ℕ) (r : KeptRow)
    → IsOther (kind.Row, row_key (resource_id address) id) r → (t : ResourceTable) (b : Bool) → is_at address t ≡ b
    → IsInBoth r (table_rows t) (table_rows (if b then without_row id t else t))
row-dropped address id r other t true is =
    in_both-cons r (head_row t) (map (cells_row (resource_id t.address)) t.table.rows)
    (map (cells_row (resource_id t.address)) (dropped (row_at_id id) t.table.rows))
    (in_both-dropped (cells_row (resource_id t.address)) (row_at_id id) t.table.rows r
    (λ z made. id-other address id r other t is z made))
row-dropped address id r other t false is = in_both-itself r (table_rows t)

-- ---- tables

-- the rows of the only table at an address
rows-there : (address : Address) (tables : List ResourceTable) (t : ResourceTable) → IsAscending table_cmp tables
    → IsIn t tables → is_at address t ≡ true → t.table.rows ≡ rows_at address tables
rows-there address tables t up m is = sym (ap rows_of (found-in address tables t up m is))

-- A row at another key than the one of the address's table is none that says what that table is.
not_head : (address : Address) (r : KeptRow) → IsOther (kind.Table, resource_id address) r → (t : ResourceTable)
    → is_at address t ≡ true → r ≡ head_row t → ⊥
not_head address r other t is same =
    not_other (kind.Table, resource_id address) r other (ap (λ (q : KeptRow). q.kind) same)
    (ap (λ (q : KeptRow). q.key) same ∙ ap resource_id (at-is address t is))

table-put : (head : TableHead) (tables : List ResourceTable) (r : KeptRow) → IsAscending table_cmp tables
    → IsOther (kind.Table, resource_id head.address) r
    → IsInBoth r (flat_map table_rows tables) (flat_map table_rows (with_head head tables))
table-put head tables r up other = (into, from)
  where
    new : ResourceTable
    new = table_of head (rows_at head.address tables)

    into_new : (t : ResourceTable) → IsIn t tables → is_at head.address t ≡ true → IsIn r (table_rows t)
        → IsIn r (table_rows new)
    into_new t m is (inl same) = absurd (not_head head.address r other t is same)
    into_new t m is (inr n) =
        inr (subst (λ (a : Address). IsIn r (map (cells_row (resource_id a)) (rows_at head.address tables)))
        (at-is head.address t is)
        (subst (λ (rows : List Row). IsIn r (map (cells_row (resource_id t.address)) rows))
        (rows-there head.address tables t up m is) n))

    old_row : (t : ResourceTable) → IsIn t tables → IsIn r (table_rows t) → (b : Bool) → is_at head.address t ≡ b
        → IsIn r (flat_map table_rows (with_head head tables))
    old_row t m n true is =
        IsIn-flat_map table_rows r new (with_head head tables) (upserted-IsIn table_cmp new tables) (into_new t m is n)
    old_row t m n false is =
        IsIn-flat_map table_rows r t (with_head head tables) (upserted-IsIn_other table_cmp new t tables m is) n

    into : IsIn r (flat_map table_rows tables) → IsIn r (flat_map table_rows (with_head head tables))
    into m = let w = flat_map-IsIn table_rows r tables m in old_row w.0 w.1 w.2 (is_at head.address w.0) refl

    of_found : (o : Option ResourceTable) → found (at_address head.address) tables ≡ o
        → IsIn r (map (cells_row (resource_id head.address)) (rows_of o)) → IsIn r (flat_map table_rows tables)
    of_found None is n = absurd n
    of_found (Some t) is n =
        let there = IsIn-find (is_at head.address) t tables is in
        IsIn-flat_map table_rows r t tables there.0
        (inr (subst (λ (a : Address). IsIn r (map (cells_row (resource_id a)) t.table.rows))
        (sym (at-is head.address t there.1)) n))

    of_new : IsIn r (table_rows new) → IsIn r (flat_map table_rows tables)
    of_new (inl same) =
        absurd (not_other (kind.Table, resource_id head.address) r other (ap (λ (q : KeptRow). q.kind) same)
        (ap (λ (q : KeptRow). q.key) same))
    of_new (inr n) = of_found (found (at_address head.address) tables) refl n

    new_row : (t : ResourceTable) → IsIn r (table_rows t)
        → (t ≡ new) ⊎ (IsIn t tables × (is_eq (table_cmp t new) ≡ false)) → IsIn r (flat_map table_rows tables)
    new_row t n (inl same) = of_new (subst (λ (u : ResourceTable). IsIn r (table_rows u)) same n)
    new_row t n (inr old) = IsIn-flat_map table_rows r t tables old.0 n

    from : IsIn r (flat_map table_rows (with_head head tables)) → IsIn r (flat_map table_rows tables)
    from m =
        let w = flat_map-IsIn table_rows r (with_head head tables) m in
        new_row w.0 w.2 (IsIn-upserted table_cmp new w.0 tables w.1)

table-dropped : (address : Address) (tables : List ResourceTable) (r : KeptRow) → IsAscending table_cmp tables
    → rows_at address tables ≡ [] → IsOther (kind.Table, resource_id address) r
    → IsInBoth r (flat_map table_rows tables) (flat_map table_rows (dropped (at_address address) tables))
table-dropped address tables r up empty other = (into, from)
  where
    none : (t : ResourceTable) → IsIn t tables → is_at address t ≡ true → IsIn r (table_rows t) → ⊥
    none t m is (inl same) = not_head address r other t is same
    none t m is (inr n) =
        subst (λ (rows : List Row). IsIn r (map (cells_row (resource_id t.address)) rows))
        (rows-there address tables t up m is ∙ empty) n

    stays : (t : ResourceTable) → IsIn t tables → IsIn r (table_rows t) → (b : Bool) → is_at address t ≡ b
        → IsIn r (flat_map table_rows (dropped (at_address address) tables))
    stays t m n true is = absurd (none t m is n)
    stays t m n false is =
        IsIn-flat_map table_rows r t (dropped (at_address address) tables)
        (dropped-IsIn (at_address address) t tables m is) n

    into : IsIn r (flat_map table_rows tables) → IsIn r (flat_map table_rows (dropped (at_address address) tables))
    into m = let w = flat_map-IsIn table_rows r tables m in stays w.0 w.1 w.2 (is_at address w.0) refl

    from : IsIn r (flat_map table_rows (dropped (at_address address) tables)) → IsIn r (flat_map table_rows tables)
    from m =
        let w = flat_map-IsIn table_rows r (dropped (at_address address) tables) m in
        IsIn-flat_map table_rows r w.0 tables (IsIn-dropped (at_address address) w.0 tables w.1).0 w.2

-- ---- sources and jobs

-- the only source of a name
pub source-there : (name : List ℕ) (sources : List SourceState) (s : SourceState) → IsAscending source_cmp sources
    → IsIn s sources → is_eq (source_at name s) ≡ true → found (source_at name) sources ≡ Some s
source-there name sources s up m is = found-member source_cmp (source_at name) (IsKey-source_at name) s sources up m is

-- A source that is put keeps the rows of its jobs.
source-put : (source : HarvestSource) (sources : List SourceState) (r : KeptRow) → IsAscending source_cmp sources
    → IsOther (kind.Source, source.name) r
    → IsInBoth r (source_rows sources) (source_rows (sources_changed_by (PutSource source) sources))
    × IsInBoth r (job_rows sources) (job_rows (sources_changed_by (PutSource source) sources))
source-put source sources r up other = (
  in_both-upserted (λ (s : SourceState). source_row s.source) source_cmp source_cmp_total new sources r
      (λ s made. like s ∙ other_of (kind.Source, source.name) r (source_row s.source) other made),
  (into, from),
)
  where
    new : SourceState
    new = with_jobs_of source (found (source_at source.name) sources)

    rows_of_jobs : SourceState → List KeptRow
    rows_of_jobs s = map job_row s.jobs

    like : (s : SourceState) → is_eq (source_cmp s new) ≡ is_eq (source_at source.name s)
    like s =
        ap (λ (h : HarvestSource). is_eq (source_at h.name s)) (name-of_put source (found (source_at source.name) sources))

    kept : (s : SourceState) → IsIn s sources → IsIn r (rows_of_jobs s) → (b : Bool)
        → is_eq (source_at source.name s) ≡ b → IsIn r (job_rows (upserted source_cmp new sources))
    kept s m n true is =
        IsIn-flat_map rows_of_jobs r new (upserted source_cmp new sources) (upserted-IsIn source_cmp new sources)
        (subst (λ (o : Option SourceState). IsIn r (rows_of_jobs (with_jobs_of source o)))
        (sym (source-there source.name sources s up m is)) n)
    kept s m n false is =
        IsIn-flat_map rows_of_jobs r s (upserted source_cmp new sources)
        (upserted-IsIn_other source_cmp new s sources m (like s ∙ is)) n

    into : IsIn r (job_rows sources) → IsIn r (job_rows (upserted source_cmp new sources))
    into m =
        let w = flat_map-IsIn rows_of_jobs r sources m in
        kept w.0 w.1 w.2 (is_eq (source_at source.name w.0)) refl

    of_found : (o : Option SourceState) → found (source_at source.name) sources ≡ o
        → IsIn r (rows_of_jobs (with_jobs_of source o)) → IsIn r (job_rows sources)
    of_found None is n = absurd n
    of_found (Some s) is n =
        IsIn-flat_map rows_of_jobs r s sources (named-found source.name sources s is).0 n

    was : (s : SourceState) → IsIn r (rows_of_jobs s)
        → (s ≡ new) ⊎ (IsIn s sources × (is_eq (source_cmp s new) ≡ false)) → IsIn r (job_rows sources)
    was s n (inl same) =
        of_found (found (source_at source.name) sources) refl
        (subst (λ (t : SourceState). IsIn r (rows_of_jobs t)) same n)
    was s n (inr old) = IsIn-flat_map rows_of_jobs r s sources old.0 n

    from : IsIn r (job_rows (upserted source_cmp new sources)) → IsIn r (job_rows sources)
    from m =
        let w = flat_map-IsIn rows_of_jobs r (upserted source_cmp new sources) m in
        was w.0 w.2 (IsIn-upserted source_cmp new w.0 sources w.1)

-- A source that is dropped has no jobs.
source-dropped : (name : List ℕ) (sources : List SourceState) (r : KeptRow) → IsAscending source_cmp sources
    → jobs_if (found (source_at name) sources) ≡ [] → IsOther (kind.Source, name) r
    → IsInBoth r (source_rows sources) (source_rows (dropped (source_at name) sources))
    × IsInBoth r (job_rows sources) (job_rows (dropped (source_at name) sources))
source-dropped name sources r up empty other = (
  in_both-dropped (λ (s : SourceState). source_row s.source) (source_at name) sources r
      (λ s made. other_of (kind.Source, name) r (source_row s.source) other made),
  (into, from),
)
  where
    rows_of_jobs : SourceState → List KeptRow
    rows_of_jobs s = map job_row s.jobs

    stays : (s : SourceState) → IsIn s sources → IsIn r (rows_of_jobs s) → (b : Bool) → is_eq (source_at name s) ≡ b
        → IsIn r (job_rows (dropped (source_at name) sources))
    stays s m n true is =
        absurd (subst (λ (jobs : List Job). IsIn r (map job_row jobs))
        (sym (ap jobs_if (source-there name sources s up m is)) ∙ empty) n)
    stays s m n false is =
        IsIn-flat_map rows_of_jobs r s (dropped (source_at name) sources) (dropped-IsIn (source_at name) s sources m is) n

    into : IsIn r (job_rows sources) → IsIn r (job_rows (dropped (source_at name) sources))
    into m =
        let w = flat_map-IsIn rows_of_jobs r sources m in stays w.0 w.1 w.2 (is_eq (source_at name w.0)) refl

    from : IsIn r (job_rows (dropped (source_at name) sources)) → IsIn r (job_rows sources)
    from m =
        let w = flat_map-IsIn rows_of_jobs r (dropped (source_at name) sources) m in
        IsIn-flat_map rows_of_jobs r w.0 sources (IsIn-dropped (source_at name) w.0 sources w.1).0 w.2

-- What changes in the jobs or in the listing of a source leaves the rows of sources.
sources-stay : (name : List ℕ) (change : SourceState → SourceState)
    → ((s : SourceState) → (change s).source ≡ s.source) → (sources : List SourceState)
    → source_rows sources ≡ source_rows (with_source_at name change sources)
sources-stay name change keeps [] = refl
sources-stay name change keeps (s ∷ sources) =
    ap₂ (λ (h : HarvestSource) (rows : List KeptRow). source_row h ∷ rows) (sym (here (bytes_eq s.source.name name)))
    (sources-stay name change keeps sources)
  where
    here : (b : Bool) → (if b then change s else s).source ≡ s.source
    here true = keeps s
    here false = refl

-- Of a source's own jobs, a row with another key is made of a job with another number.
number-other : (name : List ℕ) (number : ℕ) (r : KeptRow) → IsOther (kind.Job, job_id name number) r → (job : Job)
    → job.source ≡ name → r ≡ job_row job → is_eq (job_at number job) ≡ false
number-other name number r other job own made = by (is_eq (job_at number job)) refl
  where
    by : (b : Bool) → is_eq (job_at number job) ≡ b → b ≡ false
    by true same =
        absurd (not_other (kind.Job, job_id name number) r other (ap (λ (q : KeptRow). q.kind) made)
        (ap (λ (q : KeptRow). q.key) made
        ∙ ap₂ job_id own (exact_unsigned job.number number (is_eq_true (job_at number job) same))))
    by false same = refl

job-put : (job : Job) (sources : List SourceState) (r : KeptRow) → AreKeyed sources → IsOther (kind.Job, id_of_job job) r
    → IsInBoth r (job_rows sources) (job_rows (with_source_at job.source (with_job job) sources))
job-put job sources r keyed other =
    in_both-each_in (λ (s : SourceState). map job_row s.jobs)
    (λ (s : SourceState). if bytes_eq s.source.name job.source then with_job job s else s) sources r
    (λ s m. each s m (bytes_eq s.source.name job.source) refl)
  where
    each : (s : SourceState) → IsIn s sources → (b : Bool) → bytes_eq s.source.name job.source ≡ b
        → IsInBoth r (map job_row s.jobs) (map job_row (if b then with_job job s else s).jobs)
    each s m false is = in_both-itself r (map job_row s.jobs)
    each s m true is =
        in_both-upserted_in job_row job_cmp job_cmp_total job s.jobs r
        (λ z n made. number-other job.source job.number r other z (own z n) made)
      where
        own : (z : Job) → IsIn z (job ∷ s.jobs) → z.source ≡ job.source
        own z (inl same) = ap (λ (j : Job). j.source) same
        own z (inr n) = keyed.own s m z n ∙ (bytes_eq-Decides s.source.name job.source).0 is

job-dropped : (name : List ℕ) (number : ℕ) (sources : List SourceState) (r : KeptRow) → AreKeyed sources
    → IsOther (kind.Job, job_id name number) r
    → IsInBoth r (job_rows sources) (job_rows (with_source_at name (without_job number) sources))
job-dropped name number sources r keyed other =
    in_both-each_in (λ (s : SourceState). map job_row s.jobs)
    (λ (s : SourceState). if bytes_eq s.source.name name then without_job number s else s) sources r
    (λ s m. each s m (bytes_eq s.source.name name) refl)
  where
    each : (s : SourceState) → IsIn s sources → (b : Bool) → bytes_eq s.source.name name ≡ b
        → IsInBoth r (map job_row s.jobs) (map job_row (if b then without_job number s else s).jobs)
    each s m false is = in_both-itself r (map job_row s.jobs)
    each s m true is =
        in_both-dropped_in job_row (job_at number) s.jobs r
        (λ z n made. number-other name number r other z
        (keyed.own s m z n ∙ (bytes_eq-Decides s.source.name name).0 is) made)

listing-put : (name : List ℕ) (listing : Option Listing) (sources : List SourceState) (r : KeptRow)
    → IsInBoth r (job_rows sources) (job_rows (with_source_at name (with_listing listing) sources))
listing-put name listing sources r =
    in_both-each (λ (s : SourceState). map job_row s.jobs)
    (λ (s : SourceState). if bytes_eq s.source.name name then with_listing listing s else s) sources r
    (λ s. each s (bytes_eq s.source.name name))
  where
    each : (s : SourceState) (b : Bool)
        → IsInBoth r (map job_row s.jobs) (map job_row (if b then with_listing listing s else s).jobs)
    each s true = in_both-itself r (map job_row s.jobs)
    each s false = in_both-itself r (map job_row s.jobs)

-- the rows of sources and jobs
abbrev harvest_rows_of : List SourceState → List KeptRow
harvest_rows_of sources = source_rows sources ++ job_rows sources

harvests-both : (r : KeptRow) (sources after : List SourceState) → IsInBoth r (source_rows sources) (source_rows after)
    → IsInBoth r (job_rows sources) (job_rows after) → IsInBoth r (harvest_rows_of sources) (harvest_rows_of after)
harvests-both r sources after first second =
    in_both-append r (source_rows sources) (job_rows sources) (source_rows after) (job_rows after) first second

-- the same where the rows of sources stay
jobs-both : (r : KeptRow) (sources after : List SourceState) → source_rows sources ≡ source_rows after
    → IsInBoth r (job_rows sources) (job_rows after) → IsInBoth r (harvest_rows_of sources) (harvest_rows_of after)
jobs-both r sources after same second =
    harvests-both r sources after
    (subst (IsInBoth r (source_rows sources)) same (in_both-itself r (source_rows sources))) second

source_entry-others : (entry : SourceEntry) (state : State) (r : KeptRow) → AreKeyed state.sources
    → DropsSourceAlone entry state → IsOther (source_entry_key entry) r
    → IsInBoth r (harvest_rows_of state.sources) (harvest_rows_of (sources_changed_by entry state.sources))
source_entry-others (PutSource source) state r keyed empty other =
    let both = source-put source state.sources r keyed.ascending other in
    harvests-both r state.sources (sources_changed_by (PutSource source) state.sources) both.0 both.1
source_entry-others (DropSource name) state r keyed empty other =
    let both = source-dropped name state.sources r keyed.ascending empty.0 other in
    harvests-both r state.sources (dropped (source_at name) state.sources) both.0 both.1
source_entry-others (PutJob job) state r keyed empty other =
    jobs-both r state.sources (with_source_at job.source (with_job job) state.sources)
    (sources-stay job.source (with_job job) (λ s. refl) state.sources) (job-put job state.sources r keyed other)
source_entry-others (DropJob name number) state r keyed empty other =
    jobs-both r state.sources (with_source_at name (without_job number) state.sources)
    (sources-stay name (without_job number) (λ s. refl) state.sources)
    (job-dropped name number state.sources r keyed other)
source_entry-others (PutListing name listing) state r keyed empty other =
    jobs-both r state.sources (with_source_at name (with_listing listing) state.sources)
    (sources-stay name (with_listing listing) (λ s. refl) state.sources) (listing-put name listing state.sources r)

-- ---- all rows

-- A row is among all rows as it is among those of organizations, of datasets, of tables, and of sources and jobs.
in_both-parts : (r : KeptRow) (orgs datasets tables harvests new_orgs new_datasets new_tables new_harvests : List KeptRow)
    → IsInBoth r orgs new_orgs → IsInBoth r datasets new_datasets → IsInBoth r tables new_tables
    → IsInBoth r harvests new_harvests
    → IsInBoth r (version_row ∷ (orgs ++ (datasets ++ (tables ++ harvests))))
    (version_row ∷ (new_orgs ++ (new_datasets ++ (new_tables ++ new_harvests))))
in_both-parts r orgs datasets tables harvests new_orgs new_datasets new_tables new_harvests first second third fourth =
    in_both-cons r version_row (orgs ++ (datasets ++ (tables ++ harvests)))
    (new_orgs ++ (new_datasets ++ (new_tables ++ new_harvests)))
    (in_both-append r orgs (datasets ++ (tables ++ harvests)) new_orgs (new_datasets ++ (new_tables ++ new_harvests))
    first
    (in_both-append r datasets (tables ++ harvests) new_datasets (new_tables ++ new_harvests) second
    (in_both-append r tables harvests new_tables new_harvests third fourth)))

orgs-changed : (r : KeptRow) (state : State) (people : PeopleLists) → IsInBoth r (org_rows state.people) (org_rows people)
    → IsInBoth r (listed_rows state) (listed_rows (record state { people = people }))
orgs-changed r state people same =
    in_both-parts r (org_rows state.people) (map dataset_row state.datasets) (flat_map table_rows state.tables)
    (harvest_rows_of state.sources) (org_rows people) (map dataset_row state.datasets)
    (flat_map table_rows state.tables) (harvest_rows_of state.sources) same
    (in_both-itself r (map dataset_row state.datasets)) (in_both-itself r (flat_map table_rows state.tables))
    (in_both-itself r (harvest_rows_of state.sources))

datasets-changed : (r : KeptRow) (state : State) (datasets : List Package)
    → IsInBoth r (map dataset_row state.datasets) (map dataset_row datasets)
    → IsInBoth r (listed_rows state) (listed_rows (record state { datasets = datasets }))
datasets-changed r state datasets same =
    in_both-parts r (org_rows state.people) (map dataset_row state.datasets) (flat_map table_rows state.tables)
    (harvest_rows_of state.sources) (org_rows state.people) (map dataset_row datasets)
    (flat_map table_rows state.tables) (harvest_rows_of state.sources) (in_both-itself r (org_rows state.people)) same
    (in_both-itself r (flat_map table_rows state.tables)) (in_both-itself r (harvest_rows_of state.sources))

tables-changed : (r : KeptRow) (state : State) (tables : List ResourceTable)
    → IsInBoth r (flat_map table_rows state.tables) (flat_map table_rows tables)
    → IsInBoth r (listed_rows state) (listed_rows (record state { tables = tables }))
tables-changed r state tables same =
    in_both-parts r (org_rows state.people) (map dataset_row state.datasets) (flat_map table_rows state.tables)
    (harvest_rows_of state.sources) (org_rows state.people) (map dataset_row state.datasets)
    (flat_map table_rows tables) (harvest_rows_of state.sources) (in_both-itself r (org_rows state.people))
    (in_both-itself r (map dataset_row state.datasets)) same (in_both-itself r (harvest_rows_of state.sources))

sources-changed : (r : KeptRow) (state : State) (sources : List SourceState)
    → IsInBoth r (harvest_rows_of state.sources) (harvest_rows_of sources)
    → IsInBoth r (listed_rows state) (listed_rows (record state { sources = sources }))
sources-changed r state sources same =
    in_both-parts r (org_rows state.people) (map dataset_row state.datasets) (flat_map table_rows state.tables)
    (harvest_rows_of state.sources) (org_rows state.people) (map dataset_row state.datasets)
    (flat_map table_rows state.tables) (harvest_rows_of sources) (in_both-itself r (org_rows state.people))
    (in_both-itself r (map dataset_row state.datasets)) (in_both-itself r (flat_map table_rows state.tables)) same

-- ---- entries

-- A row at another key than the entry's is among the rows before the entry and after it, or in neither.
pub entry-others : (entry : Entry) (state : State) (r : KeptRow) → IsAscending table_cmp state.tables
    → AreKeyed state.sources → DropsAlone entry state → IsOther (entry_key entry) r
    → IsInBoth r (listed_rows state) (listed_rows (changed_by entry state))
entry-others (PutOrg org) state r up keyed empty other =
    orgs-changed r state (record state.people { orgs = upserted org_cmp org state.people.orgs })
    (in_both-upserted (λ o. org_row o (memberships_in o.name state.people.roles)) org_cmp org_cmp_total org
    state.people.orgs r
    (λ o made. other_of (kind.Org, org.name) r (org_row o (memberships_in o.name state.people.roles)) other made))
entry-others (DropOrg name) state r up keyed empty other =
    orgs-changed r state (record state.people { orgs = dropped (org_at name) state.people.orgs })
    (in_both-dropped (λ o. org_row o (memberships_in o.name state.people.roles)) (org_at name) state.people.orgs r
    (λ o made. other_of (kind.Org, name) r (org_row o (memberships_in o.name state.people.roles)) other made))
entry-others (PutRole role) state r up keyed empty other =
    orgs-changed r state (record state.people { roles = upserted membership_cmp role state.people.roles })
    (roles-others role.org state.people.roles (upserted membership_cmp role state.people.roles) state.people.orgs r
    (roles-put role state.people.roles) other)
entry-others (DropRole org user) state r up keyed empty other =
    orgs-changed r state (record state.people { roles = dropped (pair_at org user) state.people.roles })
    (roles-others org state.people.roles (dropped (pair_at org user) state.people.roles) state.people.orgs r
    (roles-dropped org user state.people.roles) other)
entry-others (PutDataset dataset) state r up keyed empty other =
    datasets-changed r state (upserted dataset_cmp dataset state.datasets)
    (in_both-upserted dataset_row dataset_cmp dataset_cmp_total dataset state.datasets r
    (λ d made. other_of (kind.Set, dataset.id) r (dataset_row d) other made))
entry-others (EditDataset id edit) state r up keyed empty other =
    datasets-changed r state (with_edit id edit state.datasets) (dataset-edited id edit state.datasets r other)
entry-others (DropDataset id) state r up keyed empty other =
    datasets-changed r state (dropped (dataset_at_id id) state.datasets)
    (in_both-dropped dataset_row (dataset_at_id id) state.datasets r
    (λ d made. other_of (kind.Set, id) r (dataset_row d) other made))
entry-others (PutTable head) state r up keyed empty other =
    tables-changed r state (with_head head state.tables) (table-put head state.tables r up other)
entry-others (DropTable address) state r up keyed empty other =
    tables-changed r state (dropped (at_address address) state.tables)
    (table-dropped address state.tables r up empty other)
entry-others (PutRow address row) state r up keyed empty other =
    tables-changed r state (with_table_at address (with_row row) state.tables)
    (in_both-each table_rows (λ t. if is_at address t then with_row row t else t) state.tables r
    (λ t. row-put address row r other t (is_at address t) refl))
entry-others (DropRow address id) state r up keyed empty other =
    tables-changed r state (with_table_at address (without_row id) state.tables)
    (in_both-each table_rows (λ t. if is_at address t then without_row id t else t) state.tables r
    (λ t. row-dropped address id r other t (is_at address t) refl))
entry-others (OfSources entry) state r up keyed empty other =
    sources-changed r state (sources_changed_by entry state.sources)
    (source_entry-others entry state r keyed empty other)

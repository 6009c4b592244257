-- Two states with the same rows agree in all that a store keeps of them: organizations, roles, datasets and tables, and
-- sources with their jobs, as far as no job runs.
use Rattle.std.proofs.Common.{◌≡◌, ℕ, zero, suc, ◌==◌, ◌≤◌, ◌<◌, ◌^◌, Bool, true, false, ◌||◌, not, List, [], ◌∷◌}
use Rattle.std.proofs.Common.{◌++◌, Some, map, slice_get, is_some, inl, inr, refl, sym, ap, ap₂, ◌∙◌, subst, arith, ◌↔◌}
use Rattle.std.specs.Prelude.{IsTrue, if◌then◌else◌}
use Rattle.std.specs.Str.{bytes_eq}
use Rattle.std.proofs.lemmas.List.Sorted.{IsPermutation-sym}
use Rattle.std.proofs.lemmas.Option.{same_Some}
use Rattle.std.proofs.lemmas.Simd.{map-map}
use Rattle.std.proofs.lemmas.Slice.Eq.{bytes_eq-Decides}
use Rattle.portal_base.specs.Ordered.{ascending}
use Rattle.portal_base.proofs.Filtered.{IsIn-filter, filter-IsIn, is_some-find_any}
use Rattle.portal_base.proofs.Unique.{IsIn, IsIn-Contains, IsIn-ascending, ascending-IsIn, unique}
use Rattle.portal_base.proofs.Upserted.{All-IsIn}
use Rattle.org_roles.specs.Order.{membership_cmp, membership_cmp_total}
use Rattle.org_roles.specs.PeopleLists.{org_in}
use Rattle.org_roles.specs.declared.entry.Membership.{Membership}
use Rattle.org_roles.specs.declared.entry.Org.{Org}
use Rattle.packages.specs.declared.package.Resource.{Resource}
use Rattle.packages.proofs.FindLemmas.{IsIn-find, IsIn-map, map-IsIn}
use Rattle.table_schema.specs.declared.foreign.Foreign.{Foreign}
use Rattle.datastore_table.specs.References.{is_self}
use Rattle.datastore_table.proofs.RowLemmas.{both_hold}
use Rattle.datastore_answers.specs.Consistent.{own_resolved}
use Rattle.datastore_answers.specs.Order.{table_cmp, table_cmp_total}
use Rattle.datastore_answers.specs.Tables.{tables_in}
use Rattle.datastore_answers.specs.declared.address.Address.{Address}
use Rattle.datastore_answers.specs.declared.resource_table.ResourceTable.{ResourceTable}
use Rattle.datastore_answers.proofs.KeepLemmas.{number_is}
use Rattle.datastore_answers.proofs.ReferenceLemmas.{kept-each}
use Rattle.harvest_rows.specs.KeptHarvests.{kept_job_cmp, rows_of_harvests}
use Rattle.harvest_rows.specs.declared.kept_harvests.KeptHarvests.{KeptHarvests}
use Rattle.harvest_sources.specs.Sources.{SourceState}
use Rattle.harvest_sources.specs.declared.source.HarvestSource.{HarvestSource}
use Rattle.harvest_stages.specs.AtRest.{IsAtRest, all_jobs, at_rest}
use Rattle.harvest_stages.specs.Restored.{restored}
use Rattle.harvest_stages.proofs.PartLemmas.{IsPermutation-ascending, map-left}
use Rattle.harvest_stages.proofs.RestLemmas.{all_rest, sources_rest}
use Rattle.harvest_stages.proofs.RestoringLaws.{restored_again}
use Rattle.portal_state.specs.PortalValue.{IsReopened, reopened}
use Rattle.portal_state.specs.declared.opening.Opening.{Opening}
use Rattle.portal_keeper.specs.declared.row.KeptRow.{KeptRow}
use Rattle.portal_rows.specs.KeptValues.{kept_table_cmp, rows_of_values}
use Rattle.portal_rows.specs.declared.kept_tables.KeptTable.{KeptTable}
use Rattle.portal_rows.specs.declared.kept_values.KeptValues.{KeptValues}
use Rattle.portal_rows.specs.declared.org_reading.OrgWithRoles.{OrgWithRoles}
use Rattle.portal_rows.proofs.MemberLemmas.{same_made}
use Rattle.portal_state.specs.KeptRows.{kept_rows, row_target}
use Rattle.portal_state.specs.State.{State}
use Rattle.portal_state.specs.Typed.{IsTyped}
use Rattle.portal_state.specs.Valid.{HasHome, IsSoundAmong, IsValid}
use Rattle.portal_state.specs.Values.{AreRowsOf, IsStateOf, harvests_of, kept_table, values_of, with_roles}
use Rattle.portal_state.proofs.KeyLemmas.{same_address}
use Rattle.portal_core.proofs.RowParts.{same-both}
use Rattle.portal_core.proofs.SoundAmong.{among-numbered}
use Rattle.portal_state.proofs.TableViewing.{any-is}
use Rattle.portal_core.proofs.Values.{values-rows, rows_of_values-kept}

-- ---- the values are the same

-- The rows of a state are those of its values.
pub of_values : (rows : List KeptRow) (state : State) → IsStateOf rows state
    → AreRowsOf (values_of state) (harvests_of state) rows
of_values rows state is =
    subst (AreRowsOf (values_of state) (harvests_of state)) is.kept (values-rows state is.valid is.typed)

same-both_of : (rows : List KeptRow) (one other : State) → IsStateOf rows one → IsStateOf rows other
    → (values_of one ≡ values_of other) × (harvests_of one ≡ harvests_of other)
same-both_of rows one other is also =
    same-both rows (values_of one) (values_of other) (harvests_of one) (harvests_of other) (of_values rows one is)
    (of_values rows other also)

pub same-values_of : (rows : List KeptRow) (one other : State) → IsStateOf rows one → IsStateOf rows other
    → values_of one ≡ values_of other
same-values_of rows one other is also = (same-both_of rows one other is also).0

-- ---- organizations and datasets

orgs-back : (roles : List Membership) (orgs : List Org)
    → map (λ (kept : OrgWithRoles). kept.org) (map (with_roles roles) orgs) ≡ orgs
orgs-back roles [] = refl
orgs-back roles (org ∷ orgs) = ap (λ l. org ∷ l) (orgs-back roles orgs)

pub same-orgs : (rows : List KeptRow) (one other : State) → IsStateOf rows one → IsStateOf rows other
    → one.people.orgs ≡ other.people.orgs
same-orgs rows one other is also =
    sym (orgs-back one.people.roles one.people.orgs)
    ∙ ap (λ (v : KeptValues). map (λ (kept : OrgWithRoles). kept.org) v.orgs) (same-values_of rows one other is also)
    ∙ orgs-back other.people.roles other.people.orgs

pub same-datasets : (rows : List KeptRow) (one other : State) → IsStateOf rows one → IsStateOf rows other
    → one.datasets ≡ other.datasets
same-datasets rows one other is also = ap (λ (v : KeptValues). v.datasets) (same-values_of rows one other is also)

-- ---- roles

-- Each role is one of those in its organization, and so one of the other state's.
role-in : (one other : State) → IsValid one → values_of one ≡ values_of other → (m : Membership)
    → IsIn m one.people.roles → IsIn m other.people.roles
role-in one other valid same m n =
    let org = any-is (λ (o : Org). bytes_eq o.name m.org) one.people.orgs
    (sym (is_some-find_any (λ (o : Org). bytes_eq o.name m.org) one.people.orgs)
    ∙ All-IsIn (λ (k : Membership). IsTrue (is_some (org_in one.people k.org))) one.people.roles valid.roles m n) in
    let own : bytes_eq m.org org.0.name ≡ true =
    (bytes_eq-Decides m.org org.0.name).1 (sym ((bytes_eq-Decides org.0.name m.org).0 org.2)) in
    let among : IsIn (with_roles one.people.roles org.0) (map (with_roles other.people.roles) other.people.orgs) =
    subst (λ (v : KeptValues). IsIn (with_roles one.people.roles org.0) v.orgs) same
    (IsIn-map (with_roles one.people.roles) org.0 one.people.orgs org.1) in
    let kept = map-IsIn (with_roles other.people.roles) (with_roles one.people.roles org.0) other.people.orgs among in
    (IsIn-filter (λ (k : Membership). bytes_eq k.org kept.0.name) m other.people.roles
    (subst (IsIn m) (ap (λ (k : OrgWithRoles). k.roles) kept.2)
    (filter-IsIn (λ (k : Membership). bytes_eq k.org org.0.name) m one.people.roles n own))).0

pub same-roles : (rows : List KeptRow) (one other : State) → IsStateOf rows one → IsStateOf rows other
    → one.people.roles ≡ other.people.roles
same-roles rows one other is also =
    let same = same-values_of rows one other is also in
    unique membership_cmp membership_cmp_total one.people.roles other.people.roles is.valid.people.roles
    also.valid.people.roles (role-in one other is.valid same) (role-in other one also.valid (sym same))

-- ---- targets

-- The number of a table's resource is at least 1.
own-number : (state : State) → IsValid state → (t : ResourceTable) → IsIn t state.tables → 1 ≤ t.address.number
own-number state valid t m =
    let home = All-IsIn (HasHome state.datasets) state.tables valid.homes t m in
    let numbered = among-numbered state.people state.sources home.dataset
    (All-IsIn (IsSoundAmong state.people state.sources) state.datasets valid.sound home.dataset
    (IsIn-Contains home.dataset state.datasets home.is_present)) in
    let r = any-is (λ (r : Resource). r.number == t.address.number) home.dataset.resources home.resource in
    let within = All-IsIn (λ (r : Resource). (1 ≤ r.number) × (r.number < home.dataset.next_resource))
    home.dataset.resources numbered.within r.0 r.1 in
    let same : r.0.number ≡ t.address.number = number_is r.0.number t.address.number r.2 in
    omega (arith, within.0, same)

-- What holds of the table's own number and of the number of each other referenced table holds of all targets.
each-target : (P : ℕ → Type 0) (own : ℕ) (foreigns : List Foreign) (numbers : List ℕ) → P own
    → own_resolved own foreigns numbers ≡ true
    → ((index : ℕ) (foreign : Foreign) → slice_get foreigns index ≡ Some foreign → is_self foreign ≡ false
    → (number : ℕ) × (slice_get numbers index ≡ Some number) × P number)
    → (n : ℕ) → IsIn n numbers → P n
each-target P own [] [] holds resolved others n m = absurd m
each-target P own [] (x ∷ xs) holds resolved others n m = absurd (cc)
each-target P own (f ∷ fs) [] holds resolved others n m = absurd m
each-target P own (f ∷ fs) (x ∷ xs) holds resolved others n (inl same) =
    subst P (sym same)
    (by (is_self f) refl (both_hold (not (is_self f) || x == own) (own_resolved own fs xs) resolved).0)
  where
    by : (self : Bool) → is_self f ≡ self → (not self || x == own) ≡ true → P x
    by true is own_number = subst P (sym (number_is x own own_number)) holds
    by false is other =
        let w = others zero f refl is in
        let number : x ≡ w.0 = cc (w.1) in
        subst P (sym number) w.2
each-target P own (f ∷ fs) (x ∷ xs) holds resolved others n (inr m) =
    each-target P own fs xs holds
    (both_hold (not (is_self f) || x == own) (own_resolved own fs xs) resolved).1
    (λ index foreign there self. others (suc index) foreign there self) n m

target-number : (state : State) → IsValid state → (t : ResourceTable) → IsIn t state.tables → (n : ℕ)
    → IsIn n t.targets → 1 ≤ n
target-number state valid t m =
    let is = kept-each state.tables valid.tables t m in
    each-target (λ n. 1 ≤ n) t.address.number t.table.schema.foreign t.targets (own-number state valid t m) is.resolved
    (λ index foreign there self. let h = is.holds index foreign there self in (
      h.number,
      h.resolved,
      other h.number h.target
          (IsIn-find (λ u. u.address.number == h.number) h.target (tables_in t.address.dataset state.tables) h.there),
    ))
  where
    other : (number : ℕ) (target : ResourceTable)
        → IsIn target (tables_in t.address.dataset state.tables) × ((target.address.number == number) ≡ true)
        → 1 ≤ number
    other number target found =
        let there = IsIn-filter (λ (u : ResourceTable). bytes_eq u.address.dataset t.address.dataset) target
        state.tables found.0 in
        let least = own-number state valid target there.0 in
        let same : target.address.number ≡ number = number_is target.address.number number found.1 in
        omega (arith, least, same)

-- In a row 0 stands for the table's own number. No other number of a resource is 0.
same-target : (own m n : ℕ) → 1 ≤ m → 1 ≤ n → row_target own m ≡ row_target own n → m ≡ n
same-target own m n first second e = by (m == own) refl (n == own) refl e
  where
    by : (b : Bool) → (m == own) ≡ b → (c : Bool) → (n == own) ≡ c
        → (if b then 0 else m) ≡ (if c then 0 else n) → m ≡ n
    by true is true also same = number_is m own is ∙ sym (number_is n own also)
    by true is false also same = absurd (omega (arith, second, same))
    by false is true also same = absurd (omega (arith, first, same))
    by false is false also same = same

-- ---- tables

-- Another table with the same row and the same rows would be the same.
record IsTold (t : ResourceTable) : Type 0 where
  number : t.address.number < 2 ^ 32
  targets : (n : ℕ) → IsIn n t.targets → 1 ≤ n
  unready : t.table.room ≡ 0

each-told : (rows : List KeptRow) (state : State) → IsStateOf rows state → (t : ResourceTable) → IsIn t state.tables
    → IsTold t
each-told rows state is t m = record {
  number = All-IsIn (λ (u : ResourceTable). u.address.number < 2 ^ 32) state.tables is.typed.tables.numbers t m;
  targets = target-number state is.valid t m;
  unready = (kept-each state.tables is.valid.tables t m).unready;
}

same-table : (t u : ResourceTable) → IsTold t → IsTold u → kept_table t ≡ kept_table u → t ≡ u
same-table t u is also e =
    let address : t.address ≡ u.address =
    same_address t.address u.address is.number also.number (ap (λ (k : KeptTable). k.resource) e) in
    let own : u.address.number ≡ t.address.number = sym (ap (λ (a : Address). a.number) address) in
    let in_rows : map (row_target t.address.number) t.targets ≡ map (row_target t.address.number) u.targets =
    ap (λ (k : KeptTable). k.head.targets) e ∙ ap (λ (n : ℕ). map (row_target n) u.targets) own in
    let targets : t.targets ≡ u.targets =
    same_made (row_target t.address.number) t.targets u.targets
    (λ m n i j f. same-target t.address.number m n (is.targets m i) (also.targets n j) f) in_rows in
    let schema : t.table.schema ≡ u.table.schema = ap (λ (k : KeptTable). k.head.schema) e in
    let next_id : t.table.next_id ≡ u.table.next_id = ap (λ (k : KeptTable). k.head.next_id) e in
    let rows : t.table.rows ≡ u.table.rows = ap (λ (k : KeptTable). k.rows) e in
    let room : t.table.room ≡ u.table.room = is.unready ∙ sym also.unready in
    λ i. record {
      address = address i;
      targets = targets i;
      table = record { schema = schema i; rows = rows i; next_id = next_id i; room = room i };
    }

table-in : (rows : List KeptRow) (one other : State) → IsStateOf rows one → IsStateOf rows other → (t : ResourceTable)
    → IsIn t one.tables → IsIn t other.tables
table-in rows one other is also t m =
    let among : IsIn (kept_table t) (ascending kept_table_cmp (map kept_table other.tables)) =
    subst (λ (v : KeptValues). IsIn (kept_table t) v.tables) (same-values_of rows one other is also)
    (IsIn-ascending kept_table_cmp (kept_table t) (map kept_table one.tables) (IsIn-map kept_table t one.tables m)) in
    let u = map-IsIn kept_table (kept_table t) other.tables
    (ascending-IsIn kept_table_cmp (kept_table t) (map kept_table other.tables) among) in
    subst (λ (v : ResourceTable). IsIn v other.tables)
    (sym (same-table t u.0 (each-told rows one is t m) (each-told rows other also u.0 u.1) u.2)) u.1

pub same-tables : (rows : List KeptRow) (one other : State) → IsStateOf rows one → IsStateOf rows other
    → one.tables ≡ other.tables
same-tables rows one other is also =
    unique table_cmp table_cmp_total one.tables other.tables is.valid.tables.ascending also.valid.tables.ascending
    (table-in rows one other is also) (table-in rows other one also is)

-- ---- sources and jobs

-- What a state keeps of its sources and jobs is restored as its sources at rest.
restored-at_rest : (state : State) → IsValid state
    → restored (harvests_of state).sources (harvests_of state).jobs ≡ Some (map at_rest state.sources)
restored-at_rest state valid =
    let rested : List SourceState = map at_rest state.sources in
    ap (λ (sources : List HarvestSource). restored sources (harvests_of state).jobs)
    (sym (map-map (λ (s : SourceState). s.source) at_rest state.sources))
    ∙ restored_again rested (ascending kept_job_cmp (all_jobs rested)) (sources_rest state.sources valid.sources)
    (all_rest state.sources)
    (IsPermutation-sym (all_jobs rested) (ascending kept_job_cmp (all_jobs rested))
    (IsPermutation-ascending kept_job_cmp (all_jobs rested)))

pub same-sources : (rows : List KeptRow) (one other : State) → IsStateOf rows one → IsStateOf rows other
    → map at_rest one.sources ≡ map at_rest other.sources
same-sources rows one other is also =
    same_Some (map at_rest one.sources) (map at_rest other.sources)
    (sym (restored-at_rest one is.valid)
    ∙ ap (λ (h : KeptHarvests). restored h.sources h.jobs) (same-both_of rows one other is also).1
    ∙ restored-at_rest other also.valid)

-- ---- states of given values

-- Of rows that are those of values, the states are the valid ones with these values.
pub known-state : (rows : List KeptRow) (values : KeptValues) (harvests : KeptHarvests) (state : State)
    → AreRowsOf values harvests rows
    → IsStateOf rows state
    ↔ ((values_of state ≡ values) × (harvests_of state ≡ harvests) × IsValid state × IsTyped state)
known-state rows values harvests state of = (
  λ is. let same = same-both rows (values_of state) values (harvests_of state) harvests (of_values rows state is) of in
      (same.0, same.1, is.valid, is.typed),
  λ is. record {
    valid = is.2;
    typed = is.3;
    kept = sym (rows_of_values-kept state is.2 is.3)
        ∙ ap₂ (λ (v : KeptValues) (h : KeptHarvests). rows_of_values v ++ rows_of_harvests h) is.0 is.1
        ∙ of.same;
  },
)

pub known-rows : (rows : List KeptRow)
    → ((state : State) × IsStateOf rows state)
    ↔ ((values : KeptValues) × (harvests : KeptHarvests) × (state : State) × AreRowsOf values harvests rows
    × (values_of state ≡ values) × (harvests_of state ≡ harvests) × IsValid state × IsTyped state)
known-rows rows = (
  λ s. (values_of s.0, harvests_of s.0, s.0, of_values rows s.0 s.1, refl, refl, s.1.valid, s.1.typed),
  λ w. (w.2, (known-state rows w.0 w.1 w.2 w.3).1 (w.4, w.5, w.6, w.7)),
)

-- ---- a state that is opened again

pub opened_again : (opening : Opening) (state again : State) → IsValid state → IsTyped state
    → IsReopened opening (kept_rows state) again → again ≡ reopened opening state
opened_again opening state again valid typed is =
    let kept : IsStateOf (kept_rows state) state = record { valid = valid; typed = typed; kept = refl } in
    let orgs = same-orgs (kept_rows state) again state is.of_rows kept in
    let roles = same-roles (kept_rows state) again state is.of_rows kept in
    let datasets = same-datasets (kept_rows state) again state is.of_rows kept in
    let tables = same-tables (kept_rows state) again state is.of_rows kept in
    let sources : again.sources ≡ map at_rest state.sources =
    sym (map-left at_rest again.sources (All-IsIn IsAtRest again.sources is.rest))
    ∙ same-sources (kept_rows state) again state is.of_rows kept in
    λ i. record {
      people = record { users = is.users i; orgs = orgs i; roles = roles i };
      datasets = datasets i;
      tables = tables i;
      sources = sources i;
      quota_used = is.unused i;
    }

-- A change or a step of a harvest whose entries a caller doesn't see is hidden from the caller.
use Rattle.std.proofs.Common.{◌≡◌, ℕ, Bool, true, false, ◌&&◌, ◌||◌, List, [], ◌∷◌, map, Option, Some, None}
use Rattle.std.proofs.Common.{if◌then◌else◌, refl, sym, ap, ◌∙◌, subst, inl, inr, ◌⊎◌}
use Rattle.std.specs.Prelude.{filter, find}
use Rattle.std.specs.List.{Contains}
use Rattle.std.specs.Ordering.{is_eq}
use Rattle.std.specs.Str.{bytes_eq}
use Rattle.std.proofs.lemmas.Map.Text.{is_eq-slice_cmp}
use Rattle.std.proofs.lemmas.Slice.Eq.{bytes_eq-Decides}
use Rattle.portal_base.specs.declared.caller.Caller.{Caller}
use Rattle.portal_base.specs.declared.caller.Caller.TheVariants.{Anonymous}
use Rattle.portal_base.specs.declared.json_value.Json.{Json}
use Rattle.portal_base.specs.Ordered.{found}
use Rattle.portal_base.proofs.Filtered.{IsIn-filter}
use Rattle.portal_base.proofs.Unique.{IsIn, IsIn-Contains, Contains-IsIn}
use Rattle.portal_base.proofs.Upserted.{All-IsIn, Contains-dropped, Contains-upserted, dropped-Contains}
use Rattle.portal_base.proofs.Upserted.{upserted-Contains_other}
use Rattle.org_roles.specs.Order.{membership_cmp, pair_at}
use Rattle.org_roles.specs.PeopleLists.{PeopleLists}
use Rattle.org_roles.specs.declared.entry.Membership.{Membership}
use Rattle.org_roles.specs.declared.role.Role.TheVariants.{Member}
use Rattle.org_roles.proofs.PeopleLemmas.{is_eq-membership_cmp}
use Rattle.packages.specs.Order.{dataset_cmp}
use Rattle.packages.specs.declared.package.Package.{Package}
use Rattle.dataset_answers.specs.Changed.{dataset_at_id}
use Rattle.dataset_answers.specs.Edits.{edited}
use Rattle.datastore_answers.specs.Order.{at_address, is_at, table_cmp}
use Rattle.datastore_answers.specs.declared.address.Address.{Address}
use Rattle.datastore_answers.specs.declared.resource_table.ResourceTable.{ResourceTable}
use Rattle.datastore_answers.proofs.KeepLemmas.{at-is}
use Rattle.harvest_answers.specs.View.{sees_source}
use Rattle.harvest_sources.specs.Entries.{DropJob, DropSource, PutJob, PutListing, PutSource, SourceEntry, with_job}
use Rattle.harvest_sources.specs.Entries.{changed_by as sources_changed_by, with_jobs_of, with_listing, with_source_at}
use Rattle.harvest_sources.specs.Entries.{without_job}
use Rattle.harvest_sources.specs.Sources.{SourceState, source_at, source_cmp}
use Rattle.harvest_sources.specs.declared.source.HarvestSource.{HarvestSource}
use Rattle.harvest_sources.specs.declared.step.Step.{Step}
use Rattle.portal_calls.specs.declared.answer.Answer.{Answer}
use Rattle.portal_calls.specs.declared.answer.Answer.TheVariants.{Accepted}
use Rattle.portal_calls.specs.declared.call.Call.{Call}
use Rattle.portal_events.specs.declared.event.Event.TheVariants.{Call as a_call, Harvest as a_step}
use Rattle.visibility.specs.View.{administers, is_called, is_role_seen}
use Rattle.visibility.specs.Visibility.{sees_in}
use Rattle.portal_state.specs.Change.{Change}
use Rattle.portal_state.specs.Changed.{applied, charged, is_in_use}
use Rattle.portal_state.specs.Entries.{Entry, PutOrg, DropOrg, PutRole, DropRole, PutDataset, EditDataset}
use Rattle.portal_state.specs.Entries.{DropDataset, PutTable, DropTable, PutRow, DropRow, OfSources, changed_by, rows_at}
use Rattle.portal_state.specs.Entries.{state_after, table_of, with_row, without_row}
use Rattle.portal_state.specs.Harvest.{harvest_entries}
use Rattle.portal_core.specs.Hidden.{AreUnseen, IsEntryUnseen, IsHidden, IsHiddenBetween, IsHiddenChange, IsIdUnseen}
use Rattle.portal_core.specs.Hidden.{IsRoleUnseen, is_caller, is_kept, source_of_entry}
use Rattle.portal_state.specs.Known.{is_known, known_call}
use Rattle.portal_state.specs.State.{State}
use Rattle.portal_state.specs.Step.{answer_in, outcome_of, outcome_unless_in_use}
use Rattle.portal_state.specs.View.{is_own_quota, is_table_seen}
use Rattle.portal_state.specs.declared.change.Claim.{Claim}
use Rattle.portal_core.proofs.Charging.{state_after-quota}
use Rattle.portal_core.proofs.Hiding.{charged-between, hidden-none, unchanged-hidden}
use Rattle.portal_state.proofs.KeyedSources.{name-of_put}
use Rattle.portal_state.proofs.TableViewing.{any-is}

-- ---- what no entry names

-- The item that passes neither is passed by neither.
not_true : (b : Bool) → (b ≡ true → ⊥) → b ≡ false
not_true true not = absurd (not refl)
not_true false not = refl

map-was : {X : Type 0} (f : X → X) (y : X) (xs : List X) → Contains (map f xs) y → (x : X) × Contains xs x × (y ≡ f x)
map-was {X} f y xs m = by xs (IsIn-Contains y (map f xs) m)
  where
    was : (xs : List X) → IsIn y (map f xs) → (x : X) × IsIn x xs × (y ≡ f x)
    was [] m = absurd m
    was (x ∷ xs) (inl is) = (x, inl refl, is)
    was (x ∷ xs) (inr m) = let z = was xs m in (z.0, inr z.1, z.2)

    by : (xs : List X) → IsIn y (map f xs) → (x : X) × Contains xs x × (y ≡ f x)
    by xs m = let z = was xs m in (z.0, Contains-IsIn z.0 xs z.1, z.2)

map-stays : {X : Type 0} (f : X → X) (x : X) (xs : List X) → f x ≡ x → Contains xs x → Contains (map f xs) x
map-stays {X} f x xs same m =
    Contains-IsIn x (map f xs) (subst (λ z. IsIn z (map f xs)) same (into xs (IsIn-Contains x xs m)))
  where
    into : (xs : List X) → IsIn x xs → IsIn (f x) (map f xs)
    into [] m = absurd m
    into (y ∷ ys) (inl is) = inl (ap f is)
    into (y ∷ ys) (inr m) = inr (into ys m)

-- ---- datasets

-- The entry is about the dataset of that id.
abbrev is_about_dataset : List ℕ → Entry → Bool
is_about_dataset id (PutDataset d) = bytes_eq id d.id
is_about_dataset id (EditDataset other edit) = bytes_eq id other
is_about_dataset id (DropDataset other) = bytes_eq id other
is_about_dataset id entry = false

-- An entry about another dataset leaves a dataset where it is,
dataset-stays : (entry : Entry) (state : State) (d : Package) → is_about_dataset d.id entry ≡ false
    → Contains state.datasets d → Contains (changed_by entry state).datasets d
dataset-stays (PutDataset e) state d other m =
    upserted-Contains_other dataset_cmp e d state.datasets m (is_eq-slice_cmp d.id e.id ∙ other)
dataset-stays (EditDataset id edit) state d other m =
    map-stays (λ e. if bytes_eq e.id id then edited edit e else e) d state.datasets
    (ap (λ b. if b then edited edit d else d) other) m
dataset-stays (DropDataset id) state d other m =
    dropped-Contains (dataset_at_id id) d state.datasets m (is_eq-slice_cmp d.id id ∙ other)
dataset-stays (PutOrg org) state d other m = m
dataset-stays (DropOrg name) state d other m = m
dataset-stays (PutRole role) state d other m = m
dataset-stays (DropRole org user) state d other m = m
dataset-stays (PutTable head) state d other m = m
dataset-stays (DropTable address) state d other m = m
dataset-stays (PutRow address row) state d other m = m
dataset-stays (DropRow address id) state d other m = m
dataset-stays (OfSources e) state d other m = m

-- and brings none in its place.
dataset-stood : (entry : Entry) (state : State) (d : Package) → is_about_dataset d.id entry ≡ false
    → Contains (changed_by entry state).datasets d → Contains state.datasets d
dataset-stood (PutDataset e) state d other m = by (Contains-upserted dataset_cmp e d state.datasets m)
  where
    by : (d ≡ e) ⊎ (Contains state.datasets d × (is_eq (dataset_cmp d e) ≡ false)) → Contains state.datasets d
    by (inl is) = let same : bytes_eq d.id e.id ≡ true = (bytes_eq-Decides d.id e.id).1 (ap (λ (p : Package). p.id) is) in
        absurd (cc)
    by (inr was) = was.0
dataset-stood (EditDataset id edit) state d other m =
    let z = map-was (λ e. if bytes_eq e.id id then edited edit e else e) d state.datasets m in
    by z.0 z.1 z.2 (bytes_eq z.0.id id) refl
  where
    by : (e : Package) → Contains state.datasets e → d ≡ (if bytes_eq e.id id then edited edit e else e) → (b : Bool)
        → bytes_eq e.id id ≡ b → Contains state.datasets d
    by e within is true named =
        let same : d ≡ edited edit e = is ∙ ap (λ b. if b then edited edit e else e) named in
        let about : bytes_eq d.id id ≡ true = ap (λ (p : Package). bytes_eq p.id id) same ∙ named in
        absurd (cc)
    by e within is false named =
        subst (Contains state.datasets) (sym (is ∙ ap (λ b. if b then edited edit e else e) named)) within
dataset-stood (DropDataset id) state d other m = (Contains-dropped (dataset_at_id id) d state.datasets m).0
dataset-stood (PutOrg org) state d other m = m
dataset-stood (DropOrg name) state d other m = m
dataset-stood (PutRole role) state d other m = m
dataset-stood (DropRole org user) state d other m = m
dataset-stood (PutTable head) state d other m = m
dataset-stood (DropTable address) state d other m = m
dataset-stood (PutRow address row) state d other m = m
dataset-stood (DropRow address id) state d other m = m
dataset-stood (OfSources e) state d other m = m

-- ---- tables

-- The entry is about a table of the dataset of that id.
abbrev is_about_tables : List ℕ → Entry → Bool
is_about_tables id (PutTable head) = bytes_eq id head.address.dataset
is_about_tables id (DropTable address) = bytes_eq id address.dataset
is_about_tables id (PutRow address row) = bytes_eq id address.dataset
is_about_tables id (DropRow address row) = bytes_eq id address.dataset
is_about_tables id entry = false

elsewhere : (address : Address) (t : ResourceTable) → bytes_eq t.address.dataset address.dataset ≡ false
    → is_at address t ≡ false
elsewhere address t other =
    not_true (is_at address t)
    (λ here. let same : bytes_eq t.address.dataset address.dataset ≡ true =
    (bytes_eq-Decides t.address.dataset address.dataset).1 (ap (λ (a : Address). a.dataset) (at-is address t here)) in
    cc)

made-stays : (address : Address) (make : ResourceTable → ResourceTable) (t : ResourceTable) (tables : List ResourceTable)
    → bytes_eq t.address.dataset address.dataset ≡ false → Contains tables t
    → Contains (map (λ u. if is_at address u then make u else u) tables) t
made-stays address make t tables other m =
    map-stays (λ u. if is_at address u then make u else u) t tables
    (ap (λ b. if b then make t else t) (elsewhere address t other)) m

made-stood : (address : Address) (make : ResourceTable → ResourceTable)
    → ((u : ResourceTable) → (make u).address ≡ u.address) → (t : ResourceTable) (tables : List ResourceTable)
    → bytes_eq t.address.dataset address.dataset ≡ false
    → Contains (map (λ u. if is_at address u then make u else u) tables) t → Contains tables t
made-stood address make keeps t tables other m =
    let z = map-was (λ u. if is_at address u then make u else u) t tables m in
    by z.0 z.1 z.2 (is_at address z.0) refl
  where
    by : (u : ResourceTable) → Contains tables u → t ≡ (if is_at address u then make u else u) → (b : Bool)
        → is_at address u ≡ b → Contains tables t
    by u within is true here =
        let same : t.address ≡ address =
        ap (λ (v : ResourceTable). v.address) (is ∙ ap (λ b. if b then make u else u) here)
        ∙ keeps u ∙ at-is address u here in
        let about : bytes_eq t.address.dataset address.dataset ≡ true =
        (bytes_eq-Decides t.address.dataset address.dataset).1 (ap (λ (a : Address). a.dataset) same) in
        absurd (cc)
    by u within is false here =
        subst (Contains tables) (sym (is ∙ ap (λ b. if b then make u else u) here)) within

table-stays : (entry : Entry) (state : State) (t : ResourceTable) → is_about_tables t.address.dataset entry ≡ false
    → Contains state.tables t → Contains (changed_by entry state).tables t
table-stays (PutTable head) state t other m =
    upserted-Contains_other table_cmp (table_of head (rows_at head.address state.tables)) t state.tables m
    (elsewhere head.address t other)
table-stays (DropTable address) state t other m =
    dropped-Contains (at_address address) t state.tables m (elsewhere address t other)
table-stays (PutRow address row) state t other m = made-stays address (with_row row) t state.tables other m
table-stays (DropRow address id) state t other m = made-stays address (without_row id) t state.tables other m
table-stays (PutOrg org) state t other m = m
table-stays (DropOrg name) state t other m = m
table-stays (PutRole role) state t other m = m
table-stays (DropRole org user) state t other m = m
table-stays (PutDataset d) state t other m = m
table-stays (EditDataset id edit) state t other m = m
table-stays (DropDataset id) state t other m = m
table-stays (OfSources e) state t other m = m

table-stood : (entry : Entry) (state : State) (t : ResourceTable) → is_about_tables t.address.dataset entry ≡ false
    → Contains (changed_by entry state).tables t → Contains state.tables t
table-stood (PutTable head) state t other m =
    by (Contains-upserted table_cmp (table_of head (rows_at head.address state.tables)) t state.tables m)
  where
    by : (t ≡ table_of head (rows_at head.address state.tables))
        ⊎ (Contains state.tables t
        × (is_eq (table_cmp t (table_of head (rows_at head.address state.tables))) ≡ false))
        → Contains state.tables t
    by (inl is) =
        let same : bytes_eq t.address.dataset head.address.dataset ≡ true =
        (bytes_eq-Decides t.address.dataset head.address.dataset).1 (ap (λ (u : ResourceTable). u.address.dataset) is) in
        absurd (cc)
    by (inr was) = was.0
table-stood (DropTable address) state t other m = (Contains-dropped (at_address address) t state.tables m).0
table-stood (PutRow address row) state t other m =
    made-stood address (with_row row) (λ u. refl) t state.tables other m
table-stood (DropRow address id) state t other m =
    made-stood address (without_row id) (λ u. refl) t state.tables other m
table-stood (PutOrg org) state t other m = m
table-stood (DropOrg name) state t other m = m
table-stood (PutRole role) state t other m = m
table-stood (DropRole org user) state t other m = m
table-stood (PutDataset d) state t other m = m
table-stood (EditDataset id edit) state t other m = m
table-stood (DropDataset id) state t other m = m
table-stood (OfSources e) state t other m = m

-- ---- roles

-- The entry is about the role of that user in that organization.
abbrev is_about_role : Membership → Entry → Bool
is_about_role m (PutRole role) = bytes_eq m.org role.org && bytes_eq m.user role.user
is_about_role m (DropRole org user) = bytes_eq m.org org && bytes_eq m.user user
is_about_role m entry = false

role-stays : (entry : Entry) (state : State) (m : Membership) → is_about_role m entry ≡ false
    → Contains state.people.roles m → Contains (changed_by entry state).people.roles m
role-stays (PutRole role) state m other within =
    upserted-Contains_other membership_cmp role m state.people.roles within (is_eq-membership_cmp m role ∙ other)
role-stays (DropRole org user) state m other within =
    dropped-Contains (pair_at org user) m state.people.roles within
    (is_eq-membership_cmp m (record { org = org; user = user; role = Member }) ∙ other)
role-stays (PutOrg org) state m other within = within
role-stays (DropOrg name) state m other within = within
role-stays (PutDataset d) state m other within = within
role-stays (EditDataset id edit) state m other within = within
role-stays (DropDataset id) state m other within = within
role-stays (PutTable head) state m other within = within
role-stays (DropTable address) state m other within = within
role-stays (PutRow address row) state m other within = within
role-stays (DropRow address id) state m other within = within
role-stays (OfSources e) state m other within = within

role-stood : (entry : Entry) (state : State) (m : Membership) → is_about_role m entry ≡ false
    → Contains (changed_by entry state).people.roles m → Contains state.people.roles m
role-stood (PutRole role) state m other within = by (Contains-upserted membership_cmp role m state.people.roles within)
  where
    by : (m ≡ role) ⊎ (Contains state.people.roles m × (is_eq (membership_cmp m role) ≡ false))
        → Contains state.people.roles m
    by (inl is) =
        let about : (bytes_eq m.org role.org && bytes_eq m.user role.user) ≡ true =
        rw (
          (bytes_eq-Decides m.org role.org).1 (ap (λ (r : Membership). r.org) is),
          (bytes_eq-Decides m.user role.user).1 (ap (λ (r : Membership). r.user) is),
        ) refl in
        absurd (cc)
    by (inr was) = was.0
role-stood (DropRole org user) state m other within = (Contains-dropped (pair_at org user) m state.people.roles within).0
role-stood (PutOrg org) state m other within = within
role-stood (DropOrg name) state m other within = within
role-stood (PutDataset d) state m other within = within
role-stood (EditDataset id edit) state m other within = within
role-stood (DropDataset id) state m other within = within
role-stood (PutTable head) state m other within = within
role-stood (DropTable address) state m other within = within
role-stood (PutRow address row) state m other within = within
role-stood (DropRow address id) state m other within = within
role-stood (OfSources e) state m other within = within

-- ---- sources

-- The entry is about the source of that name.
abbrev is_about_source : List ℕ → Entry → Bool
is_about_source name (OfSources e) = bytes_eq name (source_of_entry e)
is_about_source name entry = false

-- What is made of another source leaves a source where it is,
other-stays : (name : List ℕ) (f : SourceState → SourceState) (s : SourceState) (sources : List SourceState)
    → bytes_eq s.source.name name ≡ false → Contains sources s → Contains (with_source_at name f sources) s
other-stays name f s sources other m =
    map-stays (λ t. if bytes_eq t.source.name name then f t else t) s sources
    (ap (λ b. if b then f s else s) other) m

-- and brings none in its place.
other-stood : (name : List ℕ) (f : SourceState → SourceState) → ((t : SourceState) → (f t).source ≡ t.source)
    → (s : SourceState) (sources : List SourceState) → bytes_eq s.source.name name ≡ false
    → Contains (with_source_at name f sources) s → Contains sources s
other-stood name f keeps s sources other m =
    let z = map-was (λ t. if bytes_eq t.source.name name then f t else t) s sources m in
    by z.0 z.1 z.2 (bytes_eq z.0.source.name name) refl
  where
    by : (t : SourceState) → Contains sources t → s ≡ (if bytes_eq t.source.name name then f t else t) → (b : Bool)
        → bytes_eq t.source.name name ≡ b → Contains sources s
    by t within is true named =
        let same : s.source ≡ t.source =
        ap (λ (u : SourceState). u.source) (is ∙ ap (λ b. if b then f t else t) named) ∙ keeps t in
        let about : bytes_eq s.source.name name ≡ true =
        ap (λ (u : HarvestSource). bytes_eq u.name name) same ∙ named in
        absurd (cc)
    by t within is false named = subst (Contains sources) (sym (is ∙ ap (λ b. if b then f t else t) named)) within

put-stays : (source : HarvestSource) (s : SourceState) (sources : List SourceState)
    → bytes_eq s.source.name source.name ≡ false → Contains sources s
    → Contains (sources_changed_by (PutSource source) sources) s
put-stays source s sources other m =
    let old : Option SourceState = found (source_at source.name) sources in
    upserted-Contains_other source_cmp (with_jobs_of source old) s sources m
    (ap (λ (u : HarvestSource). is_eq (source_at u.name s)) (name-of_put source old)
    ∙ is_eq-slice_cmp s.source.name source.name ∙ other)

put-stood : (source : HarvestSource) (s : SourceState) (sources : List SourceState)
    → bytes_eq s.source.name source.name ≡ false
    → Contains (sources_changed_by (PutSource source) sources) s → Contains sources s
put-stood source s sources other m = by (Contains-upserted source_cmp new s sources m)
  where
    old : Option SourceState
    old = found (source_at source.name) sources

    new : SourceState
    new = with_jobs_of source old

    by : (s ≡ new) ⊎ (Contains sources s × (is_eq (source_cmp s new) ≡ false)) → Contains sources s
    by (inl is) =
        let about : bytes_eq s.source.name source.name ≡ true =
        (bytes_eq-Decides s.source.name source.name).1
        (ap (λ (u : HarvestSource). u.name) (ap (λ (t : SourceState). t.source) is ∙ name-of_put source old)) in
        absurd (cc)
    by (inr was) = was.0

source_entry-stays : (entry : SourceEntry) (sources : List SourceState) (s : SourceState)
    → bytes_eq s.source.name (source_of_entry entry) ≡ false → Contains sources s
    → Contains (sources_changed_by entry sources) s
source_entry-stays (PutSource source) sources s other m = put-stays source s sources other m
source_entry-stays (DropSource name) sources s other m =
    dropped-Contains (source_at name) s sources m (is_eq-slice_cmp s.source.name name ∙ other)
source_entry-stays (PutJob job) sources s other m = other-stays job.source (with_job job) s sources other m
source_entry-stays (DropJob name number) sources s other m = other-stays name (without_job number) s sources other m
source_entry-stays (PutListing name listing) sources s other m = other-stays name (with_listing listing) s sources other m

source_entry-stood : (entry : SourceEntry) (sources : List SourceState) (s : SourceState)
    → bytes_eq s.source.name (source_of_entry entry) ≡ false → Contains (sources_changed_by entry sources) s
    → Contains sources s
source_entry-stood (PutSource source) sources s other m = put-stood source s sources other m
source_entry-stood (DropSource name) sources s other m = (Contains-dropped (source_at name) s sources m).0
source_entry-stood (PutJob job) sources s other m =
    other-stood job.source (with_job job) (λ t. refl) s sources other m
source_entry-stood (DropJob name number) sources s other m =
    other-stood name (without_job number) (λ t. refl) s sources other m
source_entry-stood (PutListing name listing) sources s other m =
    other-stood name (with_listing listing) (λ t. refl) s sources other m

source-stays : (entry : Entry) (state : State) (s : SourceState) → is_about_source s.source.name entry ≡ false
    → Contains state.sources s → Contains (changed_by entry state).sources s
source-stays (OfSources e) state s other m = source_entry-stays e state.sources s other m
source-stays (PutOrg org) state s other m = m
source-stays (DropOrg name) state s other m = m
source-stays (PutRole role) state s other m = m
source-stays (DropRole org user) state s other m = m
source-stays (PutDataset d) state s other m = m
source-stays (EditDataset id edit) state s other m = m
source-stays (DropDataset id) state s other m = m
source-stays (PutTable head) state s other m = m
source-stays (DropTable address) state s other m = m
source-stays (PutRow address row) state s other m = m
source-stays (DropRow address id) state s other m = m

source-stood : (entry : Entry) (state : State) (s : SourceState) → is_about_source s.source.name entry ≡ false
    → Contains (changed_by entry state).sources s → Contains state.sources s
source-stood (OfSources e) state s other m = source_entry-stood e state.sources s other m
source-stood (PutOrg org) state s other m = m
source-stood (DropOrg name) state s other m = m
source-stood (PutRole role) state s other m = m
source-stood (DropRole org user) state s other m = m
source-stood (PutDataset d) state s other m = m
source-stood (EditDataset id edit) state s other m = m
source-stood (DropDataset id) state s other m = m
source-stood (PutTable head) state s other m = m
source-stood (DropTable address) state s other m = m
source-stood (PutRow address row) state s other m = m
source-stood (DropRow address id) state s other m = m

-- ---- all entries

-- What each entry leaves where it isn't about it, all of them leave.
stays-through : {X : Type 0} (items : State → List X) (is_about : X → Entry → Bool)
    → ((entry : Entry) (state : State) (x : X) → is_about x entry ≡ false → Contains (items state) x
    → Contains (items (changed_by entry state)) x)
    → (entries : List Entry) (state : State) (x : X) → ((entry : Entry) → IsIn entry entries → is_about x entry ≡ false)
    → Contains (items state) x → Contains (items (state_after entries state)) x
stays-through items is_about each [] state x others m = m
stays-through items is_about each (entry ∷ entries) state x others m =
    stays-through items is_about each entries (changed_by entry state) x (λ e within. others e (inr within))
    (each entry state x (others entry (inl refl)) m)

stood-through : {X : Type 0} (items : State → List X) (is_about : X → Entry → Bool)
    → ((entry : Entry) (state : State) (x : X) → is_about x entry ≡ false
    → Contains (items (changed_by entry state)) x → Contains (items state) x)
    → (entries : List Entry) (state : State) (x : X) → ((entry : Entry) → IsIn entry entries → is_about x entry ≡ false)
    → Contains (items (state_after entries state)) x → Contains (items state) x
stood-through items is_about each [] state x others m = m
stood-through items is_about each (entry ∷ entries) state x others m =
    each entry state x (others entry (inl refl))
    (stood-through items is_about each entries (changed_by entry state) x (λ e within. others e (inr within)) m)

users-same : (entries : List Entry) (state : State) → (state_after entries state).people.users ≡ state.people.users
users-same [] state = refl
users-same (entry ∷ entries) state = users-same entries (changed_by entry state) ∙ same entry
  where
    same : (entry : Entry) → (changed_by entry state).people.users ≡ state.people.users
    same (PutOrg org) = refl
    same (DropOrg name) = refl
    same (PutRole role) = refl
    same (DropRole org user) = refl
    same (PutDataset d) = refl
    same (EditDataset id edit) = refl
    same (DropDataset id) = refl
    same (PutTable head) = refl
    same (DropTable address) = refl
    same (PutRow address row) = refl
    same (DropRow address id) = refl
    same (OfSources e) = refl

-- No entry of an organization is unseen.
orgs-same : (caller : Caller) (there : State) (entries : List Entry) (state : State)
    → ((entry : Entry) → IsIn entry entries → IsEntryUnseen caller there entry)
    → (state_after entries state).people.orgs ≡ state.people.orgs
orgs-same caller there [] state unseen = refl
orgs-same caller there (entry ∷ entries) state unseen =
    orgs-same caller there entries (changed_by entry state) (λ e within. unseen e (inr within))
    ∙ same entry (unseen entry (inl refl))
  where
    same : (entry : Entry) → IsEntryUnseen caller there entry → (changed_by entry state).people.orgs ≡ state.people.orgs
    same (PutOrg org) never = absurd never
    same (DropOrg name) never = absurd never
    same (PutRole role) is = refl
    same (DropRole org user) is = refl
    same (PutDataset d) is = refl
    same (EditDataset id edit) is = refl
    same (DropDataset id) is = refl
    same (PutTable head) is = refl
    same (DropTable address) is = refl
    same (PutRow address row) is = refl
    same (DropRow address id) is = refl
    same (OfSources e) is = refl

-- ---- what is seen is named by no unseen entry

other-id : (caller : Caller) (state : State) (id : List ℕ) → IsIdUnseen caller state id → (d : Package)
    → Contains state.datasets d → sees_in state.people caller d ≡ true → bytes_eq d.id id ≡ false
other-id caller state id unseen d within seen =
    not_true (bytes_eq d.id id)
    (λ is. let not_seen : sees_in state.people caller d ≡ false = unseen d within ((bytes_eq-Decides d.id id).0 is) in cc)

unnamed-dataset : (caller : Caller) (state : State) (d : Package) → Contains state.datasets d
    → sees_in state.people caller d ≡ true → (entry : Entry) → IsEntryUnseen caller state entry
    → is_about_dataset d.id entry ≡ false
unnamed-dataset caller state d within seen (PutDataset e) unseen = other-id caller state e.id unseen d within seen
unnamed-dataset caller state d within seen (EditDataset id edit) unseen = other-id caller state id unseen d within seen
unnamed-dataset caller state d within seen (DropDataset id) unseen = other-id caller state id unseen d within seen
unnamed-dataset caller state d within seen (PutOrg org) unseen = refl
unnamed-dataset caller state d within seen (DropOrg name) unseen = refl
unnamed-dataset caller state d within seen (PutRole role) unseen = refl
unnamed-dataset caller state d within seen (DropRole org user) unseen = refl
unnamed-dataset caller state d within seen (PutTable head) unseen = refl
unnamed-dataset caller state d within seen (DropTable address) unseen = refl
unnamed-dataset caller state d within seen (PutRow address row) unseen = refl
unnamed-dataset caller state d within seen (DropRow address id) unseen = refl
unnamed-dataset caller state d within seen (OfSources e) unseen = refl

-- A table that is seen is of a dataset that is seen.
other-tables : (caller : Caller) (state : State) (id : List ℕ) → IsIdUnseen caller state id → (t : ResourceTable)
    → is_table_seen caller state t ≡ true → bytes_eq t.address.dataset id ≡ false
other-tables caller state id unseen t seen =
    let d = any-is (λ (d : Package). bytes_eq t.address.dataset d.id)
    (filter (sees_in state.people caller) state.datasets) seen in
    let was = IsIn-filter (sees_in state.people caller) d.0 state.datasets d.1 in
    ap (λ (other : List ℕ). bytes_eq other id) ((bytes_eq-Decides t.address.dataset d.0.id).0 d.2)
    ∙ other-id caller state id unseen d.0 (Contains-IsIn d.0 state.datasets was.0) was.1

unnamed-table : (caller : Caller) (state : State) (t : ResourceTable) → is_table_seen caller state t ≡ true
    → (entry : Entry) → IsEntryUnseen caller state entry → is_about_tables t.address.dataset entry ≡ false
unnamed-table caller state t seen (PutTable head) unseen =
    other-tables caller state head.address.dataset unseen t seen
unnamed-table caller state t seen (DropTable address) unseen = other-tables caller state address.dataset unseen t seen
unnamed-table caller state t seen (PutRow address row) unseen = other-tables caller state address.dataset unseen t seen
unnamed-table caller state t seen (DropRow address id) unseen = other-tables caller state address.dataset unseen t seen
unnamed-table caller state t seen (PutOrg org) unseen = refl
unnamed-table caller state t seen (DropOrg name) unseen = refl
unnamed-table caller state t seen (PutRole role) unseen = refl
unnamed-table caller state t seen (DropRole org user) unseen = refl
unnamed-table caller state t seen (PutDataset d) unseen = refl
unnamed-table caller state t seen (EditDataset id edit) unseen = refl
unnamed-table caller state t seen (DropDataset id) unseen = refl
unnamed-table caller state t seen (OfSources e) unseen = refl

either : (a b : Bool) → a ≡ false → b ≡ false → (a || b) ≡ false
either a b is_a is_b = rw (is_a, is_b) refl

other-role : (caller : Caller) (people : PeopleLists) (org user : List ℕ) → IsRoleUnseen caller people org user
    → (m : Membership) → is_role_seen people caller m ≡ true → (bytes_eq m.org org && bytes_eq m.user user) ≡ false
other-role caller people org user unseen m seen = by (bytes_eq m.org org) refl (bytes_eq m.user user) refl
  where
    by : (a : Bool) → bytes_eq m.org org ≡ a → (b : Bool) → bytes_eq m.user user ≡ b → (a && b) ≡ false
    by false is b also = refl
    by true is false also = refl
    by true is true also =
        let hidden : is_role_seen people caller m ≡ false =
        rw ((bytes_eq-Decides m.org org).0 is, (bytes_eq-Decides m.user user).0 also)
        (either (administers people caller org) (is_called caller user) unseen.elsewhere unseen.others) in
        absurd (cc)

unnamed-role : (caller : Caller) (state : State) (m : Membership) → is_role_seen state.people caller m ≡ true
    → (entry : Entry) → IsEntryUnseen caller state entry → is_about_role m entry ≡ false
unnamed-role caller state m seen (PutRole role) unseen =
    other-role caller state.people role.org role.user unseen m seen
unnamed-role caller state m seen (DropRole org user) unseen = other-role caller state.people org user unseen m seen
unnamed-role caller state m seen (PutOrg org) unseen = refl
unnamed-role caller state m seen (DropOrg name) unseen = refl
unnamed-role caller state m seen (PutDataset d) unseen = refl
unnamed-role caller state m seen (EditDataset id edit) unseen = refl
unnamed-role caller state m seen (DropDataset id) unseen = refl
unnamed-role caller state m seen (PutTable head) unseen = refl
unnamed-role caller state m seen (DropTable address) unseen = refl
unnamed-role caller state m seen (PutRow address row) unseen = refl
unnamed-role caller state m seen (DropRow address id) unseen = refl
unnamed-role caller state m seen (OfSources e) unseen = refl

unnamed-source : (caller : Caller) (state : State) (s : SourceState) → Contains state.sources s
    → sees_source state.people caller s ≡ true → (entry : Entry) → IsEntryUnseen caller state entry
    → is_about_source s.source.name entry ≡ false
unnamed-source caller state s within seen (OfSources e) unseen =
    not_true (bytes_eq s.source.name (source_of_entry e))
    (λ is. let not_seen : sees_source state.people caller s ≡ false =
    unseen s within ((bytes_eq-Decides s.source.name (source_of_entry e)).0 is) in cc)
unnamed-source caller state s within seen (PutOrg org) unseen = refl
unnamed-source caller state s within seen (DropOrg name) unseen = refl
unnamed-source caller state s within seen (PutRole role) unseen = refl
unnamed-source caller state s within seen (DropRole org user) unseen = refl
unnamed-source caller state s within seen (PutDataset d) unseen = refl
unnamed-source caller state s within seen (EditDataset id edit) unseen = refl
unnamed-source caller state s within seen (DropDataset id) unseen = refl
unnamed-source caller state s within seen (PutTable head) unseen = refl
unnamed-source caller state s within seen (DropTable address) unseen = refl
unnamed-source caller state s within seen (PutRow address row) unseen = refl
unnamed-source caller state s within seen (DropRow address id) unseen = refl

-- ---- unseen entries

pub unseen-between : (caller : Caller) (state : State) (entries : List Entry) → AreUnseen caller state entries
    → IsHiddenBetween caller state (state_after entries state)
unseen-between caller state entries unseen = record {
  users = subst (IsHiddenChange is_kept is_kept state.people.users) (sym (users-same entries state))
      (hidden-none is_kept is_kept state.people.users);
  orgs = subst (IsHiddenChange is_kept is_kept state.people.orgs) (sym (orgs-same caller state entries state before))
      (hidden-none is_kept is_kept state.people.orgs);
  roles = record {
    stays = λ m within kept. stays-through (λ s. s.people.roles) is_about_role role-stays entries state m
        (λ e is. unnamed-role caller state m kept e (before e is)) within;
    stood = λ m within kept. stood-through (λ s. s.people.roles) is_about_role role-stood entries state m
        (λ e is. unnamed-role caller now m kept e (after e is)) within;
  };
  datasets = record {
    stays = λ d within kept. stays-through (λ s. s.datasets) (λ d e. is_about_dataset d.id e) dataset-stays entries state d
        (λ e is. unnamed-dataset caller state d within kept e (before e is)) within;
    stood = λ d within kept. stood-through (λ s. s.datasets) (λ d e. is_about_dataset d.id e) dataset-stood entries state d
        (λ e is. unnamed-dataset caller now d within kept e (after e is)) within;
  };
  tables = record {
    stays = λ t within kept. stays-through (λ s. s.tables) (λ t e. is_about_tables t.address.dataset e) table-stays
        entries state t (λ e is. unnamed-table caller state t kept e (before e is)) within;
    stood = λ t within kept. stood-through (λ s. s.tables) (λ t e. is_about_tables t.address.dataset e) table-stood
        entries state t (λ e is. unnamed-table caller now t kept e (after e is)) within;
  };
  sources = record {
    stays = λ u within kept. stays-through (λ s. s.sources) (λ u e. is_about_source u.source.name e) source-stays
        entries state u (λ e is. unnamed-source caller state u within kept e (before e is)) within;
    stood = λ u within kept. stood-through (λ s. s.sources) (λ u e. is_about_source u.source.name e) source-stood
        entries state u (λ e is. unnamed-source caller now u within kept e (after e is)) within;
  };
  quota_used = subst (IsHiddenChange (is_own_quota caller) (is_own_quota caller) state.quota_used)
      (sym (state_after-quota entries state))
      (hidden-none (is_own_quota caller) (is_own_quota caller) state.quota_used);
}
  where
    now : State
    now = state_after entries state

    before : (entry : Entry) → IsIn entry entries → IsEntryUnseen caller state entry
    before = All-IsIn (IsEntryUnseen caller state) entries unseen.before

    after : (entry : Entry) → IsIn entry entries → IsEntryUnseen caller now entry
    after = All-IsIn (IsEntryUnseen caller now) entries unseen.after

-- ---- the change of another caller

applied-hidden : (caller : Caller) (call : Call) (change : Change) (state : State)
    → is_caller caller call.caller ≡ false → AreUnseen caller state change.entries
    → IsHiddenBetween caller state (applied (known_call state.people call) change state)
applied-hidden caller call change state others unseen = by (is_known state.people call.caller)
  where
    now : State
    now = state_after change.entries state

    by : (b : Bool) → IsHiddenBetween caller state (charged (if b then call.caller else Anonymous) call.size now)
    by true =
        charged-between caller call.caller call.size state now others (state_after-quota change.entries state)
        (unseen-between caller state change.entries unseen)
    by false = unseen-between caller state change.entries unseen

pub unseen-hidden : (caller : Caller) (state : State) (call : Call) (json : Json) (change : Change)
    → is_caller caller call.caller ≡ false
    → answer_in state (known_call state.people call) ≡ Accepted json change
    → AreUnseen caller state change.entries → IsHidden caller state (a_call call)
unseen-hidden caller state call json change others answers unseen = record {
  others = others;
  between =
      subst (λ (a : Answer Change). IsHiddenBetween caller state (outcome_of a (known_call state.people call) state).core)
      (sym answers) (by (find (is_in_use state) change.claims));
}
  where
    by : (claim : Option Claim) → IsHiddenBetween caller state
        (outcome_unless_in_use claim (known_call state.people call) json change state).core
    by None = applied-hidden caller call change state others unseen
    by (Some c) = unchanged-hidden caller state

-- ---- a step of a harvest

pub unseen-step : (caller : Caller) (state : State) (step : Step) → AreUnseen caller state (harvest_entries step state)
    → IsHidden caller state (a_step step)
unseen-step caller state step unseen = record {
  others = refl;
  between = unseen-between caller state (harvest_entries step state) unseen;
}

-- What is hidden from a caller leaves what the caller sees.
use Rattle.std.proofs.Common.{◌≡◌, ℕ, Bool, true, false, ◌||◌, List, map}
use Rattle.std.proofs.Common.{refl, sym, ap, ◌∙◌, subst, inl, inr, ◌⊎◌, ◌+◌}
use Rattle.std.specs.Prelude.{filter}
use Rattle.std.specs.Cmp.{IsTotalOrder}
use Rattle.std.specs.List.{Contains}
use Rattle.std.specs.Ordering.{is_eq}
use Rattle.std.specs.declared.cmp.Ordering.{Ordering}
use Rattle.std.proofs.lemmas.List.Elements.{filter_agree}
use Rattle.std.proofs.lemmas.Map.Text.{is_eq-slice_cmp}
use Rattle.std.proofs.lemmas.Slice.Eq.{bytes_eq-Decides}
use Rattle.portal_base.specs.declared.caller.Caller.{Caller}
use Rattle.portal_base.specs.declared.caller.Caller.TheVariants.{Anonymous, Named}
use Rattle.portal_base.specs.Ordered.{IsAscending, upserted}
use Rattle.portal_base.proofs.Filtered.{IsIn-filter, filter-IsIn, IsAscending-filter}
use Rattle.portal_base.proofs.Upserted.{Contains-upserted, upserted-Contains_other}
use Rattle.portal_base.proofs.Unique.{IsIn-Contains, Contains-IsIn, unique}
use Rattle.org_roles.specs.Order.{user_cmp, org_cmp, membership_cmp}
use Rattle.org_roles.specs.Order.{user_cmp_total, org_cmp_total, membership_cmp_total}
use Rattle.org_roles.specs.PeopleLists.{PeopleLists, AreSorted}
use Rattle.org_roles.specs.declared.entry.Membership.{Membership}
use Rattle.org_roles.specs.declared.entry.User.{User}
use Rattle.org_roles.specs.declared.entry.Org.{Org}
use Rattle.packages.specs.Order.{dataset_cmp, dataset_cmp_total}
use Rattle.packages.specs.declared.package.Package.{Package}
use Rattle.datastore_answers.specs.Order.{table_cmp, table_cmp_total}
use Rattle.datastore_answers.specs.Tables.{is_table_among}
use Rattle.datastore_answers.specs.declared.resource_table.ResourceTable.{ResourceTable}
use Rattle.harvest_answers.specs.View.{sees_source, sources_seen, without_listing}
use Rattle.harvest_sources.specs.Sources.{SourceState, source_cmp, source_cmp_total}
use Rattle.visibility.specs.View.{is_called, user_seen, administers, is_role_seen, people_seen}
use Rattle.visibility.specs.Visibility.{sees_in}
use Rattle.portal_state.specs.Changed.{charged}
use Rattle.portal_core.specs.Hidden.{IsHiddenBetween, IsHiddenChange, is_caller, is_kept}
use Rattle.portal_state.specs.State.{State, accepted_bytes_of_user, quota_used_cmp, quota_used_cmp_total}
use Rattle.portal_state.specs.Valid.{IsValid}
use Rattle.portal_state.specs.View.{is_own_quota, is_table_seen, view_of}
use Rattle.portal_state.specs.declared.quota.QuotaUsed.{QuotaUsed}
use Rattle.portal_state.proofs.Changing.{HasSameRights, administers-rights, caller_role-own, is_role_seen-rights, is_sysadmin_in-users}
use Rattle.portal_state.proofs.Changing.{same_state, sees_in-rights, stated}

-- ---- lists

-- Of two lists in order between which the change is hidden the same is kept.
filter-hidden : {X : Type 0} (cmp : X → X → Ordering) (o : IsTotalOrder cmp) (p q : X → Bool) (xs ys : List X)
    → ((x : X) → p x ≡ q x)
    → IsAscending cmp xs → IsAscending cmp ys → IsHiddenChange p q xs ys → filter p xs ≡ filter q ys
filter-hidden cmp o p q xs ys same up_x up_y hidden =
    unique cmp o (filter p xs) (filter p ys) (IsAscending-filter cmp p xs up_x) (IsAscending-filter cmp p ys up_y)
    (λ z m. let was = IsIn-filter p z xs m in
    filter-IsIn p z ys (IsIn-Contains z ys (hidden.stays z (Contains-IsIn z xs was.0) was.1)) was.1)
    (λ z m. let now = IsIn-filter p z ys m in
    filter-IsIn p z xs (IsIn-Contains z xs (hidden.stood z (Contains-IsIn z ys now.0) (sym (same z) ∙ now.1))) now.1)
    ∙ filter_agree p q same ys

-- where everything is kept a hidden change is none
same_list : {X : Type 0} (cmp : X → X → Ordering) (o : IsTotalOrder cmp) (xs ys : List X) → IsAscending cmp xs
    → IsAscending cmp ys
    → IsHiddenChange is_kept is_kept xs ys → xs ≡ ys
same_list cmp o xs ys up_x up_y hidden =
    unique cmp o xs ys up_x up_y
    (λ z m. IsIn-Contains z ys (hidden.stays z (Contains-IsIn z xs m) refl))
    (λ z m. IsIn-Contains z xs (hidden.stood z (Contains-IsIn z ys m) refl))

-- no change is hidden
pub hidden-none : {X : Type 0} (p q : X → Bool) (xs : List X) → IsHiddenChange p q xs xs
hidden-none p q xs = record { stays = λ x m k. m; stood = λ x m k. m }

-- an item that isn't kept is inserted, where what is like it wasn't kept
hidden-placed : {X : Type 0} (cmp : X → X → Ordering) (p q : X → Bool) (x : X) (xs : List X) → q x ≡ false
    → ((z : X) → Contains xs z → is_eq (cmp z x) ≡ true → p z ≡ false) → IsHiddenChange p q xs (upserted cmp x xs)
hidden-placed {X} cmp p q x xs unseen hides = record {
  stays = λ z m kept. upserted-Contains_other cmp x z xs m (apart z m kept (is_eq (cmp z x)) refl);
  stood = λ z m kept. by z (Contains-upserted cmp x z xs m) kept;
}
  where
    apart : (z : X) → Contains xs z → p z ≡ true → (b : Bool) → is_eq (cmp z x) ≡ b → is_eq (cmp z x) ≡ false
    apart z m kept true is = let not_kept : p z ≡ false = hides z m is in absurd (cc)
    apart z m kept false is = is

    by : (z : X) → (z ≡ x) ⊎ (Contains xs z × (is_eq (cmp z x) ≡ false)) → q z ≡ true → Contains xs z
    by z (inl is) kept = let not_kept : q z ≡ false = ap q is ∙ unseen in absurd (cc)
    by z (inr was) kept = was.0

-- ---- roles

or_true : (a b : Bool) → b ≡ true → (a || b) ≡ true
or_true true b is = refl
or_true false b is = is

-- the caller's own roles are kept, so none of them changes
own_roles : (caller : Caller) (p q : PeopleLists)
    → IsHiddenChange (is_role_seen p caller) (is_role_seen q caller) p.roles q.roles
    → IsHiddenChange (λ m. is_called caller m.user) (λ m. is_called caller m.user) p.roles q.roles
own_roles caller p q hidden = record {
  stays = λ m was own. hidden.stays m was (or_true (administers p caller m.org) (is_called caller m.user) own);
  stood = λ m now own. hidden.stood m now (or_true (administers q caller m.org) (is_called caller m.user) own);
}

-- ---- the people

same_rights : (caller : Caller) (s t : State) → AreSorted s.people → AreSorted t.people → IsHiddenBetween caller s t
    → HasSameRights caller s.people t.people
same_rights caller s t in_s in_t hidden = (
  is_sysadmin_in-users caller s.people t.people
      (same_list user_cmp user_cmp_total s.people.users t.people.users in_s.users in_t.users hidden.users),
  caller_role-own caller s.people t.people
      (filter-hidden membership_cmp membership_cmp_total (λ m. is_called caller m.user)
      (λ m. is_called caller m.user) s.people.roles t.people.roles (λ m. refl) in_s.roles in_t.roles
      (own_roles caller s.people t.people hidden.roles)),
)

abbrev peopled : List User → List Org → List Membership → PeopleLists
peopled users orgs roles = record { users = users; orgs = orgs; roles = roles }

same_people : {us vs : List User} {os ps : List Org} {ms ns : List Membership} → us ≡ vs → os ≡ ps → ms ≡ ns
    → peopled us os ms ≡ peopled vs ps ns
same_people users orgs roles = rw (users, orgs, roles) refl

people_seen-hidden : (caller : Caller) (s t : State) → AreSorted s.people → AreSorted t.people
    → IsHiddenBetween caller s t
    → people_seen caller s.people ≡ people_seen caller t.people
people_seen-hidden caller s t in_s in_t hidden =
    let users : s.people.users ≡ t.people.users =
    same_list user_cmp user_cmp_total s.people.users t.people.users in_s.users in_t.users hidden.users in
    let orgs : s.people.orgs ≡ t.people.orgs = same_list org_cmp org_cmp_total s.people.orgs t.people.orgs in_s.orgs
    in_t.orgs hidden.orgs in
    let roles : filter (is_role_seen s.people caller) s.people.roles
    ≡ filter (is_role_seen t.people caller) t.people.roles =
    filter-hidden membership_cmp membership_cmp_total (is_role_seen s.people caller) (is_role_seen t.people caller)
    s.people.roles t.people.roles
    (is_role_seen-rights caller s.people t.people (same_rights caller s t in_s in_t hidden)) in_s.roles in_t.roles
    hidden.roles in
    same_people (ap (map (user_seen caller)) users) orgs roles

-- ---- the view

-- a caller sees the same of two valid states between which everything is hidden from it
pub view_of-hidden : (caller : Caller) (s t : State) → IsValid s → IsValid t → IsHiddenBetween caller s t
    → view_of caller s ≡ view_of caller t
view_of-hidden caller s t in_s in_t hidden =
    let same = same_rights caller s t in_s.people in_t.people hidden in
    let datasets : filter (sees_in s.people caller) s.datasets ≡ filter (sees_in t.people caller) t.datasets =
    filter-hidden dataset_cmp dataset_cmp_total (sees_in s.people caller) (sees_in t.people caller) s.datasets
    t.datasets (sees_in-rights caller s.people t.people same) in_s.datasets in_t.datasets hidden.datasets in
    let tables : filter (is_table_seen caller s) s.tables ≡ filter (is_table_seen caller t) t.tables =
    filter-hidden table_cmp table_cmp_total (is_table_seen caller s) (is_table_seen caller t) s.tables t.tables
    (λ u. ap (λ (ds : List Package). is_table_among ds u) datasets) in_s.tables.ascending in_t.tables.ascending
    hidden.tables in
    let sources : sources_seen caller s.people s.sources ≡ sources_seen caller t.people t.sources =
    ap (map without_listing)
    (filter-hidden source_cmp source_cmp_total (sees_source s.people caller) (sees_source t.people caller) s.sources
    t.sources (λ u. administers-rights caller s.people t.people same u.source.owner_org) in_s.sources.ascending
    in_t.sources.ascending hidden.sources) in
    let quota_used : filter (is_own_quota caller) s.quota_used ≡ filter (is_own_quota caller) t.quota_used =
    filter-hidden quota_used_cmp quota_used_cmp_total (is_own_quota caller) (is_own_quota caller) s.quota_used
    t.quota_used (λ e. refl)
    in_s.quota_used in_t.quota_used hidden.quota_used in
    same_state (people_seen-hidden caller s t in_s.people in_t.people hidden) datasets tables sources quota_used

-- ---- what is charged

other_user : (caller other : Caller) → is_caller caller other ≡ false → (user : List ℕ) → other ≡ Named user
    → is_called caller user ≡ false
other_user Anonymous other others user is = refl
other_user (Named name) other others user is = sym (ap (is_caller (Named name)) is) ∙ others

charged-hidden : (caller other : Caller) (size : ℕ) (state : State) → is_caller caller other ≡ false
    → IsHiddenChange (is_own_quota caller) (is_own_quota caller) state.quota_used (charged other size state).quota_used
charged-hidden caller Anonymous size state others = hidden-none (is_own_quota caller) (is_own_quota caller)
    state.quota_used
charged-hidden caller (Named user) size state others =
    let unseen : is_called caller user ≡ false = other_user caller (Named user) others user refl in
    let entry : QuotaUsed = record { user = user; bytes = accepted_bytes_of_user user state.quota_used + size } in
    hidden-placed quota_used_cmp (is_own_quota caller) (is_own_quota caller) entry state.quota_used unseen
    (λ z m like. ap (is_called caller) ((bytes_eq-Decides z.user user).0 (sym (is_eq-slice_cmp z.user user) ∙ like))
    ∙ unseen)

people-charged : (caller : Caller) (size : ℕ) (state : State) → (charged caller size state).people ≡ state.people
people-charged Anonymous size state = refl
people-charged (Named user) size state = refl

datasets-charged : (caller : Caller) (size : ℕ) (state : State)
    → (charged caller size state).datasets ≡ state.datasets
datasets-charged Anonymous size state = refl
datasets-charged (Named user) size state = refl

tables-charged : (caller : Caller) (size : ℕ) (state : State) → (charged caller size state).tables ≡ state.tables
tables-charged Anonymous size state = refl
tables-charged (Named user) size state = refl

sources-charged : (caller : Caller) (size : ℕ) (state : State) → (charged caller size state).sources ≡ state.sources
sources-charged Anonymous size state = refl
sources-charged (Named user) size state = refl

quota_used-charged : (other : Caller) (size : ℕ) (s t : State) → s.quota_used ≡ t.quota_used
    → (charged other size s).quota_used ≡ (charged other size t).quota_used
quota_used-charged Anonymous size s t same = same
quota_used-charged (Named user) size s t same =
    ap (λ (own : List QuotaUsed). upserted quota_used_cmp (record
    { user = user; bytes = accepted_bytes_of_user user own + size }) own)
    same

-- nothing changes
pub unchanged-hidden : (caller : Caller) (state : State) → IsHiddenBetween caller state state
unchanged-hidden caller state = record {
  users = hidden-none is_kept is_kept state.people.users;
  orgs = hidden-none is_kept is_kept state.people.orgs;
  roles = hidden-none (is_role_seen state.people caller) (is_role_seen state.people caller) state.people.roles;
  datasets = hidden-none (sees_in state.people caller) (sees_in state.people caller) state.datasets;
  tables = hidden-none (is_table_seen caller state) (is_table_seen caller state) state.tables;
  sources = hidden-none (sees_source state.people caller) (sees_source state.people caller) state.sources;
  quota_used = hidden-none (is_own_quota caller) (is_own_quota caller) state.quota_used;
}

-- what is hidden between two states is hidden where something is charged to another caller in the second
pub charged-between : (caller other : Caller) (size : ℕ) (before now : State) → is_caller caller other ≡ false
    → now.quota_used ≡ before.quota_used → IsHiddenBetween caller before now
    → IsHiddenBetween caller before (charged other size now)
charged-between caller other size before now others left hidden =
    let after : State = charged other size now in
    let Between : PeopleLists → List Package → List ResourceTable → List SourceState → List QuotaUsed → Type 0 =
    λ people datasets tables sources quota_used.
    IsHiddenBetween caller before (stated people datasets tables sources quota_used) in
    let quota_used : IsHiddenChange (is_own_quota caller) (is_own_quota caller) before.quota_used after.quota_used =
    subst (IsHiddenChange (is_own_quota caller) (is_own_quota caller) before.quota_used)
    (quota_used-charged other size before now (sym left))
    (charged-hidden caller other size before others) in
    let there : Between now.people now.datasets now.tables now.sources after.quota_used = record {
      users = hidden.users;
      orgs = hidden.orgs;
      roles = hidden.roles;
      datasets = hidden.datasets;
      tables = hidden.tables;
      sources = hidden.sources;
      quota_used = quota_used;
    } in
    subst (λ (people : PeopleLists). Between people after.datasets after.tables after.sources after.quota_used)
    (sym (people-charged other size now))
    (subst (λ (datasets : List Package). Between now.people datasets after.tables after.sources after.quota_used)
    (sym (datasets-charged other size now))
    (subst (λ (tables : List ResourceTable). Between now.people now.datasets tables after.sources after.quota_used)
    (sym (tables-charged other size now))
    (subst (λ (sources : List SourceState). Between now.people now.datasets now.tables sources after.quota_used)
    (sym (sources-charged other size now)) there)))

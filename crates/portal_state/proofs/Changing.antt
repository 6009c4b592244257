-- What a caller sees of a state with a change is what it sees with the change made in what it sees.
use Rattle.std.proofs.Common.{◌≡◌, ℕ, Bool, true, false, not, ◌&&◌, ◌||◌, cond, List, [], map, Option, Some, None}
use Rattle.std.proofs.Common.{is_some, refl, sym, ap, ◌∙◌, ◌⊎◌, inl, inr, subst}
use Rattle.std.specs.Prelude.{filter, find}
use Rattle.std.specs.List.{list_any}
use Rattle.std.specs.Option.{option_map}
use Rattle.std.specs.Str.{bytes_eq}
use Rattle.std.specs.declared.cmp.Ordering.TheVariants.{Equal}
use Rattle.std.proofs.lemmas.List.Elements.{filter_agree}
use Rattle.portal_base.specs.declared.caller.Caller.{Caller}
use Rattle.portal_base.specs.declared.caller.Caller.TheVariants.{Anonymous, Named}
use Rattle.portal_base.specs.Ordered.{IsAscending, upserted, dropped}
use Rattle.portal_base.proofs.Filtered.{filter-IsIn, filter-filter, IsIn-filter}
use Rattle.portal_base.proofs.Upserted.{filter-dropped_hidden, filter-upserted_hidden, IsIn-dropped, IsIn-upserted}
use Rattle.portal_base.proofs.Unique.{IsIn}
use Rattle.org_roles.specs.Changed.{changed_people}
use Rattle.org_roles.specs.Order.{org_cmp, membership_cmp, membership_cmp_total}
use Rattle.org_roles.specs.Order.{org_at, membership_in_org_at, pair_at}
use Rattle.org_roles.proofs.ChangeLemmas.{users-changed}
use Rattle.std.proofs.lemmas.Map.Text.{is_eq-slice_cmp}
use Rattle.org_roles.specs.PeopleLists.{PeopleLists, is_sysadmin_in, role_in}
use Rattle.org_roles.specs.declared.change.OrgChange.{OrgChange}
use Rattle.org_roles.specs.declared.change.OrgChange.TheVariants.{Create, Patch, Remove, SetRole, DropRole}
use Rattle.org_roles.proofs.PeopleLemmas.{is_eq-membership_cmp}
use Rattle.org_roles.specs.declared.entry.Membership.{Membership}
use Rattle.org_roles.specs.declared.entry.Org.{Org}
use Rattle.org_roles.specs.declared.entry.User.{User}
use Rattle.org_roles.specs.declared.role.Role.TheVariants.{Member}
use Rattle.std.specs.Ordering.{is_eq}
use Rattle.std.proofs.lemmas.Slice.Eq.{bytes_eq-Decides}
use Rattle.packages.specs.Order.{dataset_cmp, dataset_cmp_total}
use Rattle.packages.specs.declared.package.Package.{Package}
use Rattle.visibility.specs.View.{is_called, user_seen, administers, is_role_seen, people_seen, datasets_seen}
use Rattle.visibility.specs.Visibility.{caller_role, sees_in, is_public_if_harvested}
use Rattle.visibility.proofs.ViewLemmas.{administers_seen, filter_twice, find-kept, called_by_name}
use Rattle.visibility.proofs.ViewLemmas.{datasets_seen_twice, is_sysadmin_in_seen, sees_in_seen, people_seen_twice}
use Rattle.visibility.proofs.VisibilityLemmas.{sees_in-own}
use Rattle.visibility.proofs.PublicLemmas.{admin_sees}
use Rattle.dataset_answers.specs.Changed.{changed_datasets, dataset_at_id}
use Rattle.dataset_answers.specs.declared.change.DatasetChange.{DatasetChange}
use Rattle.dataset_answers.specs.declared.change.DatasetChange.TheVariants as dataset
use Rattle.datastore_answers.specs.Changed.{changed_tables}
use Rattle.datastore_answers.specs.Order.{table_cmp}
use Rattle.datastore_answers.specs.Tables.{is_table_among, tables_seen}
use Rattle.datastore_answers.specs.declared.resource_table.ResourceTable.{ResourceTable}
use Rattle.harvest_answers.proofs.ViewLemmas.{sources_seen_twice}
use Rattle.harvest_answers.specs.View.{sees_source, sources_seen, without_listing}
use Rattle.harvest_results.specs.Effects.{is_of_source}
use Rattle.harvest_sources.specs.Entries.{changed_sources}
use Rattle.harvest_sources.specs.Sources.{SourceState, source_cmp, source_named}
use Rattle.harvest_sources.specs.declared.change.SourceChange.{SourceChange}
use Rattle.harvest_sources.specs.declared.change.SourceChange.TheVariants as source
use Rattle.portal_calls.specs.declared.call.Call.{Call}
use Rattle.visibility.specs.TableSummary.{is_among}
use Rattle.portal_state.proofs.Kept.{dropped-kept, filter-narrower, placed-kept}
use Rattle.portal_state.proofs.SourceViews.{IsOwnSources, changed_sources-seen, seen-narrower, unfaulted-there}
use Rattle.portal_state.proofs.TableViewing.{among-narrower, any-among, any-is, own-id, tables-kept}
use Rattle.portal_state.specs.Changed.{AreUnused, changed, datasets_left, tables_left}
use Rattle.portal_state.specs.Fit.{IsFit}
use Rattle.portal_state.specs.Planned.{PlannedChange, People, Datasets, Tables, Sources, claims_of}
use Rattle.portal_state.specs.State.{State}
use Rattle.portal_state.specs.View.{view_of, is_own_quota}
use Rattle.portal_state.specs.declared.change.Claim.{Claim}
use Rattle.portal_state.specs.declared.change.Claim.TheVariants.{SourceName}
use Rattle.portal_state.specs.declared.quota.QuotaUsed.{QuotaUsed}

-- ---- datasets

datasets-kept : (change : DatasetChange) (p q : Package → Bool) (datasets : List Package)
    → IsAscending dataset_cmp datasets → filter p (filter q datasets) ≡ filter p datasets
    → filter p (changed_datasets change (filter q datasets)) ≡ filter p (changed_datasets change datasets)
datasets-kept (dataset.Create d) p q datasets up same =
    placed-kept dataset_cmp dataset_cmp_total p q d datasets up same
datasets-kept (dataset.Replace d) p q datasets up same =
    placed-kept dataset_cmp dataset_cmp_total p q d datasets up same
datasets-kept (dataset.Remove id) p q datasets up same = dropped-kept p q (dataset_at_id id) datasets same

-- ---- roles

-- what a test keeps of the changed roles hangs on what it keeps of the roles
roles-kept : (change : OrgChange) (people : PeopleLists) (p q : Membership → Bool) → IsAscending membership_cmp people.roles
    → filter p (filter q people.roles) ≡ filter p people.roles
    → filter p (changed_people change (record people { roles = filter q people.roles })).roles
    ≡ filter p (changed_people change people).roles
roles-kept (Create org) people p q up same = same
roles-kept (Patch org) people p q up same = same
roles-kept (Remove name) people p q up same = dropped-kept p q (membership_in_org_at name) people.roles same
roles-kept (SetRole org user role) people p q up same =
    placed-kept membership_cmp membership_cmp_total p q (record { org = org; user = user; role = role }) people.roles up
    same
roles-kept (DropRole org user) people p q up same = dropped-kept p q (pair_at org user) people.roles same

-- the user's own roles
abbrev is_own : List ℕ → Membership → Bool
is_own user m = is_called (Named user) m.user

-- the role of the user in the organization is one of the user's own
own_found : (org user : List ℕ) (m : Membership)
    → ((bytes_eq m.org org && bytes_eq m.user user) && is_own user m) ≡ (bytes_eq m.org org && bytes_eq m.user user)
own_found org user m =
    by (bytes_eq m.org org) (bytes_eq m.user user) (bytes_eq user m.user) (called_by_name m.user user)
  where
    by : (o a b : Bool) → (a && b) ≡ a → ((o && a) && b) ≡ (o && a)
    by false a b own = refl
    by true a b own = own

-- people of whom the user's own roles are the same
own-role : (org user : List ℕ) (p q : PeopleLists) → filter (is_own user) p.roles ≡ filter (is_own user) q.roles
    → role_in p org user ≡ role_in q org user
own-role org user p q same =
    let test : Membership → Bool = λ m. bytes_eq m.org org && bytes_eq m.user user in
    ap (option_map (λ (m : Membership). m.role))
    (sym (find-kept test (is_own user) (own_found org user) p.roles)
    ∙ ap (find test) same ∙ find-kept test (is_own user) (own_found org user) q.roles)

-- ---- the caller's rights

-- what a caller's rights depend on is the same
abbrev pub HasSameRights : Caller → PeopleLists → PeopleLists → Type 0
HasSameRights caller p q =
    (is_sysadmin_in p caller ≡ is_sysadmin_in q caller)
    × ((org : List ℕ) → caller_role p caller org ≡ caller_role q caller org)

pub is_sysadmin_in-users : (caller : Caller) (p q : PeopleLists) → p.users ≡ q.users
    → is_sysadmin_in p caller ≡ is_sysadmin_in q caller
is_sysadmin_in-users Anonymous p q same = refl
is_sysadmin_in-users (Named user) p q same =
    ap (λ (users : List User). list_any (λ u. bytes_eq u.name user && u.sysadmin) users) same

-- the roles after a change hang on the roles alone
roles-left : (change : OrgChange) (p q : PeopleLists) → p.roles ≡ q.roles
    → (changed_people change p).roles ≡ (changed_people change q).roles
roles-left (Create org) p q same = same
roles-left (Patch org) p q same = same
roles-left (Remove name) p q same = ap (dropped (membership_in_org_at name)) same
roles-left (SetRole org user role) p q same =
    ap (upserted membership_cmp (record { org = org; user = user; role = role })) same
roles-left (DropRole org user) p q same = ap (dropped (pair_at org user)) same

-- and so do the organizations on the organizations
orgs-left : (change : OrgChange) (p q : PeopleLists) → p.orgs ≡ q.orgs
    → (changed_people change p).orgs ≡ (changed_people change q).orgs
orgs-left (Create org) p q same = ap (upserted org_cmp org) same
orgs-left (Patch org) p q same = ap (upserted org_cmp org) same
orgs-left (Remove name) p q same = ap (dropped (org_at name)) same
orgs-left (SetRole org user role) p q same = same
orgs-left (DropRole org user) p q same = same

or_right : (a b : Bool) → b ≡ true → (a || b) ≡ true
or_right true b is = refl
or_right false b is = is

or_left : (a b : Bool) → a ≡ true → (a || b) ≡ true
or_left a b is = ap (λ c. c || b) is

-- the caller's own roles are seen
own-kept : (caller : Caller) (people : PeopleLists)
    → filter (λ m. is_called caller m.user) (filter (is_role_seen people caller) people.roles)
    ≡ filter (λ m. is_called caller m.user) people.roles
own-kept caller people =
    filter-narrower (λ m. is_called caller m.user) (is_role_seen people caller) people.roles
    (λ m within own. or_right (administers people caller m.org) (is_called caller m.user) own)

pub caller_role-own : (caller : Caller) (p q : PeopleLists)
    → filter (λ m. is_called caller m.user) p.roles ≡ filter (λ m. is_called caller m.user) q.roles
    → (org : List ℕ) → caller_role p caller org ≡ caller_role q caller org
caller_role-own Anonymous p q same org = refl
caller_role-own (Named user) p q same org = own-role org user p q same

-- what a test keeps of the roles after a change of what the caller sees
seen-roles_kept : (change : OrgChange) (caller : Caller) (people : PeopleLists) (p : Membership → Bool)
    → IsAscending membership_cmp people.roles
    → filter p (filter (is_role_seen people caller) people.roles) ≡ filter p people.roles
    → filter p (changed_people change (people_seen caller people)).roles ≡ filter p (changed_people change people).roles
seen-roles_kept change caller people p up same =
    ap (filter p)
    (roles-left change (people_seen caller people)
    (record people { roles = filter (is_role_seen people caller) people.roles }) refl)
    ∙ roles-kept change people p (is_role_seen people caller) up same

pub changed-rights : (change : OrgChange) (caller : Caller) (people : PeopleLists)
    → IsAscending membership_cmp people.roles
    → HasSameRights caller (changed_people change (people_seen caller people)) (changed_people change people)
changed-rights change caller people up = (
  is_sysadmin_in-users caller (changed_people change (people_seen caller people)) (people_seen caller people)
      (users-changed change (people_seen caller people))
      ∙ is_sysadmin_in_seen caller people
      ∙ is_sysadmin_in-users caller people (changed_people change people) (sym (users-changed change people)),
  caller_role-own caller (changed_people change (people_seen caller people)) (changed_people change people)
      (seen-roles_kept change caller people (λ m. is_called caller m.user) up (own-kept caller people)),
)

-- ---- what a caller of the own organization doesn't gain by a change of its roles

-- A caller changes roles only in an organization that it administers.
abbrev pub IsOwnChange : Caller → PeopleLists → OrgChange → Type 0
IsOwnChange caller people (Create org) = Unit {0}
IsOwnChange caller people (Patch org) = Unit {0}
IsOwnChange caller people (Remove name) = administers people caller name ≡ true
IsOwnChange caller people (SetRole org user role) = administers people caller org ≡ true
IsOwnChange caller people (DropRole org user) = administers people caller org ≡ true

both : (a b : Bool) → (a && b) ≡ true → (a ≡ true) × (b ≡ true)
both true b is = (refl, is)
both false b is = absurd (cc)

-- items like a role are in its organization
like-org : (m n : Membership) → membership_cmp m n ≡ Equal → bytes_eq m.org n.org ≡ true
like-org m n like =
    (both (bytes_eq m.org n.org) (bytes_eq m.user n.user) (sym (is_eq-membership_cmp m n) ∙ ap is_eq like)).0

-- in another organization the role stays
other-like : (org : List ℕ) (m n : Membership) → bytes_eq n.org org ≡ false → membership_cmp m n ≡ Equal
    → bytes_eq m.org org ≡ false
other-like org m n other like =
    ap (λ (o : List ℕ). bytes_eq o org) ((bytes_eq-Decides m.org n.org).0 (like-org m n like)) ∙ other

-- the role in an organization is found among the roles in it
in-org : (org user : List ℕ) (m : Membership)
    → ((bytes_eq m.org org && bytes_eq m.user user) && bytes_eq m.org org)
    ≡ (bytes_eq m.org org && bytes_eq m.user user)
in-org org user m = by (bytes_eq m.org org) (bytes_eq m.user user)
  where
    by : (a b : Bool) → ((a && b) && a) ≡ (a && b)
    by false b = refl
    by true false = refl
    by true true = refl

org-role : (org user : List ℕ) (p q : PeopleLists)
    → filter (λ m. bytes_eq m.org org) p.roles ≡ filter (λ m. bytes_eq m.org org) q.roles
    → role_in p org user ≡ role_in q org user
org-role org user p q same =
    let test : Membership → Bool = λ m. bytes_eq m.org org && bytes_eq m.user user in
    ap (option_map (λ (m : Membership). m.role))
    (sym (find-kept test (λ m. bytes_eq m.org org) (in-org org user) p.roles)
    ∙ ap (find test) same ∙ find-kept test (λ m. bytes_eq m.org org) (in-org org user) q.roles)

org-caller_role : (caller : Caller) (org : List ℕ) (p q : PeopleLists)
    → filter (λ m. bytes_eq m.org org) p.roles ≡ filter (λ m. bytes_eq m.org org) q.roles
    → caller_role p caller org ≡ caller_role q caller org
org-caller_role Anonymous org p q same = refl
org-caller_role (Named user) org p q same = org-role org user p q same

-- a role in an organization of that name isn't in another
removed-other : (name org : List ℕ) → bytes_eq name org ≡ false → (m : Membership)
    → membership_in_org_at name m ≡ Equal → bytes_eq m.org org ≡ false
removed-other name org other m here =
    ap (λ (o : List ℕ). bytes_eq o org)
    ((bytes_eq-Decides m.org name).0 (sym (is_eq-slice_cmp m.org name) ∙ ap is_eq here)) ∙ other

turned : (a b : List ℕ) → bytes_eq a b ≡ false → bytes_eq b a ≡ false
turned a b other = by (bytes_eq b a) refl
  where
    by : (c : Bool) → bytes_eq b a ≡ c → c ≡ false
    by false is = refl
    by true is =
        let same : bytes_eq a b ≡ true = (bytes_eq-Decides a b).1 (sym ((bytes_eq-Decides b a).0 is)) in
        absurd (cc)

elsewhere : (change : OrgChange) (caller : Caller) (people : PeopleLists) → IsAscending membership_cmp people.roles
    → IsOwnChange caller people change → (org : List ℕ)
    → (caller_role (changed_people change people) caller org ≡ caller_role people caller org)
    ⊎ (administers people caller org ≡ true)
elsewhere (Create new) caller people up own org =
    inl (org-caller_role caller org (changed_people (Create new) people) people refl)
elsewhere (Patch new) caller people up own org =
    inl (org-caller_role caller org (changed_people (Patch new) people) people refl)
elsewhere (Remove name) caller people up own org = by (bytes_eq org name) refl
  where
    by : (b : Bool) → bytes_eq org name ≡ b
        → (caller_role (changed_people (Remove name) people) caller org ≡ caller_role people caller org)
        ⊎ (administers people caller org ≡ true)
    by true is = inr (ap (administers people caller) ((bytes_eq-Decides org name).0 is) ∙ own)
    by false is =
        inl (org-caller_role caller org (changed_people (Remove name) people) people
        (filter-dropped_hidden (λ (m : Membership). bytes_eq m.org org) (membership_in_org_at name) people.roles
        (λ m within here. removed-other name org (turned org name is) m here)))
elsewhere (SetRole name user role) caller people up own org = by (bytes_eq org name) refl
  where
    by : (b : Bool) → bytes_eq org name ≡ b
        → (caller_role (changed_people (SetRole name user role) people) caller org ≡ caller_role people caller org)
        ⊎ (administers people caller org ≡ true)
    by true is = inr (ap (administers people caller) ((bytes_eq-Decides org name).0 is) ∙ own)
    by false is =
        let new : Membership = record { org = name; user = user; role = role } in
        inl (org-caller_role caller org (changed_people (SetRole name user role) people) people
        (filter-upserted_hidden membership_cmp membership_cmp_total (λ (m : Membership). bytes_eq m.org org) new
        people.roles up (turned org name is) (λ m within like. other-like org m new (turned org name is) like)))
elsewhere (DropRole name user) caller people up own org = by (bytes_eq org name) refl
  where
    by : (b : Bool) → bytes_eq org name ≡ b
        → (caller_role (changed_people (DropRole name user) people) caller org ≡ caller_role people caller org)
        ⊎ (administers people caller org ≡ true)
    by true is = inr (ap (administers people caller) ((bytes_eq-Decides org name).0 is) ∙ own)
    by false is =
        let old : Membership = record { org = name; user = user; role = Member } in
        inl (org-caller_role caller org (changed_people (DropRole name user) people) people
        (filter-dropped_hidden (λ (m : Membership). bytes_eq m.org org) (pair_at name user) people.roles
        (λ m within like. other-like org m old (turned org name is) like)))

-- the caller is a sysadmin after a change exactly where it was one before
sysadmin-left : (change : OrgChange) (caller : Caller) (people : PeopleLists)
    → is_sysadmin_in (changed_people change people) caller ≡ is_sysadmin_in people caller
sysadmin-left change caller people =
    is_sysadmin_in-users caller (changed_people change people) people (users-changed change people)

-- no role comes into sight
role-narrower : (change : OrgChange) (caller : Caller) (people : PeopleLists) → IsAscending membership_cmp people.roles
    → IsOwnChange caller people change → (m : Membership)
    → is_role_seen (changed_people change people) caller m ≡ true → is_role_seen people caller m ≡ true
role-narrower change caller people up own m now = by (elsewhere change caller people up own m.org)
  where
    by : (caller_role (changed_people change people) caller m.org ≡ caller_role people caller m.org)
        ⊎ (administers people caller m.org ≡ true) → is_role_seen people caller m ≡ true
    by (inl same) =
        sym (ap (λ (b : Bool). b || is_called caller m.user)
        (rw (sysadmin-left change caller people, same) refl)) ∙ now
    by (inr admin) = or_left (administers people caller m.org) (is_called caller m.user) admin

-- no organization comes to be administered
administers-narrower : (change : OrgChange) (caller : Caller) (people : PeopleLists)
    → IsAscending membership_cmp people.roles → IsOwnChange caller people change → (org : List ℕ)
    → administers (changed_people change people) caller org ≡ true → administers people caller org ≡ true
administers-narrower change caller people up own org now = by (elsewhere change caller people up own org)
  where
    by : (caller_role (changed_people change people) caller org ≡ caller_role people caller org)
        ⊎ (administers people caller org ≡ true) → administers people caller org ≡ true
    by (inl same) =
        let left : administers (changed_people change people) caller org ≡ administers people caller org =
        rw (sysadmin-left change caller people, same) refl in
        sym left ∙ now
    by (inr admin) = admin

-- and no dataset
sight-narrower : (change : OrgChange) (caller : Caller) (people : PeopleLists) → IsAscending membership_cmp people.roles
    → IsOwnChange caller people change → (d : Package) → is_public_if_harvested d ≡ true
    → sees_in (changed_people change people) caller d ≡ true → sees_in people caller d ≡ true
sight-narrower change caller people up own d harvested now = by (elsewhere change caller people up own d.owner_org)
  where
    by : (caller_role (changed_people change people) caller d.owner_org ≡ caller_role people caller d.owner_org)
        ⊎ (administers people caller d.owner_org ≡ true) → sees_in people caller d ≡ true
    by (inl same) =
        sym (sees_in-own (changed_people change people) people caller d (sysadmin-left change caller people) same) ∙ now
    by (inr admin) = admin_sees people caller d admin harvested

-- ---- the view

pub is_role_seen-rights : (caller : Caller) (p q : PeopleLists) → HasSameRights caller p q → (m : Membership)
    → is_role_seen p caller m ≡ is_role_seen q caller m
is_role_seen-rights caller p q same m = rw (same.0, same.1 m.org) refl

pub sees_in-rights : (caller : Caller) (p q : PeopleLists) → HasSameRights caller p q → (d : Package)
    → sees_in p caller d ≡ sees_in q caller d
sees_in-rights caller p q same d = sees_in-own p q caller d same.0 (same.1 d.owner_org)

pub administers-rights : (caller : Caller) (p q : PeopleLists) → HasSameRights caller p q → (org : List ℕ)
    → administers p caller org ≡ administers q caller org
administers-rights caller p q same org = rw (same.0, same.1 org) refl

abbrev peopled : List User → List Org → List Membership → PeopleLists
peopled users orgs roles = record { users = users; orgs = orgs; roles = roles }

same_people : {us vs : List User} {os ps : List Org} {ms ns : List Membership} → us ≡ vs → os ≡ ps → ms ≡ ns
    → peopled us os ms ≡ peopled vs ps ns
same_people users orgs roles = rw (users, orgs, roles) refl

people-changed_seen : (change : OrgChange) (caller : Caller) (people : PeopleLists)
    → IsAscending membership_cmp people.roles → IsOwnChange caller people change
    → people_seen caller (changed_people change (people_seen caller people))
    ≡ people_seen caller (changed_people change people)
people-changed_seen change caller people up own =
    let v : PeopleLists = people_seen caller people in
    let rights = changed-rights change caller people up in
    same_people
    (ap (map (user_seen caller)) (users-changed change v)
    ∙ ap (λ (p : PeopleLists). p.users) (people_seen_twice caller people)
    ∙ sym (ap (map (user_seen caller)) (users-changed change people)))
    (orgs-left change v people refl)
    (filter_agree (is_role_seen (changed_people change v) caller) (is_role_seen (changed_people change people) caller)
    (is_role_seen-rights caller (changed_people change v) (changed_people change people) rights)
    (changed_people change v).roles
    ∙ seen-roles_kept change caller people (is_role_seen (changed_people change people) caller) up
    (filter-narrower (is_role_seen (changed_people change people) caller) (is_role_seen people caller) people.roles
    (λ m within now. role-narrower change caller people up own m now)))

datasets-changed_seen : (change : OrgChange) (caller : Caller) (people : PeopleLists) (datasets : List Package)
    → IsAscending membership_cmp people.roles → IsOwnChange caller people change
    → ((d : Package) → IsIn d datasets → is_public_if_harvested d ≡ true)
    → datasets_seen caller (changed_people change (people_seen caller people)) (datasets_seen caller people datasets)
    ≡ datasets_seen caller (changed_people change people) datasets
datasets-changed_seen change caller people datasets up own harvested =
    filter_agree (sees_in (changed_people change (people_seen caller people)) caller)
    (sees_in (changed_people change people) caller)
    (sees_in-rights caller (changed_people change (people_seen caller people)) (changed_people change people)
    (changed-rights change caller people up)) (datasets_seen caller people datasets)
    ∙ filter-narrower (sees_in (changed_people change people) caller) (sees_in people caller) datasets
    (λ d within now. sight-narrower change caller people up own d (harvested d within) now)

-- what the caller sees of the sources after a change of people
sources-changed_people : (change : OrgChange) (caller : Caller) (people : PeopleLists) (sources : List SourceState)
    → IsAscending membership_cmp people.roles → IsOwnChange caller people change
    → sources_seen caller (changed_people change (people_seen caller people)) (sources_seen caller people sources)
    ≡ sources_seen caller (changed_people change people) sources
sources-changed_people change caller people sources up own =
    ap (map without_listing)
    (filter_agree (sees_source (changed_people change (people_seen caller people)) caller)
    (sees_source (changed_people change people) caller)
    (λ s. administers-rights caller (changed_people change (people_seen caller people)) (changed_people change people)
    (changed-rights change caller people up) s.source.owner_org) (sources_seen caller people sources))
    ∙ seen-narrower (sees_source (changed_people change people) caller) (sees_source people caller) (λ s. refl)
    (λ s now. administers-narrower change caller people up own s.source.owner_org now) sources

-- no table is of a dataset of that id
abbrev pub HasNoTables : List ℕ → List ResourceTable → Type 0
HasNoTables id tables = (t : ResourceTable) → IsIn t tables → bytes_eq t.address.dataset id ≡ false

-- the caller sees a dataset of that id
abbrev pub IsIdSeen : Caller → State → List ℕ → Type 0
IsIdSeen caller state id =
    list_any (λ (e : Package). bytes_eq id e.id) (datasets_seen caller state.people state.datasets) ≡ true

abbrev pub IsOwnDatasets : Caller → State → DatasetChange → Type 0
IsOwnDatasets caller state (dataset.Create d) = HasNoTables d.id state.tables
IsOwnDatasets caller state (dataset.Replace d) = IsIdSeen caller state d.id
IsOwnDatasets caller state (dataset.Remove id) = Unit {0}

-- what the caller changes is its own to change
abbrev pub IsOwn : Caller → State → PlannedChange → Type 0
IsOwn caller state (People change) = IsOwnChange caller state.people change
IsOwn caller state (Datasets change) = IsOwnDatasets caller state change
IsOwn caller state (Tables change) = Unit {0}
IsOwn caller state (Sources change) = IsOwnSources caller state.people state.sources change

abbrev pub stated : PeopleLists → List Package → List ResourceTable → List SourceState → List QuotaUsed → State
stated people datasets tables sources quota_used = record {
  people = people;
  datasets = datasets;
  tables = tables;
  sources = sources;
  quota_used = quota_used;
}

pub same_state : {p q : PeopleLists} {ds es : List Package} {us vs : List ResourceTable} {hs is : List SourceState}
    {ss ts : List QuotaUsed} → p ≡ q → ds ≡ es → us ≡ vs → hs ≡ is → ss ≡ ts
    → stated p ds us hs ss ≡ stated q es vs is ts
same_state people datasets tables sources quota_used = rw (people, datasets, tables, sources, quota_used) refl

-- ---- tables

-- The tables that are seen after a change of people are among those that were seen.
people-tables : (change : OrgChange) (caller : Caller) (state : State)
    → IsAscending membership_cmp state.people.roles → IsOwnChange caller state.people change
    → ((d : Package) → IsIn d state.datasets → is_public_if_harvested d ≡ true)
    → tables_seen (datasets_seen caller (changed_people change (people_seen caller state.people))
    (datasets_seen caller state.people state.datasets))
    (tables_seen (datasets_seen caller state.people state.datasets) state.tables)
    ≡ tables_seen (datasets_seen caller (changed_people change state.people) state.datasets) state.tables
people-tables change caller state roles_up own harvested =
    let before : List Package = datasets_seen caller state.people state.datasets in
    let after : List Package = datasets_seen caller (changed_people change state.people) state.datasets in
    ap (λ (ds : List Package). tables_seen ds (tables_seen before state.tables))
    (datasets-changed_seen change caller state.people state.datasets roles_up own harvested)
    ∙ filter-narrower (is_table_among after) (is_table_among before) state.tables
    (λ t within now. among-narrower after before
    (λ d seen. let was = IsIn-filter (sees_in (changed_people change state.people) caller) d state.datasets seen in
    own-id d before
    (filter-IsIn (sees_in state.people caller) d state.datasets was.0
    (sight-narrower change caller state.people roles_up own d (harvested d was.0) was.1))) t now)

-- Where a dataset was inserted, a table that is seen now was seen, unless it is of that dataset and none of its id was
-- seen.
placed-among : (caller : Caller) (state : State) (d : Package) (t : ResourceTable)
    → is_table_among (datasets_seen caller state.people (upserted dataset_cmp d state.datasets)) t ≡ true
    → (bytes_eq t.address.dataset d.id ≡ false) ⊎ IsIdSeen caller state d.id
    → is_table_among (datasets_seen caller state.people state.datasets) t ≡ true
placed-among caller state d t now known =
    let here = any-is (λ (e : Package). bytes_eq t.address.dataset e.id)
    (datasets_seen caller state.people (upserted dataset_cmp d state.datasets)) now in
    let there = IsIn-filter (sees_in state.people caller) here.0 (upserted dataset_cmp d state.datasets) here.1 in
    by here.0 here.2 (IsIn-upserted dataset_cmp d here.0 state.datasets there.0) there.1 known
  where
    before : List Package
    before = datasets_seen caller state.people state.datasets

    by : (e : Package) → bytes_eq t.address.dataset e.id ≡ true
        → (e ≡ d) ⊎ (IsIn e state.datasets × (is_eq (dataset_cmp e d) ≡ false)) → sees_in state.people caller e ≡ true
        → (bytes_eq t.address.dataset d.id ≡ false) ⊎ IsIdSeen caller state d.id → is_table_among before t ≡ true
    by e own (inr was) sees k =
        any-among (λ (f : Package). bytes_eq t.address.dataset f.id) e before
        (filter-IsIn (sees_in state.people caller) e state.datasets was.0 sees) own
    by e own (inl is) sees (inl other) =
        let same : bytes_eq t.address.dataset d.id ≡ true =
        sym (ap (λ (f : Package). bytes_eq t.address.dataset f.id) is) ∙ own in
        absurd (cc)
    by e own (inl is) sees (inr seen) =
        let same : t.address.dataset ≡ d.id =
        (bytes_eq-Decides t.address.dataset e.id).0 own ∙ ap (λ (f : Package). f.id) is in
        subst (λ (id : List ℕ). list_any (λ (f : Package). bytes_eq id f.id) before ≡ true) (sym same) seen

-- What is seen of the tables that are left after a change of a dataset.
left-kept : (change : DatasetChange) (caller : Caller) (state : State) → IsOwnDatasets caller state change
    → tables_seen (datasets_seen caller state.people (changed_datasets change state.datasets))
    (tables_left change (tables_seen (datasets_seen caller state.people state.datasets) state.tables))
    ≡ tables_seen (datasets_seen caller state.people (changed_datasets change state.datasets))
    (tables_left change state.tables)
left-kept (dataset.Create d) caller state own =
    let before : List Package = datasets_seen caller state.people state.datasets in
    let after : List Package = datasets_seen caller state.people (upserted dataset_cmp d state.datasets) in
    filter-narrower (is_table_among after) (is_table_among before) state.tables
    (λ t within now. placed-among caller state d t now (inl (own t within)))
left-kept (dataset.Replace d) caller state own =
    let before : List Package = datasets_seen caller state.people state.datasets in
    let after : List Package = datasets_seen caller state.people (upserted dataset_cmp d state.datasets) in
    let keeps : ResourceTable → Bool =
    λ t. not (bytes_eq t.address.dataset d.id) || is_among d.resources t.address.number in
    ap (filter (is_table_among after)) (filter-filter keeps (is_table_among before) state.tables)
    ∙ filter-narrower (is_table_among after) (is_table_among before) (filter keeps state.tables)
    (λ t within now. placed-among caller state d t now (inr own))
left-kept (dataset.Remove id) caller state own =
    let before : List Package = datasets_seen caller state.people state.datasets in
    let after : List Package = datasets_seen caller state.people (dropped (dataset_at_id id) state.datasets) in
    let keeps : ResourceTable → Bool =
    λ t. not (bytes_eq t.address.dataset id) || is_among [] t.address.number in
    ap (filter (is_table_among after)) (filter-filter keeps (is_table_among before) state.tables)
    ∙ filter-narrower (is_table_among after) (is_table_among before) (filter keeps state.tables)
    (λ t within now. among-narrower after before
    (λ e seen. let was = IsIn-filter (sees_in state.people caller) e (dropped (dataset_at_id id) state.datasets) seen in
    own-id e before
    (filter-IsIn (sees_in state.people caller) e state.datasets
    (IsIn-dropped (dataset_at_id id) e state.datasets was.0).0 was.1)) t now)

-- What is seen of the datasets that are left after a change of sources,
left-seen : (change : SourceChange) (caller : Caller) (people : PeopleLists) (datasets : List Package)
    → datasets_seen caller people (datasets_left change (datasets_seen caller people datasets))
    ≡ datasets_seen caller people (datasets_left change datasets)
left-seen (source.Create new) caller people datasets = filter_twice (sees_in people caller) datasets
left-seen (source.Update name title url) caller people datasets = filter_twice (sees_in people caller) datasets
left-seen (source.Remove name) caller people datasets =
    ap (filter (sees_in people caller))
    (filter-filter (λ d. not (is_of_source name d)) (sees_in people caller) datasets)
    ∙ filter_twice (sees_in people caller) (filter (λ d. not (is_of_source name d)) datasets)
left-seen (source.AddJob name created) caller people datasets = filter_twice (sees_in people caller) datasets

left-in : (change : SourceChange) (datasets : List Package) (d : Package) → IsIn d (datasets_left change datasets)
    → IsIn d datasets
left-in (source.Create new) datasets d m = m
left-in (source.Update name title url) datasets d m = m
left-in (source.Remove name) datasets d m = (IsIn-filter (λ e. not (is_of_source name e)) d datasets m).0
left-in (source.AddJob name created) datasets d m = m

-- and of their tables.
left-tables : (change : SourceChange) (caller : Caller) (state : State)
    → tables_seen (datasets_seen caller state.people (datasets_left change state.datasets))
    (tables_seen (datasets_seen caller state.people state.datasets) state.tables)
    ≡ tables_seen (datasets_seen caller state.people (datasets_left change state.datasets)) state.tables
left-tables change caller state =
    let before : List Package = datasets_seen caller state.people state.datasets in
    let after : List Package = datasets_seen caller state.people (datasets_left change state.datasets) in
    filter-narrower (is_table_among after) (is_table_among before) state.tables
    (λ t within now. among-narrower after before
    (λ e seen. let was = IsIn-filter (sees_in state.people caller) e (datasets_left change state.datasets) seen in
    own-id e before
    (filter-IsIn (sees_in state.people caller) e state.datasets (left-in change state.datasets e was.0) was.1)) t now)

pub changed-seen : (change : PlannedChange) (caller : Caller) (state : State)
    → IsAscending membership_cmp state.people.roles → IsAscending dataset_cmp state.datasets
    → IsAscending table_cmp state.tables → IsAscending source_cmp state.sources
    → ((d : Package) → IsIn d state.datasets → is_public_if_harvested d ≡ true) → IsOwn caller state change
    → view_of caller (changed change (view_of caller state)) ≡ view_of caller (changed change state)
changed-seen (People change) caller state roles_up up tables_up sources_up harvested own =
    same_state (people-changed_seen change caller state.people roles_up own)
    (datasets-changed_seen change caller state.people state.datasets roles_up own harvested)
    (people-tables change caller state roles_up own harvested)
    (sources-changed_people change caller state.people state.sources roles_up own)
    (filter_twice (is_own_quota caller) state.quota_used)
changed-seen (Datasets change) caller state roles_up up tables_up sources_up harvested own =
    let datasets = filter_agree (sees_in (people_seen caller state.people) caller) (sees_in state.people caller)
    (sees_in_seen caller state.people) (changed_datasets change (datasets_seen caller state.people state.datasets))
    ∙ datasets-kept change (sees_in state.people caller) (sees_in state.people caller) state.datasets up
    (filter_twice (sees_in state.people caller) state.datasets) in
    let before : List Package = datasets_seen caller state.people state.datasets in
    same_state (people_seen_twice caller state.people) datasets
    (ap (λ (ds : List Package). tables_seen ds (tables_left change (tables_seen before state.tables))) datasets
    ∙ left-kept change caller state own)
    (sources_seen_twice caller state.people state.sources)
    (filter_twice (is_own_quota caller) state.quota_used)
changed-seen (Tables change) caller state roles_up up tables_up sources_up harvested own =
    let before : List Package = datasets_seen caller state.people state.datasets in
    same_state (people_seen_twice caller state.people) (datasets_seen_twice caller state.people state.datasets)
    (ap (λ (ds : List Package). tables_seen ds (changed_tables change (tables_seen before state.tables)))
    (datasets_seen_twice caller state.people state.datasets)
    ∙ tables-kept change before state.tables tables_up)
    (sources_seen_twice caller state.people state.sources)
    (filter_twice (is_own_quota caller) state.quota_used)
changed-seen (Sources change) caller state roles_up up tables_up sources_up harvested own =
    let before : List Package = datasets_seen caller state.people state.datasets in
    let datasets = filter_agree (sees_in (people_seen caller state.people) caller) (sees_in state.people caller)
    (sees_in_seen caller state.people) (datasets_left change before)
    ∙ left-seen change caller state.people state.datasets in
    same_state (people_seen_twice caller state.people) datasets
    (ap (λ (ds : List Package). tables_seen ds (tables_seen before state.tables)) datasets
    ∙ left-tables change caller state)
    (ap (sources_seen caller (people_seen caller state.people))
    (sym (changed_sources-seen caller state.people state.sources change sources_up own))
    ∙ sources_seen_twice caller state.people (changed_sources change state.sources))
    (filter_twice (is_own_quota caller) state.quota_used)

-- ---- what is fit

-- A change of sources that is fit, and claims nothing in use, is the caller's own.
pub own-sources : (change : SourceChange) (call : Call) (state : State) → IsAscending source_cmp state.sources
    → IsFit call (view_of call.caller state) (Sources change) → AreUnused state (claims_of (Sources change))
    → IsOwnSources call.caller state.people state.sources change
own-sources (source.Create new) call state up fit unused = (
  sym (administers_seen call.caller state.people new.owner_org) ∙ fit.administered,
  by (source_named state.sources new.name) unused,
)
  where
    by : (o : Option SourceState) → cond {A = Option Claim} (is_some o) (Some (SourceName new.name)) None ≡ None → o ≡ None
    by None none = refl
    by (Some s) none = absurd (cc)
own-sources (source.Update name title url) call state up fit unused =
    unfaulted-there call.caller state.people state.sources name up fit.possible
own-sources (source.Remove name) call state up fit unused =
    unfaulted-there call.caller state.people state.sources name up fit.possible
own-sources (source.AddJob name created) call state up fit unused =
    unfaulted-there call.caller state.people state.sources name up fit.possible

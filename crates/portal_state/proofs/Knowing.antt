-- Callers whom a portal knows, and the view that nobody has.
use Rattle.std.proofs.Common.{◌≡◌, ℕ, Bool, true, false, not, ◌&&◌, ◌||◌, List, [], ◌∷◌, map, refl, sym, ap, ◌∙◌}
use Rattle.std.proofs.Common.{if◌then◌else◌}
use Rattle.std.specs.Prelude.{filter}
use Rattle.std.specs.List.{list_any}
use Rattle.std.specs.Str.{bytes_eq}
use Rattle.std.proofs.lemmas.List.Elements.{filter_agree}
use Rattle.portal_base.specs.declared.caller.Caller.{Caller}
use Rattle.portal_base.specs.declared.caller.Caller.TheVariants.{Anonymous, Named}
use Rattle.org_roles.specs.PeopleLists.{PeopleLists, is_sysadmin_in, is_user_in}
use Rattle.org_roles.specs.declared.entry.Membership.{Membership}
use Rattle.org_roles.specs.declared.entry.User.{User}
use Rattle.packages.specs.declared.package.Package.{Package}
use Rattle.packages.specs.declared.package.State.{State as DatasetState}
use Rattle.packages.specs.declared.package.State.TheVariants.{Draft, Active, Deleted}
use Rattle.packages.proofs.FindLemmas.{list_any-map}
use Rattle.datastore_answers.specs.Tables.{is_table_among, tables_seen}
use Rattle.datastore_answers.specs.declared.resource_table.ResourceTable.{ResourceTable}
use Rattle.portal_calls.specs.declared.call.Call.{Call}
use Rattle.visibility.proofs.VisibilityLemmas.{sees_in-own}
use Rattle.visibility.specs.View.{datasets_seen, is_role_seen, people_seen, user_seen}
use Rattle.visibility.specs.Visibility.{is_harvested, may_edit_in, sees_in, sees_private_in, sees_state_in}
use Rattle.portal_state.specs.Known.{is_known, known_call, known_caller}
use Rattle.portal_state.specs.State.{State}
use Rattle.portal_state.specs.View.{is_own_quota, view_of}
use Rattle.portal_state.specs.declared.quota.QuotaUsed.{QuotaUsed}
use Rattle.portal_state.proofs.Changing.{same_state}
use Rattle.portal_state.proofs.Disclosing.{names-same}
use Rattle.portal_state.proofs.DropLemmas.{filter-none}
use Rattle.portal_state.proofs.Kept.{filter-narrower}
use Rattle.portal_state.proofs.SourceViews.{no-sources}
use Rattle.portal_state.proofs.TableViewing.{among-narrower, own-id}
use Rattle.portal_base.proofs.Filtered.{IsIn-filter, filter-IsIn}

-- ---- the caller

-- the call, made by nobody
abbrev pub by_nobody : Call → Call
by_nobody call = record call { caller = Anonymous }

pub known-call : (people : PeopleLists) (call : Call) → is_known people call.caller ≡ true
    → known_call people call ≡ call
known-call people call is = ap (λ b. record call { caller = if b then call.caller else Anonymous }) is

pub unknown-call : (people : PeopleLists) (call : Call) → is_known people call.caller ≡ false
    → known_call people call ≡ by_nobody call
unknown-call people call is = ap (λ b. record call { caller = if b then call.caller else Anonymous }) is

-- Users are known by their names.
known-names : (user : List ℕ) (p q : PeopleLists)
    → map (λ (u : User). u.name) p.users ≡ map (λ (u : User). u.name) q.users → is_user_in p user ≡ is_user_in q user
known-names user p q same =
    sym (list_any-map (λ (u : User). u.name) (λ (name : List ℕ). bytes_eq name user) p.users)
    ∙ ap (list_any (λ (name : List ℕ). bytes_eq name user)) same
    ∙ list_any-map (λ (u : User). u.name) (λ (name : List ℕ). bytes_eq name user) q.users

view-names : (caller : Caller) (state : State)
    → map (λ (u : User). u.name) (view_of caller state).people.users ≡ map (λ (u : User). u.name) state.people.users
view-names caller state = names-same caller state.people.users

-- In states of which somebody has the same view the same callers are known.
pub known-alike : (viewer caller : Caller) (s t : State) → view_of viewer s ≡ view_of viewer t
    → is_known s.people caller ≡ is_known t.people caller
known-alike viewer Anonymous s t same = refl
known-alike viewer (Named user) s t same =
    known-names user s.people t.people
    (sym (view-names viewer s)
    ∙ ap (λ (v : State). map (λ (u : User). u.name) v.people.users) same
    ∙ view-names viewer t)

-- ---- what nobody sees

and_false : (b : Bool) → (b && false) ≡ false
and_false true = refl
and_false false = refl

unflagged : (a b : Bool) → ((a && b) && false) ≡ (a && false)
unflagged true b = and_false b
unflagged false b = refl

nobodys-users : (caller : Caller) (users : List User)
    → map (user_seen Anonymous) (map (user_seen caller) users) ≡ map (user_seen Anonymous) users
nobodys-users caller [] = refl
nobodys-users caller (u ∷ us) =
    ap (λ (flag : Bool). record u { sysadmin = flag } ∷ map (user_seen Anonymous) (map (user_seen caller) us))
    (unflagged u.sysadmin _)
    ∙ ap (λ (rest : List User). user_seen Anonymous u ∷ rest) (nobodys-users caller us)

no-roles : (people : PeopleLists) (roles : List Membership) → filter (is_role_seen people Anonymous) roles ≡ []
no-roles people roles = filter-none (is_role_seen people Anonymous) roles (λ m within. refl)

no-quota : (quota_used : List QuotaUsed) → filter (is_own_quota Anonymous) quota_used ≡ []
no-quota quota_used = filter-none (is_own_quota Anonymous) quota_used (λ q within. refl)

-- What nobody sees everybody sees.
or_true : (a b : Bool) → b ≡ true → (a || b) ≡ true
or_true true b is = refl
or_true false b is = is

or_left : (a b : Bool) → a ≡ true → (a || b) ≡ true
or_left a b is = ap (λ c. c || b) is

or_false : (a : Bool) → (a || false) ≡ true → a ≡ true
or_false true is = refl
or_false false is = is

-- Nobody's call edits nothing.
pub nobody_edits : (people : PeopleLists) (d : Package) → may_edit_in people Anonymous d ≡ true → ⊥
nobody_edits people d may =
    let never : (not (is_harvested d) && false) ≡ false = and_false (not (is_harvested d)) in cc

nobody_sees : (people others : PeopleLists) (caller : Caller) (d : Package) → sees_in others Anonymous d ≡ true
    → sees_in people caller d ≡ true
nobody_sees people others caller d sees = by d.state refl
  where
    own : (state : DatasetState) → d.state ≡ state → sees_state_in state others Anonymous d ≡ true
    own state is = sym (ap (λ (s : DatasetState). sees_state_in s others Anonymous d) is) ∙ sees

    seen : (state : DatasetState) → d.state ≡ state → sees_state_in state people caller d ≡ true
        → sees_in people caller d ≡ true
    seen state is can =
        or_true (is_sysadmin_in people caller) (sees_state_in d.state people caller d)
        (ap (λ (s : DatasetState). sees_state_in s people caller d) is ∙ can)

    by : (state : DatasetState) → d.state ≡ state → sees_in people caller d ≡ true
    by Active is =
        seen Active is (or_left (not d.private) (sees_private_in people caller d) (or_false (not d.private) (own Active is)))
    by Draft is = let never : may_edit_in others Anonymous d ≡ true = own Draft is in absurd (nobody_edits others d never)
    by Deleted is = let never : may_edit_in others Anonymous d ≡ true = own Deleted is in absurd (nobody_edits others d never)

nobodys-people : (caller : Caller) (people : PeopleLists)
    → people_seen Anonymous (people_seen caller people) ≡ people_seen Anonymous people
nobodys-people caller people =
    rw (
      nobodys-users caller people.users,
      no-roles (people_seen caller people) (people_seen caller people).roles ∙ sym (no-roles people people.roles),
    ) refl

nobodys-datasets : (caller : Caller) (people : PeopleLists) (datasets : List Package)
    → datasets_seen Anonymous (people_seen caller people) (datasets_seen caller people datasets)
    ≡ datasets_seen Anonymous people datasets
nobodys-datasets caller people datasets =
    filter_agree (sees_in (people_seen caller people) Anonymous) (sees_in people Anonymous)
    (λ d. sees_in-own (people_seen caller people) people Anonymous d refl refl) (datasets_seen caller people datasets)
    ∙ filter-narrower (sees_in people Anonymous) (sees_in people caller) datasets
    (λ d within sees. nobody_sees people people caller d sees)

nobodys-tables : (caller : Caller) (people : PeopleLists) (datasets : List Package) (tables : List ResourceTable)
    → tables_seen (datasets_seen Anonymous people datasets) (tables_seen (datasets_seen caller people datasets) tables)
    ≡ tables_seen (datasets_seen Anonymous people datasets) tables
nobodys-tables caller people datasets tables =
    filter-narrower (is_table_among (datasets_seen Anonymous people datasets))
    (is_table_among (datasets_seen caller people datasets)) tables
    (λ t within now. among-narrower (datasets_seen Anonymous people datasets) (datasets_seen caller people datasets)
    (λ d seen. let was = IsIn-filter (sees_in people Anonymous) d datasets seen in
    own-id d (datasets_seen caller people datasets)
    (filter-IsIn (sees_in people caller) d datasets was.0 (nobody_sees people people caller d was.1))) t now)

-- Nobody's view is in each caller's view.
pub nobodys-view : (caller : Caller) (state : State)
    → view_of Anonymous (view_of caller state) ≡ view_of Anonymous state
nobodys-view caller state =
    same_state (nobodys-people caller state.people) (nobodys-datasets caller state.people state.datasets)
    (ap (λ (ds : List Package). tables_seen ds (view_of caller state).tables)
    (nobodys-datasets caller state.people state.datasets)
    ∙ nobodys-tables caller state.people state.datasets state.tables)
    (no-sources (people_seen caller state.people) (view_of caller state).sources
    ∙ sym (no-sources state.people state.sources))
    (no-quota (view_of caller state).quota_used ∙ sym (no-quota state.quota_used))

-- ---- the caller as it is known

-- In states of which the caller has the same view the call is by the same caller,
pub calls-alike : (call : Call) (s t : State) → view_of call.caller s ≡ view_of call.caller t
    → known_call s.people call ≡ known_call t.people call
calls-alike call s t same =
    ap (λ b. record call { caller = if b then call.caller else Anonymous })
    (known-alike call.caller call.caller s t same)

-- who has the same view of both.
pub known-views_alike : (call : Call) (s t : State) → view_of call.caller s ≡ view_of call.caller t
    → view_of (known_caller s.people call.caller) s ≡ view_of (known_caller s.people call.caller) t
known-views_alike call s t same = by (is_known s.people call.caller)
  where
    by : (b : Bool) → view_of (if b then call.caller else Anonymous) s ≡ view_of (if b then call.caller else Anonymous) t
    by true = same
    by false =
        sym (nobodys-view call.caller s)
        ∙ ap (view_of Anonymous) same
        ∙ nobodys-view call.caller t

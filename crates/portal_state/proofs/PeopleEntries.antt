-- The entries of a change of organizations and roles make it.
use Rattle.std.proofs.Common.{◌≡◌, ℕ, Bool, true, false, not, ◌&&◌, List, [], ◌∷◌, map, refl, sym, ap, ◌∙◌}
use Rattle.std.specs.List.{list_any}
use Rattle.std.specs.Ordering.{is_eq}
use Rattle.std.specs.Str.{bytes_eq}
use Rattle.std.specs.declared.cmp.Ordering.{Ordering}
use Rattle.std.proofs.lemmas.Cmp.{tied_itself}
use Rattle.std.proofs.lemmas.Map.Text.{is_eq-slice_cmp}
use Rattle.std.proofs.lemmas.Slice.Eq.{bytes_eq-Decides}
use Rattle.portal_base.specs.Ordered.{dropped}
use Rattle.portal_base.proofs.Filtered.{IsIn-filter, filter-IsIn}
use Rattle.portal_base.proofs.Unique.{IsIn}
use Rattle.org_roles.specs.Order.{membership_cmp_total, membership_in_org_at, org_at, pair_at}
use Rattle.org_roles.specs.declared.change.OrgChange.{OrgChange}
use Rattle.org_roles.specs.declared.change.OrgChange.TheVariants as org
use Rattle.org_roles.specs.declared.entry.Membership.{Membership}
use Rattle.org_roles.proofs.PeopleLemmas.{is_eq-membership_cmp}
use Rattle.packages.proofs.FindLemmas.{none-list_any}
use Rattle.portal_state.specs.Planned.{People}
use Rattle.portal_state.specs.Changed.{changed}
use Rattle.portal_state.specs.State.{State}
use Rattle.portal_state.proofs.TableViewing.{any-among}
use Rattle.portal_state.specs.Entries.{DropOrg, changed_by, state_after}
use Rattle.portal_state.specs.EntriesOf.{drop_of_role, entries_of_people, roles_in}
use Rattle.portal_state.proofs.DropLemmas.{all_dropped, all_dropped-filter, filter-agree_in}
use Rattle.portal_state.proofs.StateLemmas.{state_after-++}

-- ---- roles that are dropped

-- the state with these roles
abbrev pub with_roles : List Membership → State → State
with_roles roles state = record state { people = record state.people { roles = roles } }

-- the order of a role against the organization and the user of this one
abbrev pub at_role : Membership → Membership → Ordering
at_role role other = pair_at role.org role.user other

pub state_after-roles : (gone : List Membership) (state : State)
    → state_after (map drop_of_role gone) state ≡ with_roles (all_dropped at_role gone state.people.roles) state
state_after-roles [] state = refl
state_after-roles (role ∷ gone) state = state_after-roles gone (changed_by (drop_of_role role) state)

-- To drop each role in an organization by its user is to drop all roles of the organization.
pub roles-dropped : (name : List ℕ) (roles : List Membership)
    → all_dropped at_role (roles_in name roles) roles ≡ dropped (membership_in_org_at name) roles
roles-dropped name roles =
    all_dropped-filter at_role (roles_in name roles) roles
    ∙ filter-agree_in (λ (r : Membership). not (list_any (λ m. is_eq (at_role m r)) (roles_in name roles)))
    (λ (r : Membership). not (is_eq (membership_in_org_at name r))) roles
    (λ r within. ap not (by r within (bytes_eq r.org name) refl ∙ sym (is_eq-slice_cmp r.org name)))
  where
    apart : (r m : Membership) → bytes_eq r.org name ≡ false → bytes_eq m.org name ≡ true → is_eq (at_role m r) ≡ false
    apart r m other own =
        is_eq-membership_cmp r m
        ∙ ap (λ (o : List ℕ). bytes_eq r.org o && bytes_eq r.user m.user) ((bytes_eq-Decides m.org name).0 own)
        ∙ ap (λ b. b && bytes_eq r.user m.user) other

    by : (r : Membership) → IsIn r roles → (b : Bool) → bytes_eq r.org name ≡ b
        → list_any (λ m. is_eq (at_role m r)) (roles_in name roles) ≡ bytes_eq r.org name
    by r within true is =
        any-among (λ m. is_eq (at_role m r)) r (roles_in name roles)
        (filter-IsIn (λ (m : Membership). bytes_eq m.org name) r roles within is)
        (ap is_eq (tied_itself membership_cmp_total r))
        ∙ sym is
    by r within false is =
        none-list_any (λ m. is_eq (at_role m r)) (roles_in name roles)
        (λ m among. apart r m is (IsIn-filter (λ (m : Membership). bytes_eq m.org name) m roles among).1)
        ∙ sym is

-- ---- changes of people

pub people-entries : (change : OrgChange) (state : State)
    → state_after (entries_of_people change state.people.roles) state ≡ changed (People change) state
people-entries (org.Create o) state = refl
people-entries (org.Patch o) state = refl
people-entries (org.Remove name) state =
    state_after-++ (map drop_of_role (roles_in name state.people.roles)) (DropOrg name ∷ []) state
    ∙ ap (changed_by (DropOrg name)) (state_after-roles (roles_in name state.people.roles) state)
    ∙ ap
    (λ (roles : List Membership). record state {
      people = record state.people { orgs = dropped (org_at name) state.people.orgs; roles = roles };
    })
    (roles-dropped name state.people.roles)
people-entries (org.SetRole name user role) state = refl
people-entries (org.DropRole name user) state = refl

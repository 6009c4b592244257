-- Rows of organizations are read back as they were written.
use Rattle.std.proofs.Common.{◌≡◌, ℕ, ℤ, true, ◌&&◌, List, [], ◌∷◌, map, refl, sym, ap, ◌∙◌, subst}
use Rattle.std.proofs.Common.{arith, codes}
use Rattle.std.specs.Prelude.{Option, Some, None, option_and_then, option_map}
use Rattle.std.specs.Cmp.Lexicographic.{slice_cmp}
use Rattle.std.specs.Ordering.{nat_cmp, ordering_then}
use Rattle.std.proofs.lemmas.Cmp.{nat_list_cmp_total, tied_itself}
use Rattle.org_roles.specs.Order.{membership_cmp}
use Rattle.org_roles.specs.declared.entry.Membership.{Membership}
use Rattle.org_roles.specs.declared.entry.Org.{Org}
use Rattle.org_roles.specs.declared.role.Role.{Role}
use Rattle.org_roles.specs.declared.role.Role.TheVariants.{Member, Editor, Admin}
use Rattle.portal_base.specs.Dictionary.{is_less, keys_ascend, precedes}
use Rattle.portal_base.specs.Json.{IsOrderly, IsReadable, MembersAreOrderly, Precedes, data_of, member_of, members_data}
use Rattle.portal_base.specs.Kinds.{dictionary_in, text_in}
use Rattle.portal_base.specs.Moment.{IsMoment}
use Rattle.portal_base.specs.MomentReading.{moment_reading}
use Rattle.portal_base.specs.MomentText.{moment_text}
use Rattle.portal_base.specs.Ordered.{IsAscending, IsBelowAll}
use Rattle.portal_base.specs.declared.json_value.Json as json
use Rattle.portal_base.specs.declared.json_value.Json.{Json}
use Rattle.portal_base.proofs.ReadingBack.{reading-moment_text, reading-only}
use Rattle.portal_rows.specs.OrgRows.{AreRolesIn, IsOrgWithRoles, org_value, role_member, role_name}
use Rattle.portal_rows.specs.Readings.{all_read, membership_reading, moment_member, org_from, org_reading}
use Rattle.portal_rows.specs.Readings.{org_with_roles_from, org_with_roles_reading, role_named, roles_reading, text_member}
use Rattle.portal_rows.specs.declared.org_reading.OrgWithRoles.{OrgWithRoles}
use Rattle.portal_rows.proofs.JsonLemmas.{EntriesAreWithin, dictionary_in-Map, entries_orderly, member_of-Map}
use Rattle.portal_rows.proofs.JsonLemmas.{member_orderly, readable, text_in-Text, text_member-Map, within-Map, within-Text}
use Rattle.portal_rows.proofs.ReadLemmas.{Each, all-each, all_read-back, and_then-some, each-all, first-some, map-some}

-- ---- roles in the order of their users

-- Memberships in one organization compare as their users do.
by_users : (m n : Membership) → m.org ≡ n.org → membership_cmp m n ≡ slice_cmp nat_cmp m.user n.user
by_users m n same =
    ap (λ r. ordering_then r (slice_cmp nat_cmp m.user n.user))
    (ap (slice_cmp nat_cmp m.org) (sym same) ∙ tied_itself nat_list_cmp_total m.org)

-- The users of memberships in order are the keys of a dictionary in order.
user_precedes : (name : List ℕ) (m : Membership) (ms : List Membership) → m.org ≡ name
    → Each (λ (n : Membership). n.org ≡ name) ms → IsBelowAll membership_cmp m ms
    → precedes m.user (map role_member ms) ≡ true
user_precedes name m [] own all below = refl
user_precedes name m (n ∷ ms) own all below =
    ap (λ r. is_less r && precedes m.user (map role_member ms)) (sym (by_users m n (own ∙ sym all.0)) ∙ below.0)
    ∙ user_precedes name m ms own all.1 below.1

users_ascend : (name : List ℕ) (ms : List Membership) → Each (λ (m : Membership). m.org ≡ name) ms
    → IsAscending membership_cmp ms → keys_ascend (map role_member ms) ≡ true
users_ascend name [] all up = refl
users_ascend name (m ∷ ms) all up =
    ap (λ b. b && keys_ascend (map role_member ms)) (user_precedes name m ms all.0 all.1 up.0)
    ∙ users_ascend name ms all.1 up.1

-- ---- the body can be read

roles_within : (ms : List Membership) → EntriesAreWithin 0 (map role_member ms)
roles_within [] = tt
roles_within (m ∷ ms) = (within-Text 0 (role_name m.role), roles_within ms)

pub org_value-readable : (kept : OrgWithRoles) → IsOrgWithRoles kept → IsReadable (org_value kept.org kept.roles)
org_value-readable kept is =
    let all = each-all (λ (m : Membership). m.org ≡ kept.org.name) kept.roles is.roles.own in
    readable 2 (org_value kept.org kept.roles) (omega arith)
    (within-Map 1 _ refl (
      within-Text 1 (moment_text kept.org.created),
      (
        within-Text 1 kept.org.description,
        (
          within-Map 0 (map role_member kept.roles) (users_ascend kept.org.name kept.roles all is.roles.ascending)
              (roles_within kept.roles),
          (within-Text 1 kept.org.title, tt),
        ),
      ),
    ))

-- ---- it is read back

role_named-back : (role : Role) → role_named (role_name role) ≡ Some role
role_named-back Member = refl
role_named-back Editor = refl
role_named-back Admin = refl

membership-back : (name : List ℕ) (m : Membership) → m.org ≡ name
    → membership_reading name (role_member m) ≡ Some m
membership-back name m own =
    ap (λ o. option_map (λ role. record { org = name; user = m.user; role = role }) (option_and_then role_named o))
    (text_in-Text (role_name m.role))
    ∙ ap (option_map (λ role. record { org = name; user = m.user; role = role })) (role_named-back m.role)
    ∙ ap (λ org. Some (record { org = org; user = m.user; role = m.role })) (sym own)

roles-back : (name : List ℕ) (org : Org) (ms : List Membership) → Each (λ (m : Membership). m.org ≡ name) ms
    → roles_reading name (org_value org ms) ≡ Some ms
roles-back name org ms all =
    ap (λ o. option_and_then (all_read (membership_reading name)) (option_and_then dictionary_in o))
    (member_of-Map (codes "roles") _ (json.Map (map role_member ms)) refl)
    ∙ ap (option_and_then (all_read (membership_reading name))) (dictionary_in-Map (map role_member ms))
    ∙ all_read-back (membership_reading name) role_member (λ (m : Membership). m.org ≡ name) (membership-back name) ms all

org-back : (org : Org) (ms : List Membership) → IsMoment org.created
    → org_reading org.name (org_value org ms) ≡ Some org
org-back org ms moment =
    let value = org_value org ms in
    let created : moment_member (codes "created") value ≡ Some org.created =
    ap (option_and_then moment_reading) (text_member-Map (codes "created") _ (moment_text org.created) refl)
    ∙ reading-moment_text org.created moment in
    let description : text_member (codes "description") value ≡ Some org.description =
    text_member-Map (codes "description") _ org.description refl in
    let title : text_member (codes "title") value ≡ Some org.title =
    text_member-Map (codes "title") _ org.title refl in
    ap (λ c. org_from org.name c (text_member (codes "description") value) (text_member (codes "title") value)) created
    ∙ ap (λ d. org_from org.name (Some org.created) d (text_member (codes "title") value)) description
    ∙ ap (org_from org.name (Some org.created) (Some org.description)) title

pub org_with_roles-back : (name : List ℕ) (kept : OrgWithRoles) → IsOrgWithRoles kept → kept.org.name ≡ name
    → org_with_roles_reading name (org_value kept.org kept.roles) ≡ Some kept
org_with_roles-back name kept is named =
    let value = org_value kept.org kept.roles in
    let all = each-all (λ (m : Membership). m.org ≡ kept.org.name) kept.roles is.roles.own in
    ap (λ n. org_with_roles_reading n value) (sym named)
    ∙ ap (λ o. org_with_roles_from o (roles_reading kept.org.name value)) (org-back kept.org kept.roles is.created)
    ∙ ap (org_with_roles_from (Some kept.org)) (roles-back kept.org.name kept.org kept.roles all)

-- ---- what is read is an organization with its roles

-- The memberships are those of the entries, in the organization of that name.
abbrev AreFrom : List ℕ → List (List ℕ × Json) → List Membership → Type 0
AreFrom name [] [] = Unit {0}
AreFrom name (entry ∷ entries) (m ∷ ms) = (m.org ≡ name) × (m.user ≡ entry.0) × AreFrom name entries ms
AreFrom name entries ms = ⊥

membership_from : (name : List ℕ) (entry : List ℕ × Json) (m : Membership) → membership_reading name entry ≡ Some m
    → (m.org ≡ name) × (m.user ≡ entry.0)
membership_from name entry m e =
    let read = map-some (λ role. record { org = name; user = entry.0; role = role })
    (option_and_then role_named (text_in entry.1)) m e in
    (ap (λ (x : Membership). x.org) (sym read.1.1), ap (λ (x : Membership). x.user) (sym read.1.1))

memberships_from : (name : List ℕ) (entries : List (List ℕ × Json)) (ms : List Membership)
    → all_read (membership_reading name) entries ≡ Some ms → AreFrom name entries ms
memberships_from name [] ms e = let none : [] ≡ ms = cc in subst (AreFrom name []) none tt
memberships_from name (entry ∷ entries) ms e =
    let parts = first-some (membership_reading name entry) (all_read (membership_reading name) entries) ms e in
    let first = membership_from name entry parts.0 parts.1.1.0 in
    subst (AreFrom name (entry ∷ entries)) parts.1.1.2
    (first.0, first.1, memberships_from name entries parts.1.0 parts.1.1.1)

below_users : (name : List ℕ) (m : Membership) (entries : List (List ℕ × Json)) (ms : List Membership)
    → m.org ≡ name → Precedes m.user (members_data entries) → AreFrom name entries ms → IsBelowAll membership_cmp m ms
below_users name m [] [] own first from = tt
below_users name m [] (n ∷ ms) own first from = absurd from
below_users name m (entry ∷ entries) [] own first from = absurd from
below_users name m (entry ∷ entries) (n ∷ ms) own first from = (
  by_users m n (own ∙ sym from.0) ∙ ap (slice_cmp nat_cmp m.user) from.1 ∙ first.0,
  below_users name m entries ms own first.1 from.2,
)

ascending_from : (name : List ℕ) (entries : List (List ℕ × Json)) (ms : List Membership)
    → MembersAreOrderly (members_data entries) → AreFrom name entries ms
    → Each (λ (m : Membership). m.org ≡ name) ms × IsAscending membership_cmp ms
ascending_from name [] [] orderly from = (tt, tt)
ascending_from name [] (m ∷ ms) orderly from = absurd from
ascending_from name (entry ∷ entries) [] orderly from = absurd from
ascending_from name (entry ∷ entries) (m ∷ ms) orderly from =
    let rest = ascending_from name entries ms orderly.2 from.2 in
    let first : Precedes m.user (members_data entries) =
    subst (λ (user : List ℕ). Precedes user (members_data entries)) (sym from.1) orderly.0 in
    ((from.0, rest.0), (below_users name m entries ms from.0 first from.2, rest.1))

roles_from : (name : List ℕ) (value : Json) (ms : List Membership) → IsOrderly (data_of value)
    → roles_reading name value ≡ Some ms → AreRolesIn name ms
roles_from name value ms orderly e =
    let read = and_then-some (all_read (membership_reading name))
    (option_and_then dictionary_in (member_of (codes "roles") value)) ms e in
    let found = and_then-some dictionary_in (member_of (codes "roles") value) read.0 read.1.0 in
    let inner = member_orderly (codes "roles") value found.0 orderly found.1.0 in
    let roles = ascending_from name read.0 ms (entries_orderly found.0 read.0 found.1.1 inner)
    (memberships_from name read.0 ms read.1.1) in
    record { own = all-each (λ (m : Membership). m.org ≡ name) ms roles.0; ascending = roles.1 }

org_is : (name : List ℕ) (created : Option ℤ) (description title : Option (List ℕ)) (org : Org)
    → org_from name created description title ≡ Some org → (org.name ≡ name) × (created ≡ Some org.created)
org_is name None description title org e = absurd (cc)
org_is name (Some created) None title org e = absurd (cc)
org_is name (Some created) (Some description) None org e = absurd (cc)
org_is name (Some created) (Some description) (Some title) org e =
    let made : Org = record { name = name; title = title; description = description; created = created } in
    let same : made ≡ org = cc in
    (ap (λ (o : Org). o.name) (sym same), ap (λ (o : Org). Some o.created) same)

created_from : (value : Json) (created : ℤ) → moment_member (codes "created") value ≡ Some created → IsMoment created
created_from value created e =
    let read = and_then-some moment_reading (text_member (codes "created") value) created e in
    (reading-only created read.0 read.1.1).0

parts_of : (o : Option Org) (r : Option (List Membership)) (kept : OrgWithRoles) → org_with_roles_from o r ≡ Some kept
    → (o ≡ Some kept.org) × (r ≡ Some kept.roles)
parts_of None r kept e = absurd (cc)
parts_of (Some org) None kept e = absurd (cc)
parts_of (Some org) (Some roles) kept e =
    let made : OrgWithRoles = record { org = org; roles = roles } in
    let same : made ≡ kept = cc in
    (ap (λ (k : OrgWithRoles). Some k.org) same, ap (λ (k : OrgWithRoles). Some k.roles) same)

pub org_with_roles_read : (name : List ℕ) (value : Json) (kept : OrgWithRoles) → IsReadable value
    → org_with_roles_reading name value ≡ Some kept → IsOrgWithRoles kept × (kept.org.name ≡ name)
org_with_roles_read name value kept well e =
    let parts = parts_of (org_reading name value) (roles_reading name value) kept e in
    let org = org_is name (moment_member (codes "created") value) (text_member (codes "description") value)
    (text_member (codes "title") value) kept.org parts.0 in (
      record {
        created = created_from value kept.org.created org.1;
        roles = subst (λ (n : List ℕ). AreRolesIn n kept.roles) (sym org.0)
            (roles_from name value kept.roles well.0 parts.1);
      },
      org.0,
    )

-- What a caller's view says of other users.
use Rattle.std.proofs.Common.{◌≡◌, inl, inr, ℕ, Bool, true, false, ◌&&◌, ◌||◌, List, [], ◌∷◌, map, filter, refl, sym, ap, ◌∙◌}
use Rattle.std.specs.List.{Contains}
use Rattle.portal_base.proofs.Filtered.{IsIn-filter}
use Rattle.portal_base.proofs.Unique.{IsIn, IsIn-Contains}
use Rattle.portal_base.specs.declared.caller.Caller.{Caller}
use Rattle.org_roles.specs.PeopleLists.{PeopleLists}
use Rattle.org_roles.specs.declared.entry.Membership.{Membership}
use Rattle.org_roles.specs.declared.entry.User.{User}
use Rattle.visibility.specs.View.{administers, is_called, is_role_seen, user_seen}

pub names-same : (caller : Caller) (users : List User)
    → map (λ (u : User). u.name) (map (user_seen caller) users) ≡ map (λ (u : User). u.name) users
names-same caller [] = refl
names-same caller (u ∷ us) = ap (λ (names : List (List ℕ)). u.name ∷ names) (names-same caller us)

and_false : (b : Bool) → (b && false) ≡ false
and_false true = refl
and_false false = refl

flag_in : (caller : Caller) (users : List User) (user : User) → IsIn user (map (user_seen caller) users)
    → is_called caller user.name ≡ false → user.sysadmin ≡ false
flag_in caller [] user seen other = absurd seen
flag_in caller (u ∷ us) user (inl is) other =
    let unnamed : is_called caller u.name ≡ false =
    sym (ap (λ (v : User). is_called caller v.name) is) ∙ other in
    ap (λ (v : User). v.sysadmin) is ∙ ap (λ (b : Bool). u.sysadmin && b) unnamed ∙ and_false u.sysadmin
flag_in caller (u ∷ us) user (inr seen) other = flag_in caller us user seen other

pub flag-hidden : (caller : Caller) (users : List User) (user : User) → Contains (map (user_seen caller) users) user
    → is_called caller user.name ≡ false → user.sysadmin ≡ false
flag-hidden caller users user seen = flag_in caller users user (IsIn-Contains user (map (user_seen caller) users) seen)

pub role-administered : (caller : Caller) (people : PeopleLists) (role : Membership)
    → Contains (filter (is_role_seen people caller) people.roles) role → is_called caller role.user ≡ false
    → administers people caller role.org ≡ true
role-administered caller people role seen other =
    by (administers people caller role.org) (sym (ap (λ (b : Bool). administers people caller role.org || b) other)
    ∙ (IsIn-filter (is_role_seen people caller) role people.roles
    (IsIn-Contains role (filter (is_role_seen people caller) people.roles) seen)).1)
  where
    by : (b : Bool) → (b || false) ≡ true → b ≡ true
    by true passes = refl
    by false passes = passes

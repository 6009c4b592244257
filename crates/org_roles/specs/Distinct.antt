-- Users and organizations with distinct names, and memberships with distinct pairs of organization and user.
use Rattle.std.specs.Prelude.{ℕ, Bool, true, not, ◌&&◌, List, [], ◌∷◌}
use Rattle.std.specs.List.{list_any}
use Rattle.std.specs.Str.{bytes_eq}
use Rattle.org_roles.specs.declared.entry.User.{User}
use Rattle.org_roles.specs.declared.entry.Org.{Org}
use Rattle.org_roles.specs.declared.entry.Membership.{Membership}

-- whether one of the users has that name
abbrev pub is_name_among : List User → List ℕ → Bool
is_name_among us name = list_any (λ u. bytes_eq u.name name) us

-- no user's name is that of a later user
abbrev pub have_distinct_names : List User → Bool
have_distinct_names [] = true
have_distinct_names (u ∷ us) = not (is_name_among us u.name) && have_distinct_names us

-- whether one of the organizations has that name
abbrev pub is_org_name_among : List Org → List ℕ → Bool
is_org_name_among os name = list_any (λ o. bytes_eq o.name name) os

-- no organization's name is that of a later organization
abbrev pub have_distinct_org_names : List Org → Bool
have_distinct_org_names [] = true
have_distinct_org_names (o ∷ os) = not (is_org_name_among os o.name) && have_distinct_org_names os

-- whether one of the memberships is of that user in that organization
abbrev pub is_pair_among : List Membership → List ℕ → List ℕ → Bool
is_pair_among ms org user = list_any (λ m. bytes_eq m.org org && bytes_eq m.user user) ms

-- no membership's pair of organization and user is that of a later membership
abbrev pub have_distinct_pairs : List Membership → Bool
have_distinct_pairs [] = true
have_distinct_pairs (m ∷ ms) = not (is_pair_among ms m.org m.user) && have_distinct_pairs ms

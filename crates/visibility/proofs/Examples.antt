-- Who sees and edits datasets of `city`, and the classes of these: ann edits there, bob is a member, cyn administers,
-- dan has no role, eve edits at `lake`, and root is a sysadmin.
use Rattle.std.proofs.Common.{◌≡◌, ℕ, Bool, true, false, List, [], ◌∷◌, refl}
use Rattle.std.specs.Prelude.{codes, map, pos}
use Rattle.portal_base.specs.declared.caller.Caller.{Caller}
use Rattle.portal_base.specs.declared.caller.Caller.TheVariants.{Anonymous, Named}
use Rattle.org_roles.specs.declared.entry.User.{User}
use Rattle.org_roles.specs.declared.entry.Membership.{Membership}
use Rattle.org_roles.specs.declared.role.Role.{Role}
use Rattle.org_roles.specs.declared.role.Role.TheVariants.{Member, Editor, Admin}
use Rattle.org_roles.specs.PeopleLists.{PeopleLists}
use Rattle.packages.specs.declared.package.Package.{Package}
use Rattle.packages.specs.declared.package.State.{State}
use Rattle.packages.specs.declared.package.State.TheVariants.{Draft, Active, Deleted}
use Rattle.packages.specs.Package.{fresh_package}
use Rattle.visibility.specs.declared.class.Class.TheVariants.{Public, Inside, Editing}
use Rattle.visibility.specs.Visibility.{may_edit_in, sees_in, class_for}

abbrev user : List ℕ → Bool → User
user name sysadmin = record { name = name; sysadmin = sysadmin }

abbrev member : List ℕ → List ℕ → Role → Membership
member org name role = record { org = org; user = name; role = role }

abbrev people : PeopleLists
people = record {
  users = user (codes "ann") false ∷ user (codes "bob") false ∷ user (codes "cyn") false ∷ user (codes "dan") false
      ∷ user (codes "eve") false ∷ user (codes "root") true ∷ [];
  orgs = [];
  roles = member (codes "city") (codes "ann") Editor ∷ member (codes "city") (codes "bob") Member
      ∷ member (codes "city") (codes "cyn") Admin ∷ member (codes "lake") (codes "eve") Editor ∷ [];
}

-- ann, bob, cyn, dan, eve, root and an anonymous caller
abbrev callers : List Caller
callers =
    Named (codes "ann") ∷ Named (codes "bob") ∷ Named (codes "cyn") ∷ Named (codes "dan") ∷ Named (codes "eve")
    ∷ Named (codes "root")
    ∷ Anonymous ∷ []

-- for each of the callers, whether it sees the dataset
abbrev viewers : Package → List Bool
viewers dataset = map (λ caller. sees_in people caller dataset) callers

-- for each of the callers, whether it may edit the dataset
abbrev editors : Package → List Bool
editors dataset = map (λ caller. may_edit_in people caller dataset) callers

-- a dataset of `city`
abbrev trees : List ℕ → State → Bool → Package
trees creator state private =
    record (fresh_package [] (codes "trees") [] (codes "city") creator (pos 0)) { state = state; private = private }

abbrev harvested : State → Package
harvested state = record (trees (codes "ann") state true) { source = codes "lake-catalogue" }

public_seen : viewers (trees (codes "ann") Active false) ≡ true ∷ true ∷ true ∷ true ∷ true ∷ true ∷ true ∷ []
public_seen = refl

private_seen : viewers (trees (codes "ann") Active true) ≡ true ∷ true ∷ true ∷ false ∷ false ∷ true ∷ false ∷ []
private_seen = refl

-- Neither bob, a member, nor dan sees a draft of ann's.
draft_seen : viewers (trees (codes "ann") Draft false) ≡ true ∷ false ∷ true ∷ false ∷ false ∷ true ∷ false ∷ []
draft_seen = refl

-- The creator sees a draft, even if it is only a member.
own_draft_seen : viewers (trees (codes "bob") Draft true) ≡ true ∷ true ∷ true ∷ false ∷ false ∷ true ∷ false ∷ []
own_draft_seen = refl

-- If a draft's creator is the empty name, an anonymous caller doesn't see the draft.
draft_of_nobody_seen : viewers (trees [] Draft false) ≡ true ∷ false ∷ true ∷ false ∷ false ∷ true ∷ false ∷ []
draft_of_nobody_seen = refl

-- The creator of a deleted dataset doesn't see it without the right to edit it.
deleted_seen : viewers (trees (codes "bob") Deleted false) ≡ true ∷ false ∷ true ∷ false ∷ false ∷ true ∷ false ∷ []
deleted_seen = refl

edited : editors (trees (codes "bob") Active false) ≡ true ∷ false ∷ true ∷ false ∷ false ∷ true ∷ false ∷ []
edited = refl

harvested_edited : editors (harvested Active) ≡ false ∷ false ∷ false ∷ false ∷ false ∷ false ∷ false ∷ []
harvested_edited = refl

-- Only root sees a harvested dataset that is deleted.
harvested_deleted_seen : viewers (harvested Deleted) ≡ false ∷ false ∷ false ∷ false ∷ false ∷ true ∷ false ∷ []
harvested_deleted_seen = refl

public_class : class_for (trees [] Active false) ≡ Public
public_class = refl

private_class : class_for (trees [] Active true) ≡ Inside (codes "city")
private_class = refl

draft_class : class_for (trees [] Draft false) ≡ Editing (codes "city")
draft_class = refl

deleted_class : class_for (trees [] Deleted true) ≡ Editing (codes "city")
deleted_class = refl

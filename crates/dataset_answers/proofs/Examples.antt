-- Worked examples: the key that names a dataset, the errors of an organization, who may create, and pages of names.
-- ann is an editor in `city`, bob is a member there, and dan is an editor in `lake`.
use Rattle.std.proofs.Common.{◌≡◌, ℕ, true, false, List, [], ◌∷◌, Some, None, refl, rules}
use Rattle.std.specs.Prelude.{codes, pos}
use Rattle.portal_base.specs.declared.caller.Caller.TheVariants.{Anonymous, Named}
use Rattle.portal_base.specs.declared.json_value.Json.{Json, the_lemmas}
use Rattle.portal_base.specs.declared.json_value.Json as json
use Rattle.org_roles.specs.PeopleLists.{PeopleLists}
use Rattle.org_roles.specs.declared.entry.Membership.{Membership}
use Rattle.org_roles.specs.declared.entry.Org.{Org}
use Rattle.org_roles.specs.declared.role.Role.{Role}
use Rattle.org_roles.specs.declared.role.Role.TheVariants.{Member, Editor}
use Rattle.packages.specs.Package.{fresh_package}
use Rattle.packages.specs.declared.package.Package.{Package}
use Rattle.dataset_answers.specs.Answers.{can_create_in, page_of}
use Rattle.dataset_answers.specs.Lookup.{naming_key}
use Rattle.dataset_answers.specs.Bodies.{organization_given, dataset_errors}

abbrev org : List ℕ → Org
org name = record { name = name; title = name; description = []; created = pos 0 }

abbrev member : List ℕ → List ℕ → Role → Membership
member at name role = record { org = at; user = name; role = role }

abbrev people : PeopleLists
people = record {
  users = [];
  orgs = org (codes "city") ∷ org (codes "lake") ∷ [];
  roles = member (codes "city") (codes "ann") Editor ∷ member (codes "city") (codes "bob") Member
      ∷ member (codes "lake") (codes "dan") Editor ∷ [];
}

abbrev trees : Package
trees = fresh_package (codes "1") (codes "trees") (codes "Trees") (codes "city") (codes "ann") (pos 0)

-- a body that gives this organization
abbrev owned_by : List ℕ → Json
owned_by name = json.Map ((codes "owner_org", json.Text name) ∷ [])

-- ---- the key that names a dataset

-- a null `id` is absent
by_name : naming_key (json.Map ((codes "id", json.Null) ∷ (codes "name", json.Text (codes "trees")) ∷ []))
    ≡ codes "name"
by_name = search (rules, the_lemmas)

by_id : naming_key (json.Map ((codes "id", json.Text (codes "1")) ∷ (codes "name", json.Text (codes "trees")) ∷ []))
    ≡ codes "id"
by_id = search (rules, the_lemmas)

by_nothing : naming_key (json.Map []) ≡ codes "id"
by_nothing = search (rules, the_lemmas)

-- ---- the organization of a dataset

-- an unknown organization precedes one that differs from the old one
unknown : dataset_errors people (owned_by (codes "sea")) (Some trees)
    ≡ (codes "owner_org", codes "Organization does not exist") ∷ []
unknown = search (rules, the_lemmas)

other : dataset_errors people (owned_by (codes "lake")) (Some trees)
    ≡ (codes "owner_org", codes "Organization cannot be changed") ∷ []
other = search (rules, the_lemmas)

own : dataset_errors people (owned_by (codes "city")) (Some trees) ≡ []
own = search (rules, the_lemmas)

-- ---- who may create

-- if the organization exists, it alone decides
dan_in_city : can_create_in people (Named (codes "dan")) (organization_given people (owned_by (codes "city"))) ≡ false
dan_in_city = search (rules, the_lemmas)

dan_in_lake : can_create_in people (Named (codes "dan")) (organization_given people (owned_by (codes "lake"))) ≡ true
dan_in_lake = search (rules, the_lemmas)

-- if it doesn't exist, editors of any organization may create
dan_at_sea : can_create_in people (Named (codes "dan")) (organization_given people (owned_by (codes "sea"))) ≡ true
dan_at_sea = search (rules, the_lemmas)

bob_at_sea : can_create_in people (Named (codes "bob")) (organization_given people (owned_by (codes "sea"))) ≡ false
bob_at_sea = search (rules, the_lemmas)

nobody_nowhere : can_create_in people Anonymous (organization_given people (json.Map [])) ≡ false
nobody_nowhere = search (rules, the_lemmas)

-- ---- pages

second : page_of (Some 1) (Some 1) (codes "a" ∷ codes "b" ∷ codes "c" ∷ []) ≡ codes "b" ∷ []
second = refl

beyond : page_of None (Some 9) (codes "a" ∷ codes "b" ∷ []) ≡ []
beyond = refl

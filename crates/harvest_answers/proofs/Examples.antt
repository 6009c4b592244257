-- Worked examples: who sees a source, who may create one, and the errors of bodies. cyn administers `city`, and bob is
-- a member there.
use Rattle.std.proofs.Common.{◌≡◌, ℕ, true, false, List, [], ◌∷◌, Some, None, refl, rules}
use Rattle.std.specs.Prelude.{codes, pos}
use Rattle.std.specs.Fmt.{digits}
use Rattle.std.specs.Str.{chars}
use Rattle.portal_base.specs.declared.caller.Caller.TheVariants.{Named}
use Rattle.portal_base.specs.declared.json_value.Json.{Json, the_lemmas}
use Rattle.portal_base.specs.declared.json_value.Json as json
use Rattle.org_roles.specs.PeopleLists.{PeopleLists}
use Rattle.org_roles.specs.declared.entry.Membership.{Membership}
use Rattle.org_roles.specs.declared.entry.Org.{Org}
use Rattle.org_roles.specs.declared.role.Role.{Role}
use Rattle.org_roles.specs.declared.role.Role.TheVariants.{Member, Admin}
use Rattle.harvest_sources.specs.Jobs.{new_job}
use Rattle.harvest_sources.specs.Sources.{SourceState}
use Rattle.harvest_answers.specs.Answers.{can_create_for}
use Rattle.harvest_answers.specs.Bodies.{creation_errors, location_error, organization_given, source_name_error}
use Rattle.harvest_answers.specs.Bodies.{title_or}
use Rattle.harvest_answers.specs.Bodies.{unfinished_errors}
use Rattle.harvest_answers.specs.Lookup.{job_named}
use Rattle.harvest_answers.specs.View.{sources_seen}

abbrev city : Org
city = record { name = codes "city"; title = codes "city"; description = []; created = pos 0 }

abbrev member : List ℕ → Role → Membership
member name role = record { org = codes "city"; user = name; role = role }

abbrev people : PeopleLists
people = record {
  users = [];
  orgs = city ∷ [];
  roles = member (codes "bob") Member ∷ member (codes "cyn") Admin ∷ [];
}

-- the source `aa` of `city`, which has its first job
abbrev aa : SourceState
aa = record {
  source = record {
    name = codes "aa";
    title = codes "aa";
    url = codes "http://a/";
    owner_org = codes "city";
    next_job = 2;
  };
  jobs = new_job (codes "aa") 1 (pos 0) ∷ [];
  listing = None;
}

-- ---- who sees a source

bob_sees_none : sources_seen (Named (codes "bob")) people (aa ∷ []) ≡ []
bob_sees_none = refl

cyn_sees_it : sources_seen (Named (codes "cyn")) people (aa ∷ []) ≡ aa ∷ []
cyn_sees_it = refl

first_job : job_named (aa ∷ []) (codes "aa.1") ≡ Some (new_job (codes "aa") 1 (pos 0))
unfolding digits
first_job = refl

no_second_job : job_named (aa ∷ []) (codes "aa.2") ≡ None
unfolding digits
no_second_job = refl

-- ---- who may create a source

abbrev owned_by : List ℕ → Json
owned_by name = json.Map ((codes "owner_org", json.Text name) ∷ [])

cyn_in_city : can_create_for people (Named (codes "cyn")) (organization_given people (owned_by (codes "city"))) ≡ true
cyn_in_city = search (rules, the_lemmas)

-- where the organization doesn't exist, who administers any may go on to the rules
cyn_at_sea : can_create_for people (Named (codes "cyn")) (organization_given people (owned_by (codes "sea"))) ≡ true
cyn_at_sea = search (rules, the_lemmas)

bob_at_sea : can_create_for people (Named (codes "bob")) (organization_given people (owned_by (codes "sea"))) ≡ false
bob_at_sea = search (rules, the_lemmas)

-- ---- bodies

short_name : source_name_error (codes "a") ≡ Some (codes "Name must have 2 to 56 characters")
unfolding chars digits
short_name = refl

spaced_location : location_error (codes "a b") ≡ Some (codes "Must be a location")
unfolding chars
spaced_location = refl

location : location_error (codes "http://a/") ≡ None
unfolding chars
location = refl

empty_body : creation_errors people (json.Map [])
    ≡ (codes "name", codes "Missing value") ∷ (codes "owner_org", codes "Missing value")
    ∷ (codes "url", codes "Missing value") ∷ []
empty_body = search (rules, the_lemmas)

-- an empty title is the name
empty_title : title_or (codes "Old") (codes "aa") (json.Map ((codes "title", json.Text []) ∷ [])) ≡ codes "aa"
empty_title = search (rules, the_lemmas)

second_job : unfinished_errors (codes "source_id") aa
    ≡ (codes "source_id", codes "A job of this source is not finished") ∷ []
second_job = refl

use Rattle.std.proofs.Common.{ap, ltb-true}
use Rattle.std.specs.Prelude.{nat_lt, vec_len, vec_capacity}
use Rattle.org_roles.specs.PeopleLists.{PeopleWithRoom}
use Rattle.org_roles.proofs.ChangeLemmas.{room_for_org}
use Rattle.org_roles.proofs.people.People.set_org.Goals as goal

pub replace_or_put-requires-clause-room : goal.replace_or_put-requires-clause-room
replace_or_put-requires-clause-room c =
    λ none. ltb-true (vec_len c.self.inside.orgs) (vec_capacity c.self.inside.orgs)
    (room_for_org c.self.inside.orgs.items (nat_lt (vec_len c.self.inside.orgs) (vec_capacity c.self.inside.orgs))
    c.args.self.now c.args.org (ap (λ (r : PeopleWithRoom). r.people.orgs) c.self.view_is)
    (ap (λ (r : PeopleWithRoom). r.room.org) c.self.view_is) c.requires none)

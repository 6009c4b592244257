use Rattle.std.proofs.Common.{ap, ltb-true}
use Rattle.std.specs.Prelude.{nat_lt, vec_len, vec_capacity}
use Rattle.org_roles.specs.PeopleLists.{PeopleWithRoom}
use Rattle.org_roles.proofs.ChangeLemmas.{room_for_role}
use Rattle.org_roles.proofs.people.People.set_role.Goals as goal

pub replace_or_put-requires-clause-room : goal.replace_or_put-requires-clause-room
replace_or_put-requires-clause-room c =
    λ none. ltb-true (vec_len c.self.inside.roles) (vec_capacity c.self.inside.roles)
    (room_for_role c.self.inside.roles.items (nat_lt (vec_len c.self.inside.roles) (vec_capacity c.self.inside.roles))
    c.args.self.now c.args.membership (ap (λ (r : PeopleWithRoom). r.people.roles) c.self.view_is)
    (ap (λ (r : PeopleWithRoom). r.room.role) c.self.view_is) c.requires none)

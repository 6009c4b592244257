use Rattle.portal_base.proofs.Upserted.{IsAscending-dropped}
use Rattle.org_roles.specs.Order.{membership_cmp, membership_in_org_at}
use Rattle.org_roles.proofs.people.People.drop_org.Goals as goal

pub invariant_of-self : goal.invariant_of-self
invariant_of-self c = record {
  users = c.self.invariant.users;
  orgs = c.drop_at.ensures.ascending;
  roles = rw c.drop_roles_in.ensures (IsAscending-dropped membership_cmp (membership_in_org_at c.args.name.now)
      c.self.inside.roles.items c.self.invariant.roles);
}

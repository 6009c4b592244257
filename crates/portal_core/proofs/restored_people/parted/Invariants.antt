use Rattle.std.proofs.Common.{◌≡◌, ◌++◌}
use Rattle.portal_core.proofs.RestoredPeople.{orgs_of, roles_of}
use Rattle.portal_core.proofs.restored_people.parted.Given as goal

abbrev pub invariant-loop-one : goal.invariant-loop-one
invariant-loop-one l = record {
  orgs : orgs_of l.fn.kept ≡ l.orgs.items ++ orgs_of l.one-iterator.rest.items;
  roles : roles_of l.fn.kept ≡ l.roles.items ++ roles_of l.one-iterator.rest.items;
}

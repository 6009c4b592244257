use Rattle.std.proofs.Common.{ℕ, List, [], arith, rules}
use Rattle.std.specs.Ordering.{is_le, is_lt}
use Rattle.std.proofs.lemmas.List.Sorted.{IsPartitionPoint-from_clause}
use Rattle.org_roles.specs.declared.entry.Membership.{Membership}
use Rattle.org_roles.specs.declared.role.Role.TheVariants.{Member}
use Rattle.datastore_table.proofs.SearchLemmas.{index_is}
use Rattle.portal_rows.proofs.RangeLemmas.{below_before, places_ordered, to_before, to_org}
use Rattle.portal_rows.proofs.orgs.range_of.Goals as goal

-- a membership of that organization
any_of : List ℕ → Membership
any_of name = record { org = name; user = []; role = Member }

pub returns-clause-from : goal.returns-clause-from
returns-clause-from c =
    let name = c.args.name.now in
    let ms = c.args.memberships.now in
    index_is (λ m. is_lt (to_org name m)) ms (any_of name) c.partition_point-from.result
    c.partition_point-from.ensures.bound
    (IsPartitionPoint-from_clause (λ m. is_lt (to_org name m)) ms c.partition_point-from.result
    c.partition_point-from.ensures.partitioned (below_before name ms c.requires) (λ a r f called. search rules))

pub returns-clause-to : goal.returns-clause-to
returns-clause-to c =
    let name = c.args.name.now in
    let ms = c.args.memberships.now in
    index_is (λ m. is_le (to_org name m)) ms (any_of name) c.partition_point-to.result
    c.partition_point-to.ensures.bound
    (IsPartitionPoint-from_clause (λ m. is_le (to_org name m)) ms c.partition_point-to.result
    c.partition_point-to.ensures.partitioned (to_before name ms c.requires) (λ a r f called. search rules))

pub returns-clause-ordered : goal.returns-clause-ordered
returns-clause-ordered c =
    omega (arith, returns-clause-from c, returns-clause-to c, places_ordered c.args.name.now c.args.memberships.now)

use Rattle.std.proofs.Common.{◌≤◌, ◌+◌, ℕ, arith, length}
use Rattle.slab.specs.Slab.{entries}
use Rattle.slab.proofs.SlabLemmas.{length-entries}
use Rattle.packages.specs.Owners.{count_at}
use Rattle.packages.specs.declared.package.Package.{Package}
use Rattle.packages.proofs.OwnerCounts.{below_all}
use Rattle.packages.proofs.walk.counts_by_owner.Goals as goal

-- The count of all datasets is in its type's range.
pub count_dataset-requires : goal.count_dataset-requires
count_dataset-requires g c =
    λ passes.
    let entry : ℕ × Package = (c.in-Some.entry.0, c.in-Some.entry.1.now) in
    let below : count_at entry.1.owner_org c.loop-entry.counts + 1 ≤ length (entries c.args.datasets.now) =
    below_all (g.T.Test.test c.args.test.now) c.loop-entry.counts (entries c.args.datasets.now)
    c.loop-entry.entry-iterator _ entry c.loop-entry.invariant.2 c.in-Some.ensures.steps passes in
    omega (arith, below, length-entries c.args.datasets.now, c.len-all.ensures, c.len-all.type_inv)

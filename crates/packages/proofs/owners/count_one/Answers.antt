use Rattle.std.proofs.Common.{ℕ, ◌+◌, List, Some, ap, subst, rules}
use Rattle.std.specs.BTreeMap.{BTreeMap, UpdatesBy}
use Rattle.std.specs.Cmp.Lexicographic.{slice_cmp}
use Rattle.std.specs.Ordering.{nat_cmp}
use Rattle.packages.proofs.OwnerCounts.{one_more}
use Rattle.packages.proofs.owners.count_one.Goals as goal

pub returns-in-Some : goal.returns-in-Some
returns-in-Some c =
    let count = c.count_at-count.result + 1 in
    one_more c.args.owner.now c.args.counts.now (c.get_mut.follows.lender count) count
    (ap (λ n. n + 1) c.count_at-count.ensures) ((c.get_mut.follows.holds count).3 (search rules))

pub returns : goal.returns
returns c =
    let count = c.count_at-count.result + 1 in
    one_more c.args.owner.now c.args.counts.now c.insert.new.self count (ap (λ n. n + 1) c.count_at-count.ensures)
    (subst (λ (counts : BTreeMap (List ℕ) ℕ). UpdatesBy (slice_cmp nat_cmp) (slice_cmp nat_cmp c.args.owner.now) counts
    c.insert.new.self (Some count)) c.get_mut.follows.holds-at-none
    (subst (λ (key : List ℕ). UpdatesBy (slice_cmp nat_cmp) (slice_cmp nat_cmp key) c.get_mut.follows.lender-at-none
    c.insert.new.self (Some count)) c.in_ok-try_clone.ensures c.in_ok-insert.ensures.updates))

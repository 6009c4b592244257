use Rattle.std.proofs.Common.{◌≡◌, ◌+◌, ◌-◌, ◌*◌, ◌^◌, ◌≤◌, drop, sum_by}
use Rattle.std.specs.Prelude.{fold}
use Rattle.packages.specs.Owners.{count_at}
use Rattle.org_roles.specs.declared.entry.Org.{Org}
use Rattle.portal_reports.proofs.datasets.total_of.Given as goal

-- The total so far and the counts to come make up all of it. Each count is below 2^64.
abbrev pub invariant-loop-org : goal.invariant-loop-org
invariant-loop-org l = record {
  sum : fold (λ a (org : Org). a + count_at org.name l.counts) l.total (drop l.org-index l.orgs)
      ≡ sum_by (λ (org : Org). count_at org.name l.counts) l.orgs;
  bound : l.total ≤ l.org-index * (2 ^ 64 - 1);
}

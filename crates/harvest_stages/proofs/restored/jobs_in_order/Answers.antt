use Rattle.std.proofs.Common.{◌≡◌, subst, sym, true}
use Rattle.harvest_sources.specs.Jobs.{job_cmp}
use Rattle.harvest_stages.proofs.RestoreLemmas.{job_cmp_total}
use Rattle.portal_base.specs.Ordered.{IsAscending}
use Rattle.harvest_stages.proofs.FoundLemmas.{sorted-apart, sorted-equal}
use Rattle.harvest_stages.proofs.restored.jobs_in_order.Goals as goal

pub returns-then-ascends-clause-exactly : goal.returns-then-ascends-clause-exactly
returns-then-ascends-clause-exactly c =
    sym (sorted-apart job_cmp job_cmp_total c.args.jobs c.sorted-jobs.result.items
    c.sorted-jobs.ensures.permutation c.sorted-jobs.ensures.sorted
    (subst (IsAscending job_cmp) c.as_slice.ensures.value (c.ascends.ensures.0 c.if-ascends.true))).0

pub returns-then-ascends-clause-items : goal.returns-then-ascends-clause-items
returns-then-ascends-clause-items c =
    (sorted-apart job_cmp job_cmp_total c.args.jobs c.sorted-jobs.result.items
    c.sorted-jobs.ensures.permutation c.sorted-jobs.ensures.sorted
    (subst (IsAscending job_cmp) c.as_slice.ensures.value (c.ascends.ensures.0 c.if-ascends.true))).1

pub returns-else-ascends-clause-exactly : goal.returns-else-ascends-clause-exactly
returns-else-ascends-clause-exactly c =
    sym (sorted-equal job_cmp job_cmp_total c.args.jobs c.sorted-jobs.result.items
    c.sorted-jobs.ensures.permutation c.sorted-jobs.ensures.sorted
    (λ up.
    let yes : c.ascends.result ≡ true =
    c.ascends.ensures.1 (subst (IsAscending job_cmp) (sym c.as_slice.ensures.value) up) in
    cc (yes, c.if-ascends.false)))

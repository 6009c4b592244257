use Rattle.std.proofs.Common.{List, rules, subst}
use Rattle.std.specs.List.Sorted.{IsPermutation}
use Rattle.harvest_sources.specs.declared.job.Job.{Job}
use Rattle.std.specs.Ordering.{is_lt}
use Rattle.harvest_sources.specs.Jobs.{job_cmp}
use Rattle.harvest_stages.proofs.RestoreLemmas.{job_cmp_total}
use Rattle.std.proofs.lemmas.List.Sorted.{answers_always, ranks_by}
use Rattle.harvest_stages.proofs.restored.sorted.Goals as goal

pub returns-clause-sorted : goal.returns-clause-sorted
returns-clause-sorted c =
    c.sort_unstable_by.ensures.sorted (λ x y. is_lt (job_cmp x y)) (ranks_by job_cmp_total (λ x. x))
    (answers_always _ _ _ (λ f a r q called. search rules))

pub returns-clause-permutation : goal.returns-clause-permutation
returns-clause-permutation c =
    subst (λ (js : List Job). IsPermutation js c.sort_unstable_by.new.self.items) c.into_vec-jobs.ensures
    c.sort_unstable_by.ensures.permutation

use Rattle.std.proofs.Common.{rules}
use Rattle.std.specs.Ordering.{is_lt}
use Rattle.harvest_sources.specs.Jobs.{job_cmp}
use Rattle.harvest_stages.proofs.RestoreLemmas.{job_cmp_total}
use Rattle.std.proofs.lemmas.Fn.{always_returns_same}
use Rattle.harvest_stages.proofs.FoundLemmas.{adjacent-ascends}
use Rattle.harvest_stages.proofs.restored.ascends.Goals as goal

pub returns : goal.returns
returns c =
    adjacent-ascends job_cmp job_cmp_total c.args.jobs.now c.is_sorted_by.result
    (c.is_sorted_by.ensures.cases (λ x y. is_lt (job_cmp x y))
    (always_returns_same _ _ _ (λ a r f called. search rules)))

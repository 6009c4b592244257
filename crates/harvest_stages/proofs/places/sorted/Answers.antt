use Rattle.std.proofs.Common.{rules}
use Rattle.std.specs.Ordering.{is_lt}
use Rattle.std.proofs.lemmas.List.Sorted.{answers_always, ranks_by}
use Rattle.harvest_stages.proofs.places.sorted.Goals as goal

pub returns-clause-sorted : goal.returns-clause-sorted
returns-clause-sorted g c =
    c.sort_unstable_by.ensures.sorted (λ x y. is_lt (g.T.Ordered.order x y)) (ranks_by g.met.T.Ordered.total (λ x. x))
    (answers_always _ _ _ (λ f a r q called. search rules))

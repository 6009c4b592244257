use Rattle.std.proofs.Common.{rules}
use Rattle.std.specs.Ordering.{is_lt}
use Rattle.std.proofs.lemmas.Fn.{always_returns_same}
use Rattle.dataset_answers.proofs.SoundLemmas.{ascends-adjacent}
use Rattle.dataset_answers.proofs.sound.ascends.Goals as goal

pub returns : goal.returns
returns g c =
    let cmp = g.T.Ord.cmp in
    ascends-adjacent cmp g.met.T.Ord.total c.args.items.now c.is_sorted_by.result
    (c.is_sorted_by.ensures.cases (λ x y. is_lt (cmp x y))
    (always_returns_same _ _ _ (λ a r f called. search rules)))

use Rattle.std.proofs.Common.{◌≡◌, ◌+◌, ℕ, List, ap, arith, length, length-append}
use Rattle.facets.specs.Tally.{first_count}
use Rattle.facets.proofs.RunLemmas.{first_count-le}
use Rattle.facets.proofs.tally.count_runs.Goals as goal

pub count_one-requires : goal.count_one-requires
count_one-requires c =
    let taken : List (List ℕ) = c.loop-text.invariant.0 in
    let all : length c.args.texts.items ≡ length c.loop-text.rest.items + length taken =
    simp length-append at (ap length c.loop-text.invariant.1) in
    omega (
      arith,
      all,
      c.args.texts.ok.0,
      c.loop-text.rest.ok.0,
      c.in-Some.ensures.len,
      ap first_count c.loop-text.invariant.2,
      first_count-le taken,
    )

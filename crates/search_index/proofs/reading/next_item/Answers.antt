use Rattle.std.proofs.Common.{ap, arith, length}
use Rattle.search_index.specs.Cut.{is_nonblank}
use Rattle.search_index.proofs.CutLemmas.{from_within}
use Rattle.search_index.proofs.reading.next_item.Goals as goal

pub returns-clause-shorter : goal.returns-clause-shorter
returns-clause-shorter c =
    omega (
      arith,
      c.split_item.ensures.shorter,
      ap length c.from-start.ensures,
      from_within is_nonblank c.args.text.now,
    )

use Rattle.std.proofs.Common.{◌≡◌, ◌≤◌, ◌+◌, ◌-◌, ◌^◌, length}
use Rattle.search_index.specs.Index.{entries_from}
use Rattle.search_index.proofs.index.lengthen.Given as goal

abbrev pub invariant-loop-rows : goal.invariant-loop-rows
invariant-loop-rows l =
    (length l.fn.rows.items ≤ length l.rows.items) × (length l.rows.items ≤ 2 ^ 32)
    × (entries_from 0 l.rows.items ≡ entries_from 0 l.fn.rows.items)

abbrev pub decreases-loop-rows : goal.decreases-loop-rows
decreases-loop-rows l = 2 ^ 32 + 1 - length l.rows.items

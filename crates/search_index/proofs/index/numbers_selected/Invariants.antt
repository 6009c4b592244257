use Rattle.std.proofs.Common.{◌≡◌, ◌++◌, drop}
use Rattle.search_index.specs.Index.{numbers_selected}
use Rattle.search_index.proofs.index.numbers_selected.Given as goal

-- The numbers so far and those of the remaining rows are all numbers.
abbrev pub invariant-loop-number : goal.invariant-loop-number
invariant-loop-number l =
    l.found.items ++ numbers_selected l.query l.number (drop l.number l.rows) ≡ numbers_selected l.query 0 l.rows

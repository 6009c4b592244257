use Rattle.std.proofs.Common.{◌≡◌, map, take}
use Rattle.search_index.specs.Index.{entry_of}
use Rattle.search_index.proofs.index.Index.of.Given as goal

-- the terms of the datasets so far
abbrev pub invariant-loop-number : goal.invariant-loop-number
invariant-loop-number l = l.index.entries ≡ map entry_of (take l.number-index l.shelf.entries)

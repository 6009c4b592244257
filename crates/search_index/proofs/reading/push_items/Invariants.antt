use Rattle.std.proofs.Common.{◌≡◌, ◌++◌, length}
use Rattle.std.specs.Prelude.{filter_map}
use Rattle.search_index.specs.Reading.{item_of_text, item_texts, items_of}
use Rattle.search_index.proofs.reading.push_items.Given as goal

abbrev pub invariant-loop-item : goal.invariant-loop-item
invariant-loop-item l =
    l.items.items ++ filter_map item_of_text (item_texts l.rest) ≡ l.fn.items.items ++ items_of l.text

abbrev pub decreases-loop-item : goal.decreases-loop-item
decreases-loop-item l = length l.rest

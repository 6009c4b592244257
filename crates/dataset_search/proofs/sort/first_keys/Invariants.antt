use Rattle.std.proofs.Common.{◌≡◌, drop, fold}
use Rattle.std.specs.Prelude.{option_map}
use Rattle.dataset_search.specs.Sort.{all_keys, deciding, with_key}
use Rattle.dataset_search.proofs.sort.first_keys.Given as goal

-- The keys so far, with those of the remaining parts, are the first ones of all.
abbrev pub invariant-loop-part : goal.invariant-loop-part
invariant-loop-part l =
    option_map (λ others. fold with_key l.keys.items others) (all_keys (drop l.part-index l.fn.parts))
    ≡ option_map deciding (all_keys l.fn.parts)

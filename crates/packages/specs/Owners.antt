-- Counts by name of the organizations that own datasets.
use Rattle.std.specs.Prelude.{ℕ, List, unwrap_or}
use Rattle.std.specs.BTreeMap.{BTreeMap, get}
use Rattle.std.specs.Cmp.Lexicographic.{slice_cmp}
use Rattle.std.specs.Ordering.{nat_cmp}

-- the owner's count, which is 0 for one that isn't among the counts
abbrev pub count_at : List ℕ → BTreeMap (List ℕ) ℕ → ℕ
count_at owner counts = unwrap_or (get (slice_cmp nat_cmp) counts owner) 0

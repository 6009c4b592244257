use Rattle.std.proofs.Common.{◌≡◌, ◌++◌, ℕ, List, length, true}
use Rattle.std.specs.HashSet.{contains_text}
use Rattle.portal_file.specs.Keyed.{are_distinct, is_key_among}
use Rattle.portal_file.proofs.text_set.are_distinct.Given as goal

-- The keys of the later items are in the set, and are distinct.
abbrev pub invariant-loop-last : goal.invariant-loop-last
invariant-loop-last g l = record {
  later : List g.row.T.Denot;
  splits : l.items ≡ l.rest ++ later;
  keys : (q : List ℕ) → contains_text l.later q ≡ is_key_among g.T.Keyed.key later q;
  distinct : are_distinct g.T.Keyed.key later ≡ true;
}

abbrev pub decreases-loop-last : goal.decreases-loop-last
decreases-loop-last g l = length l.rest

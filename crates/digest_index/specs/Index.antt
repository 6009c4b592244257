-- Which numbers an index has under each digest.
use Rattle.std.specs.Prelude.{Vec, ◌≡◌, ℕ, ◌+◌, ◌-◌, ◌≤◌, min, ◌==◌, nat_eq, ◌⊎◌, ◌↔◌, List, Option, Some, filter, map}
use Rattle.std.specs.HashMap.{HashMap, spare}
use Rattle.std.specs.List.{Contains}
use Rattle.std.specs.Map.{lookup}
use Rattle.std.specs.Vec.{vec_len, vec_capacity}
use Rattle.digest_index.specs.declared.Further.{Further}

-- The value of an index: the first number of each digest, the further numbers with their digests, in ascending order of
-- these, and the count of numbers that can be entered without an allocation.
pub record IndexState (N : Type 0) : Type 0 where
  pub firsts : List (ℕ × N)
  pub further : List (Further N)
  pub room : ℕ

-- the value of an index with these parts
abbrev pub index_state : {N S Z : Type 0} → HashMap ℕ N S → Vec (Further N) Z → IndexState N
index_state first further = record {
  firsts = first.entries;
  further = further.items;
  room = min (spare first) (vec_capacity further - vec_len further);
}

-- the first number of a digest
abbrev pub first_under : {N : Type 0} → ℕ → IndexState N → Option N
first_under digest s = lookup (nat_eq digest) s.firsts

-- the further numbers of a digest, with the digest
abbrev pub entries_under : {N : Type 0} → ℕ → List (Further N) → List (Further N)
entries_under digest further = filter (λ e. e.digest == digest) further

-- the further numbers of a digest
abbrev pub further_under : {N : Type 0} → ℕ → List (Further N) → List N
further_under digest further = map (λ e. e.number) (entries_under digest further)

-- the number is under the digest
abbrev pub IsUnder : {N : Type 0} → IndexState N → ℕ → N → Type 0
IsUnder s digest number =
    (first_under digest s ≡ Some number) ⊎ Contains (further_under digest s.further) number

-- The number was entered under the digest. All other numbers are where they were.
pub record Enters {N : Type 0} (old new : IndexState N) (digest : ℕ) (number : N) : Type 0 where
  pub under : (d : ℕ) (n : N) → IsUnder new d n ↔ (IsUnder old d n ⊎ ((d ≡ digest) × (n ≡ number)))
  pub room : old.room ≤ new.room + 1

-- The number isn't under the digest any more. All other numbers are where they were.
pub record Leaves {N : Type 0} (old new : IndexState N) (digest : ℕ) (number : N) : Type 0 where
  pub under : (d : ℕ) (n : N) → IsUnder new d n ↔ (IsUnder old d n × ((d ≡ digest) × (n ≡ number) → ⊥))
  pub room : old.room ≤ new.room

-- The number isn't the first one under the digest any more. All others are where they were.
pub record LeavesFirst {N : Type 0} (old new : IndexState N) (digest : ℕ) (number : N) : Type 0 where
  pub first : (d : ℕ) (n : N)
      → (first_under d new ≡ Some n) ↔ ((first_under d old ≡ Some n) × ((d ≡ digest) × (n ≡ number) → ⊥))
  pub further : new.further ≡ old.further
  pub room : old.room ≤ new.room

-- The number isn't among the further ones under the digest any more. All others are where they were.
pub record LeavesFurther {N : Type 0} (old new : IndexState N) (digest : ℕ) (number : N) : Type 0 where
  pub firsts : new.firsts ≡ old.firsts
  pub further : (d : ℕ) (n : N) → Contains (further_under d new.further) n
      ↔ (Contains (further_under d old.further) n × ((d ≡ digest) × (n ≡ number) → ⊥))
  pub room : old.room ≤ new.room

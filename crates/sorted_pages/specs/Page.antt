-- The part of a list that is on a page.
use Rattle.std.specs.Prelude.{◌≡◌, ◌≤◌, ℕ, List, [], ◌++◌, length, min}

-- The part of the items from this index on, from 0, of at most `limit` items. It is shorter only where they end.
pub record IsPart {X : Type 0} (offset limit : ℕ) (items part : List X) : Type 0 where
  pub before : List X
  pub after : List X
  pub whole : items ≡ before ++ (part ++ after)
  pub start : length before ≡ min offset (length items)
  pub most : length part ≤ limit
  pub full : (after ≡ [] → ⊥) → length part ≡ limit

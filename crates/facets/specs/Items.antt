-- What of the counts a search shows.
use Rattle.std.specs.Prelude.{ℕ, List, filter, nat_le, take, Option, Some, None}
use Rattle.facets.specs.Counts.{Facet}

-- the first items up to the limit; without a limit, all
abbrev pub up_to : {X : Type 0} → Option ℕ → List X → List X
up_to None items = items
up_to (Some limit) items = take limit items

-- the counts that are at least the minimum, up to the limit
abbrev pub items_shown : ℕ → Option ℕ → List Facet → List Facet
items_shown mincount limit counts = up_to limit (filter (λ item. nat_le mincount item.1) counts)

-- A change of the portal, as data: what it claims, and the entries that are put or dropped, each by its key. A change knows
-- neither a call nor a caller.
use Rattle.std.specs.Prelude.{List}
use Rattle.portal_state.specs.Entries.{Entry}
use Rattle.portal_state.specs.declared.change.Claim.{Claim}

-- The names and ids that the change claims for new entries, in the order in which they are checked, and its entries.
pub record Change : Type 0 where
  pub claims : List Claim
  pub entries : List Entry

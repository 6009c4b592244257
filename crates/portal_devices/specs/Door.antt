-- A door over TCP in contracts.
use Rattle.std.specs.Prelude.{ℕ, Bool}

-- whether a link is out, the count of links that were taken back, and the count of faults
pub record Door : Type 0 where
  pub is_out : Bool
  pub count : ℕ
  pub faults : ℕ

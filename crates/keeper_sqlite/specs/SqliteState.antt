-- A keeper over SQLite, as contracts see it.
use Rattle.std.specs.Prelude.{ℕ, refl}
use Rattle.std.specs.Coded.{Coded, code_by, coded×, coded_ℕ}
use Rattle.sqlite.specs.Held.{Held, held_code}

-- the connection, and the number of faults so far
pub record SqliteState (S : Type 0) : Type 0 where
  pub connection : Held S
  pub faults : ℕ

-- a state is stored as the pair of its fields
abbrev pub sqlite_state_code : {S : Type 0} → Coded S → Coded (SqliteState S)
sqlite_state_code {S} store =
    code_by (Held S × ℕ) (coded× (held_code store) coded_ℕ) (λ k. (k.connection, k.faults))
    (λ p. record { connection = p.0; faults = p.1 })
    (λ _. refl)

-- Histories of events, and the core that a history leaves.
use Rattle.std.specs.Prelude.{◌≡◌, ℕ, ◌==◌, Bool, true, false, nat_lt, if◌then◌else◌, count_by}
use Rattle.std.specs.Prelude.{List, [], ◌∷◌, ◌++◌}

-- The outcome of an event in a core: the reply, whether the event is accepted, and the core after it.
pub record Step (C R : Type 0) : Type 0 where
  pub core : C
  pub reply : R
  pub is_accepted : Bool

-- the first list is a prefix of the second
abbrev pub Begins : {A : Type 0} → List A → List A → Type 0
Begins {A} xs ys = (rest : List A) × (ys ≡ xs ++ rest)

-- the count of x in the list
abbrev pub times : ℕ → List ℕ → ℕ
times x xs = count_by (λ y. y == x) xs

-- the count of x among the numbers below n: 1 or 0
abbrev pub once_below : ℕ → ℕ → ℕ
once_below x n = if nat_lt x n then 1 else 0

module _ {C E R : Type 0} (step : C → E → Step C R) where
  -- the core after these events
  abbrev pub replay : C → List E → C
  replay core [] = core
  replay core (e ∷ es) = replay (step core e).core es

  -- each of these events is accepted in the core that those before it leave
  abbrev pub IsLegal : C → List E → Type 0
  IsLegal core [] = Unit {0}
  IsLegal core (e ∷ es) = ((step core e).is_accepted ≡ true) × IsLegal (step core e).core es

  -- The event is accepted in the core, and this is the reply.
  abbrev pub Accepts : C → E → R → Type 0
  Accepts core e reply = ((step core e).is_accepted ≡ true) × (reply ≡ (step core e).reply)

  -- The event isn't accepted in the core, and this is the reply.
  abbrev pub Refuses : C → E → R → Type 0
  Refuses core e reply = ((step core e).is_accepted ≡ false) × (reply ≡ (step core e).reply)

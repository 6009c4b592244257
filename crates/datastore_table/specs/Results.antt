-- Sequences of results. The first fault ends the sequence.
use Rattle.std.specs.Prelude.{◌≡◌, ◌⊎◌, ◌+◌, ℕ, List, [], ◌∷◌, Result, Ok, Err}
use Rattle.datastore_table.specs.declared.fault.TableFault.{TableFault}
use Rattle.datastore_table.specs.declared.fault.TableFault.TheVariants.{OutOfMemory}

infixl 10 ◌>>>◌
abbrev pub ◌>>>◌ : {A B E : Type 0} → Result A E → (A → Result B E) → Result B E
(Err fault) >>> f = Err fault
(Ok x) >>> f = f x

-- The list of what `f` returns for each item and its number. The first item has the number `number`.
abbrev pub each_ok : {A B E : Type 0} → (ℕ → A → Result B E) → ℕ → List A → Result (List B) E
each_ok f number [] = Ok []
each_ok f number (x ∷ xs) = f number x >>> λ y. (each_ok f (number + 1) xs >>> λ ys. Ok (y ∷ ys))

-- The state after `f` was applied for each item and its number in turn. The first item has the number `number`.
abbrev pub in_turn : {A S E : Type 0} → (ℕ → A → S → Result S E) → ℕ → List A → S → Result S E
in_turn f number [] s = Ok s
in_turn f number (x ∷ xs) s = f number x s >>> in_turn f (number + 1) xs

-- The result is the reading, or out of memory.
abbrev pub Answers : {A : Type 0} → Result A TableFault → Result A TableFault → Type 0
Answers result reading = (result ≡ Err OutOfMemory) ⊎ (result ≡ reading)

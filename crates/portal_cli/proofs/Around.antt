-- What a status says of the words, and the one item of a list.
use Rattle.std.proofs.Common.{◌≡◌, ◌⊎◌, length, List, Option, Some, None, refl, [], ◌∷◌, get_or, slice_set}
use Rattle.std.proofs.Common.{subst, inl, inr}
use Rattle.portal_cli.specs.Words.{ReportsWords}
use Rattle.portal_status.specs.declared.status.Status.{Status}
use Rattle.portal_status.specs.declared.status.Status.TheVariants.{Words, KeeperFault, OutOfMemory}
use Rattle.portal_words.specs.declared.command.Command.{Command}
use Rattle.portal_cli.specs.Run.{HoldsOfOnly}

-- what the status says of the words
pub reports_words : (command : Option Command) (status : Status) → (status ≡ Words → command ≡ None)
    → (command ≡ None → (status ≡ Words) ⊎ (status ≡ OutOfMemory)) → ReportsWords command status
reports_words None status words no_command = no_command refl
reports_words (Some command) status words no_command = λ is. let none = words is in cc

-- so it does where no store was opened
pub store_reports : (command : Option Command) (status : Status) → (status ≡ KeeperFault) ⊎ (status ≡ OutOfMemory)
    → (command ≡ None → status ≡ OutOfMemory) → ReportsWords command status
store_reports None status why no_command = inr (no_command refl)
store_reports (Some command) status (inl failed) no_command = λ is. absurd (cc)
store_reports (Some command) status (inr memory) no_command = λ is. absurd (cc)

-- and where memory ran out afterwards
pub memory_reports : (command : Option Command) → ReportsWords command OutOfMemory
memory_reports None = inr refl
memory_reports (Some command) = λ is. absurd (cc)

-- what was done with the one item of a list
pub holds_of_only : {X : Type 0} (P : X → X → Type 0) (xs : List X) (x y : X) → length xs ≡ 1 → x ≡ get_or xs 0 x
    → P x y
    → HoldsOfOnly xs (slice_set xs 0 y) P
holds_of_only P [] x y one same holds = absurd (cc)
holds_of_only P (first ∷ []) x y one same holds = subst (λ v. P v y) same holds
holds_of_only P (first ∷ second ∷ more) x y one same holds = absurd (cc)

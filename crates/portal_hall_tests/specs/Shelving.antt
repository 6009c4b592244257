-- A shelf of names, as a machine: a name is created once.
use Rattle.std.specs.Prelude.{◌≡◌, ℕ, ◌==◌, Bool, true, false, if◌then◌else◌, List, [], ◌∷◌, ◌++◌}
use Rattle.std.specs.List.{list_any}
use Rattle.portal_hall.specs.History.{Step}
use Rattle.portal_hall_tests.specs.declared.shelf.Event.{Event}
use Rattle.portal_hall_tests.specs.declared.shelf.Event.TheVariants.{Create, Show, Break, Starve}
use Rattle.portal_hall_tests.specs.declared.shelf.Reply.{Reply}
use Rattle.portal_hall_tests.specs.declared.shelf.Reply.TheVariants.{Created, Shown, InUse, Missing}
use Rattle.portal_hall_tests.specs.declared.shelf.Reply.TheVariants.{Faulted, OutOfMemory}

-- whether the name is among these
abbrev pub has : ℕ → List ℕ → Bool
has name names = list_any (λ x. x == name) names

-- The outcome of an event at these names. If nothing breaks, the last two events show nothing.
abbrev pub shelf_step : List ℕ → Event → Step (List ℕ) Reply
shelf_step names (Create name) = if has name names
    then record { core = names; reply = InUse; is_accepted = false }
    else record { core = names ++ name ∷ []; reply = Created; is_accepted = true }
shelf_step names (Show name) =
    record { core = names; reply = if has name names then Shown else Missing; is_accepted = false }
shelf_step names Break = record { core = names; reply = Missing; is_accepted = false }
shelf_step names Starve = record { core = names; reply = Missing; is_accepted = false }

abbrev pub SaysOutOfMemory : Reply → Type 0
SaysOutOfMemory reply = reply ≡ OutOfMemory

abbrev pub SaysFault : Reply → Type 0
SaysFault reply = reply ≡ Faulted

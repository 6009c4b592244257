-- What a run's status says of its words.
use Rattle.std.specs.Prelude.{◌≡◌, ◌≢◌, ◌⊎◌}
use Rattle.std.specs.Prelude.{Option, Some, None}
use Rattle.portal_words.specs.declared.command.Command.{Command}
use Rattle.portal_status.specs.declared.status.Status.{Status}
use Rattle.portal_status.specs.declared.status.Status.TheVariants.{Words, OutOfMemory}

-- Status 2 means that the words name no command. If they name none, the status is 2, or memory ran out.
abbrev pub ReportsWords : Option Command → Status → Type 0
ReportsWords None status = (status ≡ Words) ⊎ (status ≡ OutOfMemory)
ReportsWords (Some command) status = status ≢ Words

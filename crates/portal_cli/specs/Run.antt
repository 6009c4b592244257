-- What a run does, by the command of its words and by its status.
use Rattle.std.specs.Prelude.{◌≡◌, ◌⊎◌, ℕ, List, [], ◌∷◌, Option, Some, None}
use Rattle.portal_base.specs.Outside.{Holdings}
use Rattle.portal_start.specs.Fetchers.{UsesFirst, first_fetch}
use Rattle.portal_start.specs.HarvestCommand.{HarvestsFrom}
use Rattle.portal_start.specs.OverStore.{BeginsOver, StoreTrace}
use Rattle.portal_status.specs.declared.status.Status.{Status}
use Rattle.portal_status.specs.declared.status.Status.TheVariants.{Words, OutOfMemory}
use Rattle.portal_links.specs.Desk.{DeskTrace}
use Rattle.portal_serve.specs.Run.{DeviceTrace, stage_trace_of}
use Rattle.portal_links.specs.Written.{LinkTrace}
use Rattle.portal_words.specs.declared.command.Command.{Command}
use Rattle.portal_words.specs.declared.command.Command.TheVariants.{Play, Load, Harvest, Serve, Report}
use Rattle.portal_load.specs.SchemaFile.{LoadsFrom}
use Rattle.portal_start.specs.Commands.{PlaysFrom, ReportsWith, RoundAnswers, ServesWith}

-- The list has one item before and after a call, and P holds of these two.
abbrev pub HoldsOfOnly : {X : Type 0} → List X → List X → (X → X → Type 0) → Type 0
HoldsOfOnly (x ∷ []) (y ∷ []) P = P x y
HoldsOfOnly [] ys P = ⊥
HoldsOfOnly (x ∷ other ∷ more) ys P = ⊥
HoldsOfOnly (x ∷ []) [] P = ⊥
HoldsOfOnly (x ∷ []) (y ∷ other ∷ more) P = ⊥

-- the traces of the devices: of those of a script or a load, and of the desk
pub record RunTrace (Peer : Type 0) : Type 0 where
  pub script : DeviceTrace
  pub desk : DeskTrace Peer

abbrev pub run_trace : {Peer : Type 0} → DeviceTrace → DeskTrace Peer → RunTrace Peer
run_trace script desk = record { script = script; desk = desk }

-- What a run did, by the command of its words. If they name none, the status says so, or memory ran out.
abbrev pub Runs : {Peer F : Type 0} → (Peer → LinkTrace) → (F → Holdings) → (F → ℕ) → Option Command → List F → List F
    → StoreTrace → RunTrace Peer → RunTrace Peer → RoundAnswers → Status → Type 0
Runs trace held faults None fetchers left store old new rounds status = (status ≡ Words) ⊎ (status ≡ OutOfMemory)
Runs trace held faults (Some (Play options)) fetchers left store old new rounds status =
    BeginsOver (first_fetch held faults fetchers left) options.portal store status
    (λ beginning state after. PlaysFrom held faults options.portal state after old.script new.script fetchers left rounds
    status)
    ((new.script ≡ old.script) × UsesFirst held faults options.portal fetchers left × (rounds ≡ []))
Runs trace held faults (Some (Load options)) fetchers left store old new rounds status =
    BeginsOver (first_fetch held faults fetchers left) options.portal store status
    (λ beginning state after. LoadsFrom (first_fetch held faults fetchers left) options state after old.script new.script
    status)
    (new.script ≡ old.script)
Runs trace held faults (Some (Harvest options)) fetchers left store old new rounds status =
    BeginsOver (first_fetch held faults fetchers left) options.portal store status
    (λ beginning state after. HarvestsFrom held faults options state after (stage_trace_of old.script)
    (stage_trace_of new.script) fetchers left rounds status)
    ((stage_trace_of new.script ≡ stage_trace_of old.script) × UsesFirst held faults options.portal fetchers left
    × (rounds ≡ []))
Runs trace held faults (Some (Serve options)) fetchers left store old new rounds status =
    BeginsOver (first_fetch held faults fetchers left) options.portal store status
    (λ beginning state after. ServesWith trace beginning.digests state after options.links old.desk new.desk status)
    (new.desk ≡ old.desk)
Runs trace held faults (Some (Report options)) fetchers left store old new rounds status =
    BeginsOver (first_fetch held faults fetchers left) options.portal store status
    (λ beginning state after. ReportsWith options state after old.script.taken new.script.taken status)
    (new.script.taken ≡ old.script.taken)

-- the location of the portal file, if the words name one
abbrev pub portal_of : Option Command → Option (List ℕ)
portal_of None = None
portal_of (Some (Play options)) = options.portal
portal_of (Some (Load options)) = options.portal
portal_of (Some (Harvest options)) = options.portal
portal_of (Some (Serve options)) = options.portal
portal_of (Some (Report options)) = options.portal

-- The words name no file and ask for no round of harvests. Then no fetcher is touched.
abbrev pub NamesNoFile : Option Command → Type 0
NamesNoFile None = Unit {0}
NamesNoFile (Some (Play options)) = ⊥
NamesNoFile (Some (Load options)) = ⊥
NamesNoFile (Some (Harvest options)) = ⊥
NamesNoFile (Some (Serve options)) = options.portal ≡ None
NamesNoFile (Some (Report options)) = options.portal ≡ None

-- The words ask for no round of harvests, as those to play a script may. Then no fetcher but the first is touched.
abbrev pub HarvestsNone : Option Command → Type 0
HarvestsNone None = Unit {0}
HarvestsNone (Some (Play options)) = ⊥
HarvestsNone (Some (Load options)) = Unit {0}
HarvestsNone (Some (Harvest options)) = ⊥
HarvestsNone (Some (Serve options)) = Unit {0}
HarvestsNone (Some (Report options)) = Unit {0}

-- The words ask neither to play a script nor to load a CSV, nor for a harvest or a report. Then nothing is written to
-- output.
abbrev pub WritesNone : Option Command → Type 0
WritesNone None = Unit {0}
WritesNone (Some (Play options)) = ⊥
WritesNone (Some (Load options)) = ⊥
WritesNone (Some (Harvest options)) = ⊥
WritesNone (Some (Serve options)) = Unit {0}
WritesNone (Some (Report options)) = ⊥

-- The words ask neither to play a script nor to load a CSV. Then input isn't touched.
abbrev pub ReadsNone : Option Command → Type 0
ReadsNone None = Unit {0}
ReadsNone (Some (Play options)) = ⊥
ReadsNone (Some (Load options)) = ⊥
ReadsNone (Some (Harvest options)) = Unit {0}
ReadsNone (Some (Serve options)) = Unit {0}
ReadsNone (Some (Report options)) = Unit {0}

-- The words ask neither to play a script nor to load a CSV, nor for a harvest. Then the script's clock and its nonces
-- aren't touched.
abbrev pub PlaysNone : Option Command → Type 0
PlaysNone None = Unit {0}
PlaysNone (Some (Play options)) = ⊥
PlaysNone (Some (Load options)) = ⊥
PlaysNone (Some (Harvest options)) = ⊥
PlaysNone (Some (Serve options)) = Unit {0}
PlaysNone (Some (Report options)) = Unit {0}

-- The words don't ask to serve links. Then the desk isn't touched.
abbrev pub ServesNone : Option Command → Type 0
ServesNone None = Unit {0}
ServesNone (Some (Play options)) = Unit {0}
ServesNone (Some (Load options)) = Unit {0}
ServesNone (Some (Harvest options)) = Unit {0}
ServesNone (Some (Serve options)) = ⊥
ServesNone (Some (Report options)) = Unit {0}

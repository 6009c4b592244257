-- The statuses of a run, and the line that reports each.
use Rattle.std.specs.Prelude.{◌⊎◌, ℕ, List, [], ◌++◌, Option, codes}
use Rattle.portal_base.specs.Outside.{Rose, Takes, TakesPrefix}
use Rattle.portal_status.specs.declared.status.Status.{Status}
use Rattle.portal_status.specs.declared.status.Status.TheVariants.{Done, Words, ReadFault, WriteFault, KeeperFault}
use Rattle.portal_status.specs.declared.status.Status.TheVariants.{OutOfMemory, PortalFile, FetchFault, DataFault, Refused}
use Rattle.portal_status.specs.declared.status.Status.TheVariants.{ListenFault, StoredRows}

-- the exit status of the process
abbrev pub status_code : Status → ℕ
status_code Done = 0
status_code Words = 2
status_code ReadFault = 3
status_code WriteFault = 4
status_code KeeperFault = 5
status_code OutOfMemory = 6
status_code (PortalFile text) = 7
status_code (FetchFault text) = 8
status_code (DataFault text) = 9
status_code Refused = 10
status_code ListenFault = 11
status_code StoredRows = 12

-- the text of a status after `portal: `
abbrev pub status_text : Status → List ℕ
status_text Done = []
status_text Words = codes "bad words"
status_text ReadFault = codes "input failed"
status_text WriteFault = codes "output failed"
status_text KeeperFault = codes "store failed"
status_text OutOfMemory = codes "out of memory"
status_text (PortalFile text) = text
status_text (FetchFault text) = text
status_text (DataFault text) = text
status_text Refused = codes "call refused"
status_text ListenFault = codes "listener failed"
status_text StoredRows = codes "stored rows are no portal's"

-- the line of a fault with this text
abbrev pub fault_line : List ℕ → List ℕ
fault_line text = codes "portal: " ++ (text ++ codes "\n")

-- what is written for a status: nothing for `Done`, and one line for every other
abbrev pub status_line : Status → List ℕ
status_line Done = []
status_line Words = fault_line (status_text Words)
status_line ReadFault = fault_line (status_text ReadFault)
status_line WriteFault = fault_line (status_text WriteFault)
status_line KeeperFault = fault_line (status_text KeeperFault)
status_line OutOfMemory = fault_line (status_text OutOfMemory)
status_line (PortalFile text) = fault_line text
status_line (FetchFault text) = fault_line text
status_line (DataFault text) = fault_line text
status_line Refused = fault_line (status_text Refused)
status_line ListenFault = fault_line (status_text ListenFault)
status_line StoredRows = fault_line (status_text StoredRows)

-- A sink with this count of faults before and after took the whole piece, or it took a prefix of it and the count rose.
abbrev pub TakesOrFails : Option (List ℕ) → ℕ → List ℕ → Option (List ℕ) → ℕ → Type 0
TakesOrFails old faults piece new after = Takes old piece new ⊎ (Rose faults after × TakesPrefix old piece new)

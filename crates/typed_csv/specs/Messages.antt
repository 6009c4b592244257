-- The messages of errors.
use Rattle.std.specs.Prelude.{ℕ, List, ◌++◌, codes, decimal}
use Rattle.table_schema.specs.Messages.{cell_fault_text}
use Rattle.typed_csv.specs.declared.fault.LoadFault.{LoadFault}
use Rattle.typed_csv.specs.declared.fault.LoadFault.TheVariants as fault

-- Columns and rows are counted from 1, and the header is row 0.
abbrev pub load_fault_text : LoadFault → List ℕ
load_fault_text (fault.Header column) = codes "header " ++ decimal column
load_fault_text (fault.Width row) = codes "row " ++ decimal row ++ codes ": width"
load_fault_text (fault.Cell row field why) =
    codes "row " ++ decimal row ++ codes ", " ++ field ++ codes ": " ++ cell_fault_text why
load_fault_text (fault.NotUtf8 row) = codes "row " ++ decimal row ++ codes ": not UTF-8"
load_fault_text fault.ReadFault = codes "the source failed"
load_fault_text fault.TooLong = codes "input too long"
load_fault_text fault.Spent = codes "spent"
load_fault_text fault.OutOfMemory = codes "out of memory"

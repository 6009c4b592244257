-- The messages of errors.
use Rattle.std.specs.Prelude.{ℕ, List, ◌++◌, codes, decimal}
use Rattle.table_schema.specs.declared.cell.CellError.{CellError}
use Rattle.table_schema.specs.declared.cell.CellError.TheVariants as error
use Rattle.table_schema.specs.declared.cell.CellFault.{CellFault}
use Rattle.table_schema.specs.declared.cell.CellFault.TheVariants.{NotOfType, Required, Length, Range, NotInEnum}
use Rattle.table_schema.specs.declared.fault.SchemaFault.{SchemaFault}
use Rattle.table_schema.specs.declared.fault.SchemaFault.TheVariants.{NotJson, NoFields, UnknownKind, BadConstraint}
use Rattle.table_schema.specs.declared.fault.SchemaFault.TheVariants.{RepeatedName, BadKey, Unsupported, BadName}
use Rattle.table_schema.specs.declared.fault.SchemaFault.TheVariants.{OutOfMemory}

abbrev pub cell_fault_text : CellFault → List ℕ
cell_fault_text NotOfType = codes "not of type"
cell_fault_text Required = codes "required"
cell_fault_text Length = codes "length"
cell_fault_text Range = codes "out of range"
cell_fault_text NotInEnum = codes "not in enum"

abbrev pub cell_error_text : CellError → List ℕ
cell_error_text (error.Fault fault) = cell_fault_text fault
cell_error_text error.OutOfMemory = codes "out of memory"

-- Fields are counted from 1.
abbrev pub schema_fault_text : SchemaFault → List ℕ
schema_fault_text NotJson = codes "not JSON"
schema_fault_text NoFields = codes "no fields"
schema_fault_text (UnknownKind number) = codes "field " ++ decimal number ++ codes ": unknown type"
schema_fault_text (BadConstraint number) = codes "field " ++ decimal number ++ codes ": bad constraint"
schema_fault_text (RepeatedName number) = codes "field " ++ decimal number ++ codes ": repeated name"
schema_fault_text BadKey = codes "bad key"
schema_fault_text (Unsupported what) = codes "unsupported: " ++ what
schema_fault_text (BadName number) = codes "field " ++ decimal number ++ codes ": bad name"
schema_fault_text OutOfMemory = codes "out of memory"

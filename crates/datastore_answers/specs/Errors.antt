-- Errors of the bodies of calls on tables. Keys and methods are those of CKAN 2.10's DataStore; messages are the
-- portal's own.
use Rattle.std.specs.Prelude.{ℕ, ◌+◌, List, [], ◌∷◌, ◌++◌, codes, decimal, ◌&&◌, not, if◌then◌else◌}
use Rattle.std.specs.Prelude.{Option, Some, None, Result, Ok, Err}
use Rattle.std.specs.Str.{bytes_eq}
use Rattle.lexical_forms.specs.Digits.{is_empty}
use Rattle.portal_base.specs.declared.json_value.Json.{Json}
use Rattle.portal_base.specs.declared.kinds.KindFault.{KindFault}
use Rattle.portal_base.specs.KeyErrors.{KeyError, error_if}
use Rattle.portal_base.specs.Kinds.{list_at, message_of, text_at}
use Rattle.table_schema.specs.Messages.{cell_fault_text}
use Rattle.table_schema.specs.Values.{is_map}
use Rattle.datastore_table.specs.Put.{Worked, needs_key}
use Rattle.datastore_table.specs.declared.fault.TableFault.{TableFault}
use Rattle.datastore_table.specs.declared.fault.TableFault.TheVariants as fault
use Rattle.datastore_table.specs.declared.method.Method.{Method}
use Rattle.datastore_table.specs.declared.method.Method.TheVariants as method
use Rattle.packages.specs.Errors.{message_unless}
use Rattle.datastore_answers.specs.Linked.{put_among}
use Rattle.datastore_answers.specs.Restrict.{delete_among, is_referenced}
use Rattle.datastore_answers.specs.declared.resource_table.ResourceTable.{ResourceTable}

-- ---- faults of a table

abbrev pub row_text : ℕ → List ℕ
row_text number = codes "row " ++ decimal number

-- the record with this number and a field of it
abbrev pub field_text : ℕ → List ℕ → List ℕ
field_text number field = row_text number ++ (codes ", " ++ field)

-- the message of a table's fault
abbrev pub fault_text : TableFault → List ℕ
fault_text (fault.Cell number field why) = field_text number field ++ (codes ": " ++ cell_fault_text why)
fault_text (fault.UnknownField number field) = row_text number ++ (codes ": no field " ++ field)
fault_text (fault.KeyMissing number) = row_text number ++ codes ": key missing"
fault_text (fault.KeyTaken number) = row_text number ++ codes ": key taken"
fault_text (fault.NoSuchKey number) = row_text number ++ codes ": no such key"
fault_text (fault.Unique number field) = field_text number field ++ codes ": not unique"
fault_text (fault.Foreign number) = row_text number ++ codes ": no row referred to"
fault_text (fault.Referred id) = codes "row with _id " ++ (decimal id ++ codes " is referred to")
fault_text fault.NoKey = codes "Table has no key"
fault_text fault.Full = codes "Table is full"
fault_text fault.OutOfMemory = codes "out of memory"

-- ---- a value or an error

abbrev pub OrError : Type 0 → Type 0
OrError A = Result A (List ℕ)

-- the error, if there is one
abbrev pub error_of : {A : Type 0} → OrError A → Option (List ℕ)
error_of (Ok x) = None
error_of (Err message) = Some message

-- ---- methods

abbrev pub method_named : List ℕ → OrError Method
method_named name =
    if bytes_eq name (codes "upsert") then Ok method.Upsert
    else if bytes_eq name (codes "insert") then Ok method.Insert
    else if bytes_eq name (codes "update") then Ok method.Update
    else Err (codes "Method must be upsert, insert or update")

abbrev pub method_or_default : Result (Option (List ℕ)) KindFault → OrError Method
method_or_default (Ok None) = Ok method.Upsert
method_or_default (Ok (Some name)) = method_named name
method_or_default (Err why) = Err (message_of why)

-- the method, or an error if it needs a key and the table has none
abbrev pub require_key : List ℕ → OrError Method → OrError Method
require_key key (Ok how) = if needs_key how && is_empty key then Err (codes "Table has no key") else Ok how
require_key key (Err message) = Err message

-- the method of a body for a table with this key, or the method's error
abbrev pub read_method : List ℕ → Json → OrError Method
read_method key body = require_key key (method_or_default (text_at (codes "method") body))

-- ---- records

-- the error of the first item that isn't a dictionary; the first item has this number
abbrev pub non_dictionary_error : ℕ → List Json → Option (List ℕ)
non_dictionary_error number [] = None
non_dictionary_error number (item ∷ items) =
    if is_map item then non_dictionary_error (number + 1) items else Some
    (row_text number ++ codes ": not a dictionary")

abbrev pub unless_error : {A : Type 0} → Option (List ℕ) → A → OrError A
unless_error None x = Ok x
unless_error (Some message) x = Err message

abbrev pub records_or_none : Result (Option (List Json)) KindFault → OrError (List Json)
records_or_none (Ok None) = Ok []
records_or_none (Ok (Some items)) = unless_error (non_dictionary_error 1 items) items
records_or_none (Err why) = Err (message_of why)

-- the records of a body, or their error
abbrev pub read_records : Json → OrError (List Json)
read_records body = records_or_none (list_at (codes "records") body)

-- ---- batches

abbrev pub put_error : Result Worked TableFault → Option (List ℕ)
put_error (Ok worked) = None
put_error (Err why) = Some (fault_text why)

-- If the records and the method can be read, the error is that of putting the records into the table.
abbrev pub records_error : List ResourceTable → ResourceTable → OrError Method → OrError (List Json) → Option (List ℕ)
records_error beside t how (Err message) = Some message
records_error beside t (Err message) (Ok records) = None
records_error beside t (Ok how) (Ok records) = put_error (put_among beside how records t)

-- the errors of a method and of records for a table
abbrev pub put_errors : List ResourceTable → ResourceTable → OrError Method → OrError (List Json) → List KeyError
put_errors beside t how records =
    error_if (codes "records") (records_error beside t how records) (error_if (codes "method") (error_of how) [])

-- ---- tables that are deleted

-- the errors of deleting the table of the resource with this number
abbrev pub remove_errors : List ResourceTable → ℕ → List KeyError
remove_errors beside number =
    error_if (codes "resource_id")
    (message_unless (not (is_referenced number beside)) (codes "A table of another resource refers to it")) []

-- ---- rows that are deleted

abbrev pub delete_rows_error : Result (Unit {0}) TableFault → Option (List ℕ)
delete_rows_error (Ok u) = None
delete_rows_error (Err why) = Some (fault_text why)

-- the error of deleting the rows that filters select from the table, or the filters' own error
abbrev pub filters_error : List ResourceTable → ℕ → ResourceTable → OrError (List ℕ) → Option (List ℕ)
filters_error beside number t (Err message) = Some message
filters_error beside number t (Ok ids) = delete_rows_error (delete_among beside number ids t)

abbrev pub delete_rows_errors : List ResourceTable → ℕ → ResourceTable → OrError (List ℕ) → List KeyError
delete_rows_errors beside number t found = error_if (codes "filters") (filters_error beside number t found) []

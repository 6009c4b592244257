-- Error dictionaries: the type of an error, and its message or the messages of its keys. Their keys ascend by bytes.
use Rattle.std.specs.Prelude.{ℕ, List, [], ◌∷◌, ◌++◌, codes, map}
use Rattle.std.specs.declared.cmp.Ordering.{Ordering}
use Rattle.std.specs.Ordering.{nat_cmp}
use Rattle.std.specs.Cmp.Lexicographic.{slice_cmp}
use Rattle.portal_base.specs.KeyErrors.{KeyError}
use Rattle.portal_base.specs.Ordered.{inserted}
use Rattle.portal_base.specs.declared.json_value.Json.{Json, Map, Text}
use Rattle.portal_base.specs.declared.json_value.Json as json
use Rattle.portal_calls.specs.declared.answer.Kind.{Kind}
use Rattle.portal_calls.specs.declared.answer.Kind.TheVariants.{Dataset, Resource, Organization, Table}
use Rattle.portal_calls.specs.declared.answer.Kind.TheVariants.{HarvestSource, HarvestJob}
use Rattle.portal_calls.specs.declared.answer.Right.{Right}
use Rattle.portal_calls.specs.declared.answer.Right.TheVariants.{CreateDataset, EditDataset, PurgeDataset}
use Rattle.portal_calls.specs.declared.answer.Right.TheVariants.{CreateOrganization, AdministerOrganization}
use Rattle.portal_events.specs.declared.event.Refusal.{Refusal}
use Rattle.portal_events.specs.declared.event.Refusal.TheVariants.{NotFound, NotAuthorized, Validation, NameInUse}
use Rattle.portal_events.specs.declared.event.Refusal.TheVariants.{KeeperFault, OutOfMemory}
use Rattle.action_api.specs.declared.early.Early.{Early}
use Rattle.action_api.specs.declared.early.Early.TheVariants.{TooLong, NotJson, Fraction, UnknownAction}
use Rattle.action_api.specs.declared.early.Early.TheVariants.{OutOfMemory as no_memory}

abbrev pub kind_name : Kind → List ℕ
kind_name Dataset = codes "Dataset"
kind_name Resource = codes "Resource"
kind_name Organization = codes "Organization"
kind_name Table = codes "Table"
kind_name HarvestSource = codes "Harvest source"
kind_name HarvestJob = codes "Harvest job"

abbrev pub right_name : Right → List ℕ
right_name CreateDataset = codes "create dataset"
right_name EditDataset = codes "edit dataset"
right_name PurgeDataset = codes "purge dataset"
right_name CreateOrganization = codes "create organization"
right_name AdministerOrganization = codes "administer organization"

-- an error of the type, with a message
abbrev pub error_dictionary : List ℕ → List ℕ → Json
error_dictionary kind message = Map ((codes "__type", Text kind) ∷ (codes "message", Text message) ∷ [])

-- a list of one message
abbrev pub list_of_one : List ℕ → Json
list_of_one message = json.List (Text message ∷ [])

-- the member for a broken rule: its key with the list of its message
abbrev pub fault_member : KeyError → List ℕ × Json
fault_member fault = (fault.0, list_of_one fault.1)

-- the order of members by the bytes of their keys
abbrev pub member_cmp : List ℕ × Json → List ℕ × Json → Ordering
member_cmp m n = slice_cmp nat_cmp m.0 n.0

-- A validation error: `__type`, and each key with the list of its message, ascending by key.
abbrev pub validation_dictionary : List KeyError → Json
validation_dictionary faults =
    Map (inserted member_cmp (codes "__type", Text (codes "Validation Error")) (map fault_member faults))

-- the error for a name or an id in use, at its key
abbrev pub in_use_dictionary : List ℕ → Json
in_use_dictionary key = validation_dictionary ((key, codes "That name is already in use") ∷ [])

-- the error when memory runs out
abbrev pub memory_dictionary : Json
memory_dictionary = error_dictionary (codes "Memory Error") (codes "Want of memory")

-- the error when the store fails
abbrev pub store_dictionary : Json
store_dictionary = error_dictionary (codes "Store Error") (codes "The store failed")

abbrev pub refusal_dictionary : Refusal → Json
refusal_dictionary (NotFound kind) = error_dictionary (codes "Not Found Error") (codes "Not found: " ++ kind_name kind)
refusal_dictionary (NotAuthorized right) =
    error_dictionary (codes "Authorization Error") (codes "Access denied: " ++ right_name right)
refusal_dictionary (Validation faults) = validation_dictionary faults
refusal_dictionary (NameInUse key) = in_use_dictionary key
refusal_dictionary KeeperFault = store_dictionary
refusal_dictionary OutOfMemory = memory_dictionary

abbrev pub bad_request : List ℕ → Json
bad_request message = error_dictionary (codes "Bad Request") message

abbrev pub early_dictionary : Early → Json
early_dictionary TooLong = bad_request (codes "Body too long")
early_dictionary NotJson = bad_request (codes "JSON Error")
early_dictionary Fraction = bad_request (codes "Numbers with a fraction or an exponent are sent as text")
early_dictionary (UnknownAction name) = bad_request (codes "Action name not known: " ++ name)
early_dictionary no_memory = memory_dictionary

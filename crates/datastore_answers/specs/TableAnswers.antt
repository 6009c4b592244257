-- Answers on the table of a resource. A missing table is reported after a missing resource, and before a missing
-- right.
use Rattle.std.specs.Prelude.{ℕ, List, Option, Some, None, Result, Ok, Err, ⊤, alloc_error}
use Rattle.std.specs.declared.alloc.AllocError.{AllocError}
use Rattle.packages.specs.Named.{Located}
use Rattle.portal_calls.specs.Answer.{AcceptsOnly}
use Rattle.portal_calls.specs.declared.answer.Answer.{Answer}
use Rattle.portal_calls.specs.declared.answer.Answer.TheVariants.{Shown, Refused, Accepted}
use Rattle.portal_calls.specs.declared.answer.Denial.{Denial}
use Rattle.portal_calls.specs.declared.stop.Stop.{Stop}
use Rattle.portal_calls.specs.declared.stop.Stop.TheVariants as stop
use Rattle.visibility.specs.CallView.{CallView}
use Rattle.visibility.specs.Lookup.{resource_at}
use Rattle.datastore_answers.specs.Tables.{table_at, tables_in}
use Rattle.datastore_answers.specs.declared.address.Address.{Address}
use Rattle.datastore_answers.specs.declared.answer.TableAnswer.{TableAnswer}
use Rattle.datastore_answers.specs.declared.answer.TableAnswer.TheVariants.{NoTable, Answered}
use Rattle.datastore_answers.specs.declared.resource_table.ResourceTable.{ResourceTable}

-- ---- the resource and its table

abbrev pub address_of : Located → Address
address_of placed = record { dataset = placed.dataset.id; number = placed.resource.number }

-- the tables of the resource's dataset
abbrev pub tables_beside : Located → List ResourceTable → List ResourceTable
tables_beside placed tables = tables_in placed.dataset.id tables

-- ---- answers on the table

abbrev pub or_refused : {X C : Type 0} → Result X Denial → (X → TableAnswer C) → TableAnswer C
or_refused (Ok x) answer = answer x
or_refused (Err denial) answer = Answered (Refused denial)

abbrev pub or_no_table : {C : Type 0} → Option ResourceTable → (ResourceTable → Answer C) → TableAnswer C
or_no_table None answer = NoTable
or_no_table (Some t) answer = Answered (answer t)

-- the answer on a resource and its table, given the tables of its dataset
abbrev pub answer_for_table : {C : Type 0} → (Located → List ResourceTable → ResourceTable → Answer C) → Located
    → List ResourceTable → TableAnswer C
answer_for_table answer placed beside = or_no_table (table_at placed.resource.number beside) (answer placed beside)

-- the same for the resource that a key of the body names
abbrev pub answer_for_resource : {C : Type 0} → List ℕ → CallView → List ResourceTable
    → (Located → List ResourceTable → ResourceTable → Answer C) → TableAnswer C
answer_for_resource key view tables answer =
    or_refused (resource_at key view) (λ placed. answer_for_table answer placed (tables_beside placed tables))

-- the answer, or the refusal as the answer
abbrev pub table_answer_or_refusal : {C : Type 0} → Result (TableAnswer C) Stop → Result (TableAnswer C) AllocError
table_answer_or_refusal (Ok answer) = Ok answer
table_answer_or_refusal (Err (stop.Refused denial)) = Ok (Answered (Refused denial))
table_answer_or_refusal (Err stop.OutOfMemory) = Err alloc_error

-- ---- accepted changes

-- Each change that the answer accepts has the property.
abbrev pub TableAcceptsOnly : {C : Type 0} → (C → Type 0) → TableAnswer C → Type 0
TableAcceptsOnly P NoTable = ⊤
TableAcceptsOnly P (Answered answer) = AcceptsOnly P answer

-- the answer, with this function applied to the change that it accepts
abbrev pub map_answer : {C D : Type 0} → (C → D) → Answer C → Answer D
map_answer of (Shown json) = Shown json
map_answer of (Refused denial) = Refused denial
map_answer of (Accepted json change) = Accepted json (of change)

abbrev pub map_table_answer : {C D : Type 0} → (C → D) → TableAnswer C → TableAnswer D
map_table_answer of NoTable = NoTable
map_table_answer of (Answered answer) = Answered (map_answer of answer)

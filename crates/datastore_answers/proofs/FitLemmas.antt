-- The changes that the answers on tables accept are fit.
use Rattle.std.proofs.Common.{◌≡◌, ℕ, Bool, true, false, not, List, [], Option, Some, None, Result, Ok, Err}
use Rattle.std.proofs.Common.{refl, subst, sym}
use Rattle.std.specs.Prelude.{IfOk, codes, slice_get}
use Rattle.std.specs.List.{Contains}
use Rattle.portal_base.specs.KeyErrors.{KeyError, error_if}
use Rattle.portal_base.specs.declared.json_value.Json.{Json}
use Rattle.portal_base.proofs.Unique.{Contains-IsIn}
use Rattle.packages.specs.Named.{Located}
use Rattle.packages.specs.Errors.{message_unless}
use Rattle.portal_calls.specs.declared.answer.Answer.{Answer}
use Rattle.portal_calls.specs.Answer.{AcceptsOnly}
use Rattle.portal_calls.specs.declared.answer.Denial.{Denial}
use Rattle.portal_calls.specs.declared.answer.Quota.{Quota}
use Rattle.portal_calls.specs.declared.answer.Answer.TheVariants.{Shown, Refused, Accepted}
use Rattle.portal_calls.specs.declared.answer.Right.TheVariants.{EditDataset}
use Rattle.portal_calls.specs.declared.stop.Stop.{Stop}
use Rattle.portal_calls.specs.declared.topic.TableAction.{TableAction}
use Rattle.portal_calls.specs.declared.topic.TableAction.TheVariants.{DatastoreCreate, DatastoreInfo, DatastoreUpsert}
use Rattle.portal_calls.proofs.Answering.{AcceptsOnly-answer_if_authorized, AcceptsOnly-answer_if_valid, error_if-none}
use Rattle.visibility.specs.CallView.{CallView}
use Rattle.visibility.specs.Visibility.{may_edit_in}
use Rattle.datastore_table.specs.Put.{Worked, put_records}
use Rattle.datastore_table.specs.declared.fault.TableFault.{TableFault}
use Rattle.datastore_table.specs.declared.method.Method.{Method}
use Rattle.datastore_table.specs.declared.method.Method.TheVariants as method
use Rattle.datastore_answers.specs.TableAnswers.{TableAcceptsOnly, address_of, answer_for_table, or_no_table}
use Rattle.datastore_answers.specs.TableAnswers.{map_table_answer, or_refused, tables_beside}
use Rattle.visibility.specs.Lookup.{resource_at}
use Rattle.datastore_answers.specs.Answers.{answer_to_action, answer_to_datastore_delete, answer_to_datastore_info}
use Rattle.datastore_answers.specs.Answers.{answer_to_datastore_upsert, delete_answer, value_or, upsert_answer}
use Rattle.datastore_answers.specs.Answers.{answer_to_datastore_create, create_answer_for, accepted_create_or_fill}
use Rattle.datastore_answers.specs.Answers.{create_answer, create_table_answer}
use Rattle.datastore_answers.specs.Answers.{answer_to_datastore_delete_rows, delete_rows_answer}
use Rattle.datastore_answers.specs.Changed.{TableChange, put_into, with_worked}
use Rattle.datastore_answers.specs.Described.{described_table, unless_errors, existing_table_errors, empty_table}
use Rattle.datastore_answers.specs.Linked.{put_among}
use Rattle.datastore_answers.specs.Dictionary.{info_dictionary}
use Rattle.datastore_answers.specs.Fit.{IsFitDeleteRows, IsFitTable, IsFitCreate, IsOwn, IsFitPut}
use Rattle.datastore_answers.specs.Plan.{PlansTableAnswer, change_of}
use Rattle.datastore_answers.specs.Restrict.{is_referenced}
use Rattle.datastore_answers.specs.Tables.{table_at}
use Rattle.datastore_answers.specs.Errors.{OrError, read_method, read_records, records_error, error_of, put_errors}
use Rattle.datastore_answers.specs.Errors.{filters_error, put_error, delete_rows_errors, remove_errors}
use Rattle.datastore_answers.specs.declared.answer.TableAnswer.{TableAnswer}
use Rattle.datastore_answers.specs.declared.answer.TableAnswer.TheVariants.{Answered, NoTable}
use Rattle.datastore_answers.specs.declared.plan.TablePlan.{TablePlan}
use Rattle.datastore_answers.specs.declared.resource_table.ResourceTable.{ResourceTable}
use Rattle.datastore_answers.proofs.CreateLemmas.{IsEmptyTable, new-empty_table, unless_errors-ok}
use Rattle.datastore_answers.proofs.ViewLemmas.{resource-named, resource-seen}

-- If the method and the records have no error, the table accepts the batch.
taken : (view : CallView) (tables : List ResourceTable) (placed : Located) (t : ResourceTable)
    (own : IsOwn view tables (address_of placed)) → own.placed ≡ placed → own.table ≡ t
    → (how : OrError Method) (records : OrError (List Json))
    → put_errors (tables_beside placed tables) t how records ≡ []
    → IsFitPut view tables (address_of placed) (value_or method.Upsert how) (value_or [] records)
taken view tables placed t own same_placed same_table how records none =
    let parts = error_if-none (codes "records") (records_error (tables_beside placed tables) t how records)
    (error_if (codes "method") (error_of how) []) none in
    let read = error_if-none (codes "method") (error_of how) [] parts.0 in
    by how records read.1 parts.1
  where
    by : (h : OrError Method) (r : OrError (List Json)) → error_of h ≡ None
        → records_error (tables_beside placed tables) t h r ≡ None
        → IsFitPut view tables (address_of placed) (value_or method.Upsert h) (value_or [] r)
    by (Err m) r e f = absurd (cc)
    by (Ok h) (Err m) e f = absurd (cc)
    by (Ok h) (Ok r) e f = record { own = own; taken = rw (same_placed, same_table) f }

-- If the answer on the resource's table accepts only changes with a property, so does the answer to the call.
pub on-such : (P : TableChange → Type 0) (key : List ℕ) (view : CallView) (tables : List ResourceTable)
    (answer : Located → List ResourceTable → ResourceTable → Answer TableChange)
    → ((placed : Located) (t : ResourceTable) → resource_at key view ≡ Ok placed
    → table_at placed.resource.number (tables_beside placed tables) ≡ Some t
    → TableAcceptsOnly P (or_no_table (Some t) (answer placed (tables_beside placed tables))))
    → TableAcceptsOnly P (or_refused (resource_at key view)
    (λ placed. answer_for_table answer placed (tables_beside placed tables)))
on-such P key view tables answer only = by (resource_at key view) refl
  where
    by_table : (placed : Located) (found : Option ResourceTable) → resource_at key view ≡ Ok placed
        → table_at placed.resource.number (tables_beside placed tables) ≡ found
        → TableAcceptsOnly P (or_no_table found (answer placed (tables_beside placed tables)))
    by_table placed None named there = tt
    by_table placed (Some t) named there = only placed t named there

    by : (found : Result Located Denial) → resource_at key view ≡ found
        → TableAcceptsOnly P (or_refused found (λ placed. answer_for_table answer placed (tables_beside placed tables)))
    by (Err denial) named = tt
    by (Ok placed) named =
        by_table placed (table_at placed.resource.number (tables_beside placed tables)) named refl

pub info_only : (P : TableChange → Type 0) (view : CallView) (tables : List ResourceTable)
    → TableAcceptsOnly P (answer_to_datastore_info view tables)
info_only P view tables =
    on-such P (codes "id") view tables (λ placed beside t. Shown (info_dictionary t)) (λ placed t named there. tt)

abbrev own-of : (view : CallView) (tables : List ResourceTable) (placed : Located) (t : ResourceTable)
    → Contains view.datasets placed.dataset → may_edit_in view.people view.caller placed.dataset ≡ true
    → table_at placed.resource.number (tables_beside placed tables) ≡ Some t
    → IsOwn view tables (address_of placed)
own-of view tables placed t is_present may there = record {
  placed = placed;
  is_present = is_present;
  here = refl;
  own = may;
  table = t;
  exists = there;
}

pub upsert_fit : (view : CallView) (tables : List ResourceTable)
    → TableAcceptsOnly (IsFitTable view tables) (answer_to_datastore_upsert view tables)
upsert_fit view tables =
    on-such (IsFitTable view tables) (codes "resource_id") view tables (upsert_answer view)
    (λ placed t named there. AcceptsOnly-answer_if_authorized (IsFitTable view tables)
    (may_edit_in view.people view.caller placed.dataset) EditDataset _
    (λ may. AcceptsOnly-answer_if_valid (IsFitTable view tables) view.quota
    (put_errors (tables_beside placed tables) t (read_method t.table.schema.key view.call.request.body)
    (read_records view.call.request.body)) _
    (taken view tables placed t
    (own-of view tables placed t
    (Contains-IsIn placed.dataset view.datasets (resource-seen (codes "resource_id") view placed named))
    may there)
    refl refl (read_method t.table.schema.key view.call.request.body) (read_records view.call.request.body))))

unreferenced : (referred : Bool) (message : List ℕ) → message_unless (not referred) message ≡ None → referred ≡ false
unreferenced true message none = absurd (cc)
unreferenced false message none = refl

pub delete_fit : (view : CallView) (tables : List ResourceTable)
    → TableAcceptsOnly (IsFitTable view tables) (answer_to_datastore_delete view tables)
delete_fit view tables =
    on-such (IsFitTable view tables) (codes "resource_id") view tables (delete_answer view)
    (λ placed t named there. AcceptsOnly-answer_if_authorized (IsFitTable view tables)
    (may_edit_in view.people view.caller placed.dataset) EditDataset _
    (λ may. AcceptsOnly-answer_if_valid (IsFitTable view tables) view.quota
    (remove_errors (tables_beside placed tables) placed.resource.number) _
    (λ none. record {
      own =
          own-of view tables placed t
          (Contains-IsIn placed.dataset view.datasets (resource-seen (codes "resource_id") view placed named)) may
          there;
      unreferenced =
          unreferenced (is_referenced placed.resource.number (tables_beside placed tables))
          (codes "A table of another resource refers to it")
          (error_if-none (codes "resource_id") (message_unless
          (not (is_referenced placed.resource.number (tables_beside placed tables)))
          (codes "A table of another resource refers to it")) [] none).1;
    })))

-- If rows to be deleted have no error, no reference to them stays.
keeps_references : (view : CallView) (tables : List ResourceTable) (placed : Located) (t : ResourceTable)
    (own : IsOwn view tables (address_of placed)) → own.placed ≡ placed → own.table ≡ t → (found : OrError (List ℕ))
    → delete_rows_errors (tables_beside placed tables) placed.resource.number t found ≡ []
    → IsFitDeleteRows view tables (address_of placed) (value_or [] found)
keeps_references view tables placed t own same_placed same_table found none =
    by found (error_if-none (codes "filters")
    (filters_error (tables_beside placed tables) placed.resource.number t found) [] none).1
  where
    by : (f : OrError (List ℕ)) → filters_error (tables_beside placed tables) placed.resource.number t f ≡ None
        → IsFitDeleteRows view tables (address_of placed) (value_or [] f)
    by (Err m) e = absurd (cc)
    by (Ok ids) e = record { own = own; keeps_references = rw (same_placed, same_table) e }

pub delete_rows_fit : (view : CallView) (tables : List ResourceTable) (found : OrError (List ℕ))
    → TableAcceptsOnly (IsFitTable view tables) (answer_to_datastore_delete_rows view tables found)
delete_rows_fit view tables found =
    on-such (IsFitTable view tables) (codes "resource_id") view tables (delete_rows_answer view found)
    (λ placed t named there. AcceptsOnly-answer_if_authorized (IsFitTable view tables)
    (may_edit_in view.people view.caller placed.dataset) EditDataset _
    (λ may. AcceptsOnly-answer_if_valid (IsFitTable view tables) view.quota
    (delete_rows_errors (tables_beside placed tables) placed.resource.number t found) _
    (λ none. keeps_references view tables placed t
    (own-of view tables placed t
    (Contains-IsIn placed.dataset view.datasets (resource-seen (codes "resource_id") view placed named)) may there)
    refl refl found none)))

-- ---- new tables

-- records leave the table at its address
pub put_into-address : (how : Method) (records : List Json) (t : ResourceTable)
    → (put_into how records t).address ≡ t.address
put_into-address how records t = by (put_records how records t.table)
  where
    by : (r : Result Worked TableFault) → (with_worked t r).address ≡ t.address
    by (Ok worked) = refl
    by (Err why) = refl

-- If the change for a described table has a property, so has each change that the answer accepts.
create_answer_for-such : (P : TableChange → Type 0) (quota : Quota) (beside : List ResourceTable)
    (make : List Json → ResourceTable → Answer TableChange) (described : Result ResourceTable (List KeyError))
    (records : OrError (List Json))
    → ((t : ResourceTable) → described ≡ Ok t → put_errors beside t (Ok method.Insert) records ≡ []
    → AcceptsOnly P (make (value_or [] records) t))
    → AcceptsOnly P (create_answer_for quota beside make described records)
create_answer_for-such P quota beside make (Err errors) records only = tt
create_answer_for-such P quota beside make (Ok t) records only =
    AcceptsOnly-answer_if_valid P quota (put_errors beside t (Ok method.Insert) records) _ (only t refl)

-- A new table that accepts the records is fit.
new-fit : (view : CallView) (tables : List ResourceTable) (placed : Located) (t : ResourceTable)
    → Contains view.datasets placed.dataset
    → slice_get placed.dataset.resources placed.position ≡ Some placed.resource
    → may_edit_in view.people view.caller placed.dataset ≡ true
    → table_at placed.resource.number (tables_beside placed tables) ≡ None
    → IsEmptyTable placed (tables_beside placed tables) t → (read : OrError (List Json))
    → put_errors (tables_beside placed tables) t (Ok method.Insert) read ≡ []
    → IsFitCreate view tables (put_into method.Insert (value_or [] read) t)
new-fit view tables placed t is_present named may none empty read clear =
    let parts = error_if-none (codes "records")
    (records_error (tables_beside placed tables) t (Ok method.Insert) read) [] clear in
    subst (λ u. IsFitCreate view tables (put_into method.Insert (value_or [] read) u)) (sym empty.made) (record {
      own = record {
        placed = placed;
        is_present = is_present;
        named = named;
        here = put_into-address method.Insert (value_or [] read)
            (empty_table (address_of placed) empty.schema empty.targets);
        own = may;
      };
      none = none;
      schema = empty.schema;
      described = empty.described;
      targets = empty.targets;
      resolved = empty.resolved;
      records = value_or [] read;
      taken = subst (λ u. put_error (put_among (tables_beside placed tables) method.Insert (value_or [] read) u)
          ≡ None) empty.made (taken_by read parts.1);
      made = refl;
    })
  where
    taken_by : (r : OrError (List Json)) → records_error (tables_beside placed tables) t (Ok method.Insert) r ≡ None
        → put_error (put_among (tables_beside placed tables) method.Insert (value_or [] r) t) ≡ None
    taken_by (Ok records) e = e
    taken_by (Err m) e = absurd (cc)

same-there : (errors : List KeyError) (t u : ResourceTable) → unless_errors errors (Ok t) ≡ Ok u → u ≡ t
same-there errors t u is = let clear : Ok t ≡ Ok u = unless_errors-ok errors (Ok t) u is in cc

pub create_fit : (view : CallView) (tables : List ResourceTable)
    → TableAcceptsOnly (IsFitTable view tables) (answer_to_datastore_create view tables)
create_fit view tables = by (resource_at (codes "resource_id") view) refl
  where
    by_table : (placed : Located) → resource_at (codes "resource_id") view ≡ Ok placed → (there : Option ResourceTable)
        → table_at placed.resource.number (tables_beside placed tables) ≡ there
        → AcceptsOnly (IsFitTable view tables) (create_answer view placed (tables_beside placed tables) there)
    by_table placed named None none =
        AcceptsOnly-answer_if_authorized (IsFitTable view tables) (may_edit_in view.people view.caller placed.dataset)
        EditDataset _
        (λ may. create_answer_for-such (IsFitTable view tables) view.quota (tables_beside placed tables)
        (accepted_create_or_fill placed None)
        (described_table placed (tables_beside placed tables) view.call.request.body None)
        (read_records view.call.request.body)
        (λ t described clear.
        new-fit view tables placed t
        (Contains-IsIn placed.dataset view.datasets (resource-seen (codes "resource_id") view placed named))
        (resource-named (codes "resource_id") view placed named) may none
        (new-empty_table placed (tables_beside placed tables) view.call.request.body t described)
        (read_records view.call.request.body) clear))
    by_table placed named (Some there) exists =
        AcceptsOnly-answer_if_authorized (IsFitTable view tables) (may_edit_in view.people view.caller placed.dataset)
        EditDataset _
        (λ may. create_answer_for-such (IsFitTable view tables) view.quota (tables_beside placed tables)
        (accepted_create_or_fill placed (Some there))
        (described_table placed (tables_beside placed tables) view.call.request.body (Some there))
        (read_records view.call.request.body)
        (λ t described clear. taken view tables placed there
        (own-of view tables placed there
        (Contains-IsIn placed.dataset view.datasets (resource-seen (codes "resource_id") view placed named))
        may exists)
        refl refl (Ok method.Insert) (read_records view.call.request.body)
        (subst (λ u. put_errors (tables_beside placed tables) u (Ok method.Insert)
        (read_records view.call.request.body) ≡ [])
        (same-there (existing_table_errors there.table.schema view.call.request.body) there t described) clear)))

    by : (found : Result Located Denial) → resource_at (codes "resource_id") view ≡ found
        → TableAcceptsOnly (IsFitTable view tables)
        (or_refused found (λ placed. create_table_answer view placed (tables_beside placed tables)))
    by (Err denial) named = tt
    by (Ok placed) named =
        by_table placed named (table_at placed.resource.number (tables_beside placed tables)) refl

-- ---- every action

pub action_fit : (action : TableAction) (view : CallView) (tables : List ResourceTable)
    → TableAcceptsOnly (IsFitTable view tables) (answer_to_action action view tables)
action_fit DatastoreCreate view tables = create_fit view tables
action_fit DatastoreUpsert view tables = upsert_fit view tables
action_fit DatastoreInfo view tables = info_only (IsFitTable view tables) view tables

-- ---- readings, which plan nothing

nothing-planned : (Q : TablePlan → Type 0) (answer : TableAnswer TablePlan)
    → TableAcceptsOnly (λ change. ⊥) (map_table_answer change_of answer) → TableAcceptsOnly Q answer
nothing-planned Q NoTable none = tt
nothing-planned Q (Answered (Shown json)) none = tt
nothing-planned Q (Answered (Refused denial)) none = tt
nothing-planned Q (Answered (Accepted json plan)) none = absurd none

pub reading_plans : (Q : TablePlan → Type 0) (result : Result (TableAnswer TablePlan) Stop)
    (expected : TableAnswer TableChange) → TableAcceptsOnly (λ change. ⊥) expected → PlansTableAnswer result expected
    → IfOk result (TableAcceptsOnly Q)
reading_plans Q (Ok answer) expected none is =
    nothing-planned Q answer (subst (TableAcceptsOnly (λ change. ⊥)) (sym is) none)
reading_plans Q (Err stop) expected none is = tt

-- How an answer on a table is found.
use Rattle.std.proofs.Common.{◌≡◌, ℕ, true, List, [], Some, None, Result, Ok, Err, refl, sym, ap, ◌∙◌}
use Rattle.std.specs.Prelude.{IfOk, codes}
use Rattle.std.specs.Borrow.{Bor}
use Rattle.std.specs.Result.{result_map_both}
use Rattle.packages.specs.Named.{Located}
use Rattle.portal_base.specs.KeyErrors.{error_if}
use Rattle.portal_base.specs.declared.json_value.Json.{Json}
use Rattle.portal_calls.specs.Answer.{AcceptsOnly, denial_of, quota_error}
use Rattle.portal_calls.specs.declared.answer.Answer.{Answer}
use Rattle.portal_calls.specs.declared.answer.Answer.TheVariants.{Refused}
use Rattle.portal_calls.specs.declared.answer.Denial.{Denial}
use Rattle.visibility.specs.CallView.{CallView}
use Rattle.visibility.specs.Visibility.{may_edit_in}
use Rattle.datastore_table.specs.declared.method.Method.{Method}
use Rattle.datastore_answers.specs.TableAnswers.{answer_for_table, answer_for_resource, or_no_table}
use Rattle.datastore_answers.specs.TableAnswers.{or_refused}
use Rattle.visibility.specs.Lookup.{resource_at}
use Rattle.datastore_answers.specs.TableAnswers.{tables_beside}
use Rattle.datastore_answers.specs.Answers.{answer_to_datastore_create, create_answer, create_table_answer}
use Rattle.datastore_answers.specs.Answers.{upsert_answer_for}
use Rattle.datastore_answers.specs.Changed.{TableChange}
use Rattle.portal_calls.specs.declared.stop.Stop.{Stop}
use Rattle.portal_calls.specs.declared.stop.Stop.TheVariants as stop
use Rattle.datastore_answers.specs.Plan.{IsPlanned, PlansAnswer, PlansTableAnswer}
use Rattle.datastore_answers.specs.Tables.{Stored, table_at, tables_seen}
use Rattle.datastore_answers.specs.Errors.{OrError, records_error, error_of}
use Rattle.datastore_answers.specs.declared.answer.TableAnswer.TheVariants.{NoTable, Answered}
use Rattle.datastore_answers.specs.declared.plan.TablePlan.{TablePlan}
use Rattle.datastore_answers.specs.declared.resource_table.ResourceTable.{ResourceTable}
use Rattle.datastore_answers.proofs.ViewLemmas.{answer-seen, beside-answer}

-- ---- the resource and its table

-- If the table exists, the answer on it is the answer.
pub on-there : {C : Type 0} (key : List ℕ) (view : CallView) (tables : List ResourceTable)
    (answer : Located → List ResourceTable → ResourceTable → Answer C) (placed : Located) (t : ResourceTable)
    (given : Answer C) → Ok placed ≡ resource_at key view
    → table_at placed.resource.number (tables_beside placed tables) ≡ Some t
    → given ≡ answer placed (tables_beside placed tables) t
    → Answered given ≡ answer_for_resource key view (tables_seen view.datasets tables) answer
on-there {C} key view tables answer placed t given found there same =
    ap Answered same
    ∙ ap (λ o. or_no_table o (answer placed (tables_beside placed tables))) (sym there)
    ∙ ap (λ (r : Result Located Denial). or_refused r (λ p. answer_for_table answer p (tables_beside p tables))) found
    ∙ sym (answer-seen key view tables answer)

-- If the resource has no table, that is the answer.
pub on-none : {C : Type 0} (key : List ℕ) (view : CallView) (tables : List ResourceTable)
    (answer : Located → List ResourceTable → ResourceTable → Answer C) (placed : Located)
    → Ok placed ≡ resource_at key view → table_at placed.resource.number (tables_beside placed tables) ≡ None
    → NoTable ≡ answer_for_resource key view (tables_seen view.datasets tables) answer
on-none {C} key view tables answer placed found none =
    ap (λ o. or_no_table o (answer placed (tables_beside placed tables))) (sym none)
    ∙ ap (λ (r : Result Located Denial). or_refused r (λ p. answer_for_table answer p (tables_beside p tables))) found
    ∙ sym (answer-seen key view tables answer)

-- What stops the answer on the table stops the answer to the call.
pub stopped-there : (key : List ℕ) (view : CallView) (tables : List ResourceTable)
    (answer : Located → List ResourceTable → ResourceTable → Answer TableChange) (placed : Located) (t : ResourceTable)
    (why : Stop) → Ok placed ≡ resource_at key view
    → table_at placed.resource.number (tables_beside placed tables) ≡ Some t
    → PlansAnswer (Err why) (answer placed (tables_beside placed tables) t)
    → PlansTableAnswer (Err why) (answer_for_resource key view (tables_seen view.datasets tables) answer)
stopped-there key view tables answer placed t (stop.Refused denial) found there same =
    on-there key view tables answer placed t (Refused denial) found there same
stopped-there key view tables answer placed t stop.OutOfMemory found there same = tt

-- ---- new tables

-- A `datastore_create` is answered whether or not the resource has a table.
pub create-there : (view : CallView) (tables : List ResourceTable) (placed : Located) (given : Answer TableChange)
    → Ok placed ≡ resource_at (codes "resource_id") view
    → given ≡ create_answer view placed (tables_beside placed tables)
    (table_at placed.resource.number (tables_beside placed tables))
    → Answered given ≡ answer_to_datastore_create view (tables_seen view.datasets tables)
create-there view tables placed given found same =
    ap Answered same
    ∙ ap (λ (r : Result Located Denial). or_refused r (λ p. create_table_answer view p (tables_beside p tables))) found
    ∙ sym (beside-answer (codes "resource_id") view tables (create_table_answer view))

pub create-stopped : (view : CallView) (tables : List ResourceTable) (placed : Located) (why : Stop)
    → Ok placed ≡ resource_at (codes "resource_id") view
    → PlansAnswer (Err why) (create_answer view placed (tables_beside placed tables)
    (table_at placed.resource.number (tables_beside placed tables)))
    → PlansTableAnswer (Err why) (answer_to_datastore_create view (tables_seen view.datasets tables))
create-stopped view tables placed (stop.Refused denial) found same =
    create-there view tables placed (Refused denial) found same
create-stopped view tables placed stop.OutOfMemory found same = tt

-- ---- records

pub method-error : (beside : List ResourceTable) (t : ResourceTable) (message : List ℕ) (read : OrError (List Json))
    → records_error beside t (Err message) read ≡ error_of read
method-error beside t message (Ok records) = refl
method-error beside t message (Err other) = refl

-- An answer that accepts nothing for any stored tables accepts nothing for these.
pub at-stored : {E : Type 0} (r : Result (Answer TablePlan) E) (stored : Stored)
    → IfOk r (λ a. (s : Stored) → AcceptsOnly (λ p. IsPlanned p s) a)
    → IfOk r (λ a. AcceptsOnly (λ p. IsPlanned p stored) a)
at-stored (Ok a) stored nothing = nothing stored
at-stored (Err e) stored nothing = tt

-- Borrowed records have the same error as the records themselves.
pub error-now : (recs : Result (Bor (List Json)) (List ℕ)) → error_of recs
    ≡ error_of (result_map_both (λ (r : Bor (List Json)). r.now) (λ (m : List ℕ). m) recs)
error-now (Ok r) = refl
error-now (Err m) = refl

-- If the method can't be read, the answer has its error, and the records' error.
pub method-refused : (view : CallView) (placed : Located) (beside : List ResourceTable) (t : ResourceTable)
    (how : OrError Method) (message : List ℕ) (recs : Result (Bor (List Json)) (List ℕ)) (read : OrError (List Json))
    (denial : Denial) → may_edit_in view.people view.caller placed.dataset ≡ true → how ≡ Err message
    → result_map_both (λ (r : Bor (List Json)). r.now) (λ (m : List ℕ). m) recs ≡ read
    → Some denial ≡ denial_of (error_if (codes "body") (quota_error view.quota)
    (error_if (codes "records") (error_of recs) (error_if (codes "method") (Some message) [])))
    → Refused denial ≡ upsert_answer_for view placed beside t how read
method-refused view placed beside t how message recs read denial may is same refusal =
    rw (may, is, method-error beside t message read, ← same, ← error-now recs, ← refusal) refl

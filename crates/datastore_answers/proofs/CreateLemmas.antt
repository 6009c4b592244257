-- The tables that bodies describe, and the answer to a call that creates a table.
use Rattle.std.proofs.Common.{◌≡◌, ℕ, List, [], ◌∷◌, Option, Some, None, Ok, Err, refl}
use Rattle.std.proofs.Common.{sym, ap, ◌∙◌}
use Rattle.std.specs.Prelude.{IfOk, Result, codes, unwrap_or}
use Rattle.std.specs.Borrow.{Bor}
use Rattle.std.specs.Result.{result_map_both}
use Rattle.packages.specs.Named.{Located}
use Rattle.portal_base.specs.KeyErrors.{KeyError, error_if, read_value}
use Rattle.portal_base.specs.declared.json_value.Json.{Json}
use Rattle.portal_base.specs.Kinds.{list_at, present, texts_at}
use Rattle.portal_calls.specs.Answer.{answer_if_valid, quota_error}
use Rattle.portal_calls.specs.declared.answer.Answer.{Answer}
use Rattle.portal_calls.specs.declared.answer.Answer.TheVariants.{Refused}
use Rattle.portal_calls.specs.declared.answer.Denial.{Denial}
use Rattle.portal_calls.specs.declared.answer.Denial.TheVariants.{Validation}
use Rattle.portal_calls.specs.declared.answer.Quota.{Quota}
use Rattle.portal_calls.specs.declared.stop.Stop.{Stop}
use Rattle.table_schema.specs.Field.{SchemaValue}
use Rattle.table_schema.specs.Keys.{schema_reading}
use Rattle.table_schema.specs.Written.{IsDescribed}
use Rattle.table_schema.specs.declared.fault.SchemaFault.{SchemaFault}
use Rattle.table_schema.proofs.WrittenLemmas.{reading-described}
use Rattle.datastore_table.specs.Results.{◌>>>◌}
use Rattle.datastore_table.proofs.ResultLemmas.{bound-ok}
use Rattle.datastore_table.specs.declared.method.Method.TheVariants as method
use Rattle.datastore_answers.specs.TableAnswers.{address_of}
use Rattle.datastore_answers.specs.Answers.{create_answer_for, authorized_create_answer}
use Rattle.datastore_answers.specs.Answers.{accepted_create_or_fill}
use Rattle.datastore_answers.specs.Changed.{TableChange}
use Rattle.datastore_answers.specs.Described.{Given, described_table, described_new, names_or_none, schema_or_error}
use Rattle.datastore_answers.specs.Described.{unless_errors}
use Rattle.datastore_answers.specs.Described.{table_of_descriptor, existing_table_errors, empty_table}
use Rattle.datastore_answers.specs.Resolution.{resolved_targets}
use Rattle.datastore_answers.specs.Linked.{put_among}
use Rattle.datastore_answers.specs.Plan.{PlansAnswer}
use Rattle.datastore_answers.specs.Tables.{without_room}
use Rattle.datastore_answers.specs.Errors.{OrError, put_error, error_of}
use Rattle.datastore_answers.specs.declared.plan.TablePlan.{TablePlan}
use Rattle.datastore_answers.specs.declared.resource_table.ResourceTable.{ResourceTable}
use Rattle.datastore_answers.proofs.AnswerLemmas.{error-now}

-- ---- values without errors

pub unless_errors-ok : {A : Type 0} (errors : List KeyError) (read : OrError A) (x : A) → unless_errors errors read
    ≡ Ok x → read ≡ Ok x
unless_errors-ok [] (Ok y) x is = let same : y ≡ x = cc in ap Ok same
unless_errors-ok [] (Err m) x is = absurd (cc)
unless_errors-ok (f ∷ fs) read x is = absurd (cc)

-- if there are errors, they are the result
pub unless_errors-some : {A : Type 0} (errors : List KeyError) (read : OrError A) → (errors ≡ [] → ⊥)
    → unless_errors errors read ≡ Err errors
unless_errors-some [] read some = absurd (some refl)
unless_errors-some (f ∷ fs) read some = refl

-- the names that were read of a key, if it is present
pub names-read : (given : Given (List (List ℕ)))
    → unwrap_or (unwrap_or (read_value given) None) [] ≡ names_or_none given
names-read (Ok (Some names)) = refl
names-read (Ok None) = refl
names-read (Err why) = refl

-- Equal descriptions describe the same table.
pub described-same : {E : Type 0} (result : Result (Result ResourceTable (List KeyError)) E)
    (one other : Result ResourceTable (List KeyError)) → one ≡ other
    → IfOk result (λ d. result_map_both without_room (λ (f : List KeyError). f) d ≡ one)
    → IfOk result (λ d. result_map_both without_room (λ (f : List KeyError). f) d ≡ other)
described-same (Err e) one other same is = tt
described-same (Ok d) one other same is = is ∙ same

-- ---- a new table

-- The table belongs to the resource, has no rows and a schema that its own descriptor reads as, and its foreign keys
-- reference tables of the dataset.
pub record IsEmptyTable (placed : Located) (beside : List ResourceTable) (t : ResourceTable) : Type 0 where
  pub schema : SchemaValue
  pub described : IsDescribed schema
  pub targets : List ℕ
  pub resolved : resolved_targets placed beside schema ≡ Ok targets
  pub made : t ≡ empty_table (address_of placed) schema targets

schema-ok : (read : Result SchemaValue SchemaFault) (schema : SchemaValue) → schema_or_error read ≡ Ok schema
    → read ≡ Ok schema
schema-ok (Ok own) schema is = ap Ok (same own schema is)
  where
    same : (a b : SchemaValue) → ◌≡◌ {A = OrError SchemaValue} (Ok a) (Ok b) → a ≡ b
    same a b alike = cc
schema-ok (Err why) schema is = absurd (cc)

descriptor-empty_table : (placed : Located) (beside : List ResourceTable) (descriptor : Json) (t : ResourceTable)
    → table_of_descriptor placed beside descriptor ≡ Ok t → IsEmptyTable placed beside t
descriptor-empty_table placed beside descriptor t is =
    let read = bound-ok (schema_or_error (schema_reading descriptor)) (λ (schema : SchemaValue).
    (resolved_targets placed beside schema >>> λ targets. Ok (empty_table (address_of placed) schema targets))) t is in
    let resolved = bound-ok (resolved_targets placed beside read.0)
    (λ targets. Ok (empty_table (address_of placed) read.0 targets)) t
    read.2 in
    let same : empty_table (address_of placed) read.0 resolved.0 ≡ t = cc in
    record {
      schema = read.0;
      described = reading-described descriptor read.0 (schema-ok (schema_reading descriptor) read.0 read.1);
      targets = resolved.0;
      resolved = resolved.1;
      made = sym same;
    }

pub new-empty_table : (placed : Located) (beside : List ResourceTable) (body : Json) (t : ResourceTable)
    → described_table placed beside body None ≡ Ok t → IsEmptyTable placed beside t
new-empty_table placed beside body t is =
    by (list_at (codes "fields") body) (texts_at (codes "primary_key") body) (present (codes "schema") body) is
  where
    by : (fields : Given (List Json)) (key : Given (List (List ℕ))) (descriptor : Option Json)
        → described_new placed beside fields key descriptor ≡ Ok t → IsEmptyTable placed beside t
    by (Ok None) key None same = absurd (cc)
    by (Ok None) key (Some descriptor) same =
        descriptor-empty_table placed beside descriptor t
        (unless_errors-ok _ (table_of_descriptor placed beside descriptor) t same)
    by (Ok (Some items)) key descriptor same = descriptor-empty_table placed beside _ t (unless_errors-ok _ _ t same)
    by (Err why) key descriptor same = absurd (cc (unless_errors-ok _ _ t same))

-- ---- answers

-- If the body describes no table, the answer has its errors, and the records' error.
pub refuse_description-answer : (quota : Quota) (beside : List ResourceTable)
    (make : List Json → ResourceTable → Answer TableChange) (described : Result ResourceTable (List KeyError))
    (errors : List KeyError) (recs : Result (Bor (List Json)) (List ℕ)) (denial : Denial)
    → described ≡ Err errors
    → denial ≡ Validation (error_if (codes "body") (quota_error quota)
    (error_if (codes "records") (error_of recs) errors))
    → Refused denial ≡ create_answer_for quota beside make described
    (result_map_both (λ (r : Bor (List Json)). r.now) (λ (m : List ℕ). m) recs)
refuse_description-answer quota beside make described errors recs denial is same =
    rw (is, ← error-now recs) (ap Refused same)

-- If the body describes a table and the records can be read, the answer is that of putting the records into it.
pub made-answer : (result : Result (Answer TablePlan) Stop) (quota : Quota) (beside other : List ResourceTable)
    (make : List Json → ResourceTable → Answer TableChange) (described : Result ResourceTable (List KeyError))
    (t : ResourceTable) (records : List Json) (read : OrError (List Json))
    → described ≡ Ok t → read ≡ Ok records → other ≡ beside
    → PlansAnswer result (answer_if_valid quota (error_if (codes "records")
    (put_error (put_among other method.Insert records t)) []) (make records t))
    → PlansAnswer result (create_answer_for quota beside make described read)
made-answer result quota beside other make described t records read is was here same =
    rw (is, was, ← here) same

-- If the body has errors for an existing table, the answer has them, and the records' error.
pub other-answer : (quota : Quota) (placed : Located) (beside : List ResourceTable) (body : Json)
    (recs : Result (Bor (List Json)) (List ℕ)) (there : Option ResourceTable) (t : ResourceTable)
    (errors : List KeyError) (denial : Denial) → Some t ≡ there
    → errors ≡ existing_table_errors t.table.schema body → (errors ≡ [] → ⊥)
    → denial ≡ Validation (error_if (codes "body") (quota_error quota)
    (error_if (codes "records") (error_of recs) errors))
    → Refused denial ≡ authorized_create_answer quota placed beside body
    (result_map_both (λ (r : Bor (List Json)). r.now) (λ (m : List ℕ). m) recs) there
other-answer quota placed beside body recs there t errors denial is same_errors some same =
    refuse_description-answer quota beside (accepted_create_or_fill placed there)
    (described_table placed beside body there) errors recs denial
    (ap (described_table placed beside body) (sym is)
    ∙ ap (λ fs. unless_errors fs (Ok t)) (sym same_errors)
    ∙ unless_errors-some errors (Ok t) some)
    same

-- The answers given all tables are those given the tables of the view.
use Rattle.std.proofs.Common.{◌≡◌, ℕ, Bool, List, [], length, Option, Some, Result, Ok, Err, refl, sym, ap, ◌∙◌, subst}
use Rattle.std.specs.Prelude.{codes}
use Rattle.portal_base.specs.KeyErrors.{KeyError, error_if}
use Rattle.portal_base.specs.declared.json_value.Json.{Json}
use Rattle.portal_base.specs.declared.json_value.Json as json
use Rattle.packages.specs.Resources.{resource_for, resource_errors}
use Rattle.packages.proofs.Built.{built_id}
use Rattle.visibility.specs.TableSummary.{TableSummary, summaries_seen}
use Rattle.visibility.specs.CallView.{CallView}
use Rattle.visibility.proofs.TableSummaryLemmas.{IsIdAmong}
use Rattle.portal_calls.specs.Answer.{answer_if_found, denial_of, quota_error, answer_if_valid, answer_unless_denied}
use Rattle.portal_calls.specs.declared.answer.Answer.{Answer}
use Rattle.portal_calls.specs.declared.answer.Answer.TheVariants.{Shown, Refused, Accepted}
use Rattle.portal_calls.specs.declared.answer.Denial.{Denial}
use Rattle.portal_calls.specs.declared.answer.Quota.{Quota}
use Rattle.dataset_answers.specs.Answers.{answer_to_package_change, answer_to_package_show}
use Rattle.dataset_answers.specs.Answers.{answer_to_resource_create, answer_to_resource_delete}
use Rattle.dataset_answers.specs.Answers.{answer_to_resource_show, answer_to_resource_update}
use Rattle.dataset_answers.specs.Lookup.{dataset_at, naming_key, editable_dataset_at, editable_resource_at}
use Rattle.visibility.specs.Lookup.{resource_at}
use Rattle.dataset_answers.specs.Bodies.{changed_dataset, new_resource_errors, with_new_resource}
use Rattle.dataset_answers.specs.Bodies.{with_resource_at, without_resource_at}
use Rattle.dataset_answers.specs.declared.change.DatasetChange.{DatasetChange}
use Rattle.dataset_answers.specs.declared.change.DatasetChange.TheVariants.{Replace}
use Rattle.dataset_answers.proofs.Fitting.{at-located, at-is_present, editable-located, editable-own}
use Rattle.dataset_answers.proofs.TableSummaryLemmas.{id-among, lost_table_error-view, package-view, resource-view}
use Rattle.dataset_answers.proofs.TableSummaryLemmas.{change_errors-view}

-- an answer given all tables is the one given the tables of the view
pub by_all_tables : {C : Type 0} {given all view : Answer C} → all ≡ view → given ≡ all → given ≡ view
by_all_tables same is = is ∙ same

-- two answers on a thing that is found
answer_if_found-alike : {X C : Type 0} (found : Result X Denial) (one other : X → Answer C)
    → ((thing : X) → found ≡ Ok thing → one thing ≡ other thing) → answer_if_found found one ≡ answer_if_found found other
answer_if_found-alike (Ok thing) one other alike = alike thing refl
answer_if_found-alike (Err denial) one other alike = refl

-- accepted answers with the same errors and the same reply
answer_if_valid-alike : (quota : Quota) (errors others : List KeyError) (shown other : Json) (change : DatasetChange)
    → errors ≡ others
    → shown ≡ other → answer_if_valid quota errors (Accepted shown change) ≡ answer_if_valid quota others (Accepted other change)
answer_if_valid-alike quota errors others shown other change same like =
    ap (λ (faults : List KeyError). answer_if_valid quota faults (Accepted shown change)) same
    ∙ ap (λ (j : Json). answer_if_valid quota others (Accepted j change)) like

-- a refusal, if there are errors
pub rule_broken : {C : Type 0} (quota : Quota) (errors : List KeyError) (answer : Answer C) (faults : List KeyError)
    (given : Option Denial) (denial : Denial) → faults ≡ errors
    → given ≡ denial_of (error_if (codes "body") (quota_error quota) faults) → given ≡ Some denial
    → Refused denial ≡ answer_if_valid quota errors answer
rule_broken quota errors answer faults given denial as_errors is some =
    ap (λ (d : Option Denial). answer_unless_denied d answer)
    (sym some ∙ is ∙ ap (λ (fs : List KeyError). denial_of (error_if (codes "body") (quota_error quota) fs)) as_errors)

-- ---- datasets

pub show_same : (view : CallView) (summaries : List TableSummary)
    → answer_to_package_show view summaries ≡ answer_to_package_show view (summaries_seen view.datasets summaries)
show_same view summaries =
    answer_if_found-alike (dataset_at (codes "id") view) _ _
    (λ dataset found. ap Shown (package-view view.people view.datasets summaries dataset
    (id-among dataset view.datasets (at-is_present (codes "id") view dataset found))))

pub change_same : (whole : Bool) (view : CallView) (summaries : List TableSummary)
    → answer_to_package_change whole view summaries ≡ answer_to_package_change whole view (summaries_seen view.datasets summaries)
change_same whole view summaries =
    let body = view.call.request.body in
    answer_if_found-alike (editable_dataset_at (naming_key body) view) _ _
    (λ dataset own. let changed = changed_dataset view.call whole dataset in
    let among : IsIdAmong changed.id view.datasets =
    subst (λ (id : List ℕ). IsIdAmong id view.datasets) (sym (built_id body dataset whole))
    (id-among dataset view.datasets (editable-own (naming_key body) view dataset own).is_present) in
    answer_if_valid-alike view.quota _ _ _ _ (Replace changed)
    (change_errors-view view.people view.datasets summaries body dataset changed among)
    (package-view view.people view.datasets summaries changed among))

-- ---- resources

pub resource_show_same : (view : CallView) (summaries : List TableSummary)
    → answer_to_resource_show view summaries ≡ answer_to_resource_show view (summaries_seen view.datasets summaries)
resource_show_same view summaries =
    answer_if_found-alike (resource_at (codes "id") view) _ _
    (λ located found. ap Shown
    (resource-view view.datasets summaries located.dataset.id located.position located.resource
    (id-among located.dataset view.datasets (at-located view located found).is_present)))

pub resource_create_same : (view : CallView) (summaries : List TableSummary)
    → answer_to_resource_create view summaries ≡ answer_to_resource_create view (summaries_seen view.datasets summaries)
resource_create_same view summaries =
    let body = view.call.request.body in
    answer_if_found-alike (editable_dataset_at (codes "package_id") view) _ _
    (λ dataset own. let resource = resource_for dataset.next_resource body in
    answer_if_valid-alike view.quota (new_resource_errors dataset body) (new_resource_errors dataset body) _ _
    (Replace (with_new_resource view.call dataset resource)) refl
    (resource-view view.datasets summaries dataset.id (length dataset.resources) resource
    (id-among dataset view.datasets (editable-own (codes "package_id") view dataset own).is_present)))

pub resource_update_same : (view : CallView) (summaries : List TableSummary)
    → answer_to_resource_update view summaries ≡ answer_to_resource_update view (summaries_seen view.datasets summaries)
resource_update_same view summaries =
    let body = view.call.request.body in
    answer_if_found-alike (editable_resource_at view) _ _
    (λ located own. let resource = resource_for located.resource.number body in
    answer_if_valid-alike view.quota (resource_errors body) (resource_errors body) _ _
    (Replace (with_resource_at view.call located.dataset located.position resource)) refl
    (resource-view view.datasets summaries located.dataset.id located.position resource
    (id-among located.dataset view.datasets (editable-located view located own).own.is_present)))

pub resource_delete_same : (view : CallView) (summaries : List TableSummary)
    → answer_to_resource_delete view summaries ≡ answer_to_resource_delete view (summaries_seen view.datasets summaries)
resource_delete_same view summaries =
    answer_if_found-alike (editable_resource_at view) _ _
    (λ located own. let less = without_resource_at view.call located.dataset located.position in
    answer_if_valid-alike view.quota _ _ json.Null json.Null (Replace less)
    (ap (λ (error : Option (List ℕ)). error_if (codes "id") error [])
    (lost_table_error-view view.datasets summaries less
    (id-among located.dataset view.datasets (editable-located view located own).own.is_present))) refl)

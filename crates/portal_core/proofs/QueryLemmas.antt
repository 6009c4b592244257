-- Queries of the table of a resource that a call names.
use Rattle.std.proofs.Common.{◌≡◌, ℕ, Bool, true, false, List, Option, Some, None, Ok, refl, sym, ap, ◌∙◌}
use Rattle.std.specs.Prelude.{codes}
use Rattle.portal_base.specs.declared.json_value.Json.{Json}
use Rattle.packages.specs.Named.{Located}
use Rattle.visibility.specs.CallView.{CallView}
use Rattle.visibility.specs.Visibility.{may_edit_in}
use Rattle.datastore_answers.specs.Answers.{answer_to_datastore_delete_rows, delete_rows_answer}
use Rattle.datastore_answers.specs.Errors.{OrError}
use Rattle.datastore_answers.specs.TableAnswers.{or_no_table, tables_beside}
use Rattle.visibility.specs.Lookup.{resource_at}
use Rattle.datastore_answers.specs.Tables.{table_at, tables_seen}
use Rattle.datastore_answers.specs.declared.resource_table.ResourceTable.{ResourceTable}
use Rattle.datastore_answers.proofs.ViewLemmas.{beside-seen, resource-seen}
use Rattle.portal_state.specs.Queries.{find_rows_of_resource, rows_at_resource, rows_in_table}

-- ---- rows that filters find

-- The table beside one that is seen is found among all tables.
found-seen : (view : CallView) (tables : List ResourceTable) (filters : List (List ℕ × Json)) (positioned : Located)
    → Ok positioned ≡ resource_at (codes "resource_id") view
    → rows_in_table filters (table_at positioned.resource.number (tables_beside positioned tables))
    ≡ find_rows_of_resource view (tables_seen view.datasets tables) filters
found-seen view tables filters positioned found =
    ap (λ beside. rows_in_table filters (table_at positioned.resource.number beside))
    (sym (beside-seen positioned view.datasets tables (resource-seen (codes "resource_id") view positioned
    (sym found))))
    ∙ ap (rows_at_resource filters (tables_seen view.datasets tables)) found

-- To a caller that may not edit the dataset, the answer is the same whatever rows the filters select.
unauthorized : (view : CallView) (tables : List ResourceTable) (positioned : Located) (one other : OrError (List ℕ))
    → Ok positioned ≡ resource_at (codes "resource_id") view
    → may_edit_in view.people view.caller positioned.dataset ≡ false
    → answer_to_datastore_delete_rows view tables one ≡ answer_to_datastore_delete_rows view tables other
unauthorized view tables positioned one other found may =
    rw (← found) (same (table_at positioned.resource.number (tables_beside positioned tables)))
  where
    same : (there : Option ResourceTable)
        → or_no_table there (delete_rows_answer view one positioned (tables_beside positioned tables))
        ≡ or_no_table there (delete_rows_answer view other positioned (tables_beside positioned tables))
    same None = refl
    same (Some t) = rw may refl

-- The rows need to be found only for a caller that may edit the dataset.
pub delete-filtered : (view : CallView) (tables : List ResourceTable) (filters : List (List ℕ × Json))
    (positioned : Located) (rows : OrError (List ℕ)) → Ok positioned ≡ resource_at (codes "resource_id") view
    → (may_edit_in view.people view.caller positioned.dataset ≡ true
    → rows ≡ rows_in_table filters (table_at positioned.resource.number (tables_beside positioned tables)))
    → answer_to_datastore_delete_rows view (tables_seen view.datasets tables) rows
    ≡ answer_to_datastore_delete_rows view (tables_seen view.datasets tables)
    (find_rows_of_resource view (tables_seen view.datasets tables) filters)
delete-filtered view tables filters positioned rows found are =
    by (may_edit_in view.people view.caller positioned.dataset) refl
  where
    by : (b : Bool) → may_edit_in view.people view.caller positioned.dataset ≡ b
        → answer_to_datastore_delete_rows view (tables_seen view.datasets tables) rows
        ≡ answer_to_datastore_delete_rows view (tables_seen view.datasets tables)
        (find_rows_of_resource view (tables_seen view.datasets tables) filters)
    by true may =
        ap (answer_to_datastore_delete_rows view (tables_seen view.datasets tables))
        (are may ∙ found-seen view tables filters positioned found)
    by false may = unauthorized view (tables_seen view.datasets tables) positioned rows _ found may

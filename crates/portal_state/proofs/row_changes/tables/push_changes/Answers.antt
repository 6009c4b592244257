-- The batch was prepared on the table at its address.
use Rattle.std.proofs.Common.{◌≡◌, ◌++◌, ◌∙◌, List, OnOk, ap, subst, sym}
use Rattle.std.proofs.lemmas.Option.{same_Some}
use Rattle.datastore_answers.specs.Plan.{IsPlanned, IsPutReady}
use Rattle.datastore_answers.specs.declared.plan.TablePlan.{TablePlan}
use Rattle.datastore_answers.specs.declared.resource_table.ResourceTable.{ResourceTable}
use Rattle.datastore_table.specs.Batch.{IsReady}
use Rattle.portal_keeper.specs.declared.change.Change.{Change}
use Rattle.portal_state.specs.ChangedRows.{changes_if, changes_of_batch, changes_of_tables}
use Rattle.portal_state.proofs.row_changes.tables.push_changes.Goals as goal

pub push_batch-requires : goal.push_batch-requires
push_batch-requires c =
    let planned : IsPutReady c.in-Put.address c.in-Put.field-1 c.in-Put.field-2.value c.in-Put.batch
    c.args.tables.now.tables =
    subst (λ (p : TablePlan). IsPlanned p c.args.tables.now) c.in-Put.is c.requires in
    subst (λ (t : ResourceTable). IsReady c.in-Put.batch t.table)
    (same_Some planned.table c.in-Some-get.table.now (sym planned.exists ∙ sym c.in-Some-get.ensures.found))
    planned.ready

pub returns-in-Some-get-clause-changes : goal.returns-in-Some-get-clause-changes
returns-in-Some-get-clause-changes c =
    subst (λ (l : List Change). OnOk c.push_batch.result
    (c.push_batch.new.changes.items ≡ c.args.changes.now.items ++ l))
    (sym (ap (λ (p : TablePlan). changes_of_tables p c.args.tables.now.tables) c.in-Put.is
    ∙ ap (changes_if (changes_of_batch c.in-Put.batch.work)) (sym c.in-Some-get.ensures.found)))
    c.push_batch.ensures.changes

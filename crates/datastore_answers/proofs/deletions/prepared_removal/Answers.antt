use Rattle.std.proofs.Common.{◌≡◌, IfOk, Ok, subst, sym}
use Rattle.datastore_table.specs.Batch.{delete_checked}
use Rattle.datastore_answers.proofs.deletions.prepared_removal.Goals as goal

-- The table is as it was.
pub returns-clause-keeps_references : goal.returns-clause-keeps_references
returns-clause-keeps_references c =
    subst (λ table. IfOk c.prepare_delete.result (λ removal. delete_checked c.args.ids.now table ≡ Ok tt))
    (sym c.prepare_delete.ensures.same) c.prepare_delete.ensures.held

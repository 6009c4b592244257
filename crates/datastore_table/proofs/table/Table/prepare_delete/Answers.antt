use Rattle.std.proofs.Common.{◌∙◌, ap, inr, sym}
use Rattle.datastore_table.specs.Batch.{delete_checked}
use Rattle.datastore_table.proofs.WorkLemmas.{err_of}
use Rattle.datastore_table.proofs.table.Table.prepare_delete.Goals as goal

pub returns-clause-ready : goal.returns-clause-ready
returns-clause-ready c = sym c.check_delete.ensures ∙ c.in_ok-check_delete.was

pub returns-clause-held : goal.returns-clause-held
returns-clause-held c =
    ap (λ ids. delete_checked ids c.args.self.now) (sym (c.in_ok-ids.ensures ∙ c.as_slice.ensures))
    ∙ returns-clause-ready c

pub returns-in_err-check_delete-clause-fault : goal.returns-in_err-check_delete-clause-fault
returns-in_err-check_delete-clause-fault c =
    err_of c.from_residual-in_err-check_delete.result c.in_err-check_delete.field-0.0 (delete_checked c.args.ids.now c.args.self.now)
    c.from_residual-in_err-check_delete.ensures.1
    (inr (ap (λ ids. delete_checked ids c.args.self.now) (sym (c.in_ok-ids.ensures ∙ c.as_slice.ensures))
    ∙ sym c.check_delete.ensures ∙ c.in_err-check_delete.was))

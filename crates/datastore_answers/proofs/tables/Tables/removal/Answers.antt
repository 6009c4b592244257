use Rattle.std.proofs.Common.{◌≡◌, ◌∙◌, ap, sym, subst, List, ℕ}
use Rattle.datastore_table.proofs.WorkLemmas.{err_of, through}
use Rattle.datastore_answers.specs.Plan.{IsRemovalReady}
use Rattle.datastore_answers.specs.Restrict.{delete_at, tables_restrict}
use Rattle.datastore_answers.specs.Tables.{Stored, tables_in, tables_of}
use Rattle.datastore_answers.specs.Errors.{delete_rows_error}
use Rattle.datastore_answers.specs.declared.address.Address.{Address}
use Rattle.datastore_answers.proofs.BatchLemmas.{some-found}
use Rattle.datastore_answers.proofs.RestrictLemmas.{delete_rows-refused, delete_rows-there}
use Rattle.datastore_answers.proofs.tables.Tables.removal.Goals as goal

pub removal_at-requires : goal.removal_at-requires
removal_at-requires c =
    let address : Address = record { dataset = c.args.dataset.now; number = c.args.number } in
    record { exists = some-found address c.args.self.now.tables c.requires.exists }

pub returns-in_err-removal-clause-fault : goal.returns-in_err-removal-clause-fault
returns-in_err-removal-clause-fault c =
    let address : Address = record { dataset = c.args.dataset.now; number = c.args.number } in
    err_of c.from_residual.result c.in_err-removal.field-0.0
    (delete_at (tables_in c.args.dataset.now (tables_of c.args.self.now)) c.args.number c.args.ids.now)
    c.from_residual.ensures.1
    (delete_rows-refused address c.args.self.now.tables c.args.ids.now c.in_err-removal.field-0.0
    c.in_err-removal.ensures.fault)

pub returns-in_err-check_tables-clause-fault : goal.returns-in_err-check_tables-clause-fault
returns-in_err-check_tables-clause-fault c =
    let address : Address = record { dataset = c.args.dataset.now; number = c.args.number } in
    let keys = c.in_ok-removal.removal.keys in
    let reading = delete_at (tables_in c.args.dataset.now (tables_of c.args.self.now)) c.args.number c.args.ids.now in
    let checked = tables_restrict keys c.args.number c.tables_in-tables.result.now in
    let same_check : reading ≡ checked =
    delete_rows-there c.args.self.now c.removal_at.new.self address c.args.ids.now c.in_ok-removal.removal
    c.removal_at.ensures.same c.in_ok-removal.ensures.removal
    ∙ ap (tables_restrict keys c.args.number)
    (sym (c.tables_in-tables.ensures
    ∙ ap (tables_in c.args.dataset.now) (c.as_slice.ensures.value ∙ ap (λ (s : Stored). s.tables) c.self.view_is))) in
    err_of c.from_residual-in_err-check_tables.result c.in_err-check_tables.field-0.0 reading
    c.from_residual-in_err-check_tables.ensures.1
    (through reading checked c.in_err-check_tables.field-0.0 same_check c.in_err-check_tables.ensures.err)

pub returns-clause-keeps_references : goal.returns-clause-keeps_references
returns-clause-keeps_references c =
    let address : Address = record { dataset = c.args.dataset.now; number = c.args.number } in
    let keys = c.in_ok-removal.removal.keys in
    ap delete_rows_error
    (delete_rows-there c.args.self.now c.removal_at.new.self address c.args.ids.now c.in_ok-removal.removal
    c.removal_at.ensures.same c.in_ok-removal.ensures.removal
    ∙ ap (tables_restrict keys c.args.number)
    (sym (c.tables_in-tables.ensures
    ∙ ap (tables_in c.args.dataset.now) (c.as_slice.ensures.value ∙ ap (λ (s : Stored). s.tables) c.self.view_is)))
    ∙ c.in_ok-check_tables.ensures.ok)

pub returns-clause-ready : goal.returns-clause-ready
returns-clause-ready c =
    let address : Address = record { dataset = c.args.dataset.now; number = c.args.number } in
    subst (λ (ids : List ℕ). IsRemovalReady address ids c.removal_at.new.self.tables)
    (sym c.in_ok-removal.ensures.removal.rows) c.in_ok-removal.ensures.removal.delete_rows

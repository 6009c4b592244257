use Rattle.std.proofs.Common.{◌≡◌, Ok, Some}
use Rattle.std.proofs.lemmas.Result.{IfOk-at_ok, IfOk-weaker}
use Rattle.std.specs.Prelude.{IsTrue}
use Rattle.portal_file.proofs.OpeningLemmas.{orgs_named, roles_in_orgs}
use Rattle.portal_file.specs.File.{file_of_tables}
use Rattle.portal_file.specs.Opening.{are_in_orgs, are_named}
use Rattle.portal_file.proofs.file.PortalFile.read.Goals as goal
use Rattle.toml.specs.View.{table_view}

pub returns-clause-named : goal.returns-clause-named
returns-clause-named c =
    let tables = table_view c.in_ok-table.table in
    IfOk-weaker c.file_of_table.result (λ file. file_of_tables (Some tables) ≡ Ok file)
    (λ file. IsTrue (are_named file.orgs))
    (λ file e. IfOk-at_ok (λ file. IsTrue (are_named file.orgs)) e (orgs_named tables)) c.file_of_table.ensures.ok

pub returns-clause-in_orgs : goal.returns-clause-in_orgs
returns-clause-in_orgs c =
    let tables = table_view c.in_ok-table.table in
    IfOk-weaker c.file_of_table.result (λ file. file_of_tables (Some tables) ≡ Ok file)
    (λ file. IsTrue (are_in_orgs file.orgs file.roles))
    (λ file e. IfOk-at_ok (λ file. IsTrue (are_in_orgs file.orgs file.roles)) e (roles_in_orgs tables))
    c.file_of_table.ensures.ok

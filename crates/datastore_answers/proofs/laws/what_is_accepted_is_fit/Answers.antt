use Rattle.datastore_answers.specs.Fit.{IsFitTable}
use Rattle.datastore_answers.proofs.FitLemmas.{create_fit, delete_fit, delete_rows_fit, info_only, upsert_fit}
use Rattle.datastore_answers.proofs.laws.what_is_accepted_is_fit.Goals as goal

pub returns-clause-datastore_create : goal.returns-clause-datastore_create
returns-clause-datastore_create c = create_fit

pub returns-clause-datastore_upsert : goal.returns-clause-datastore_upsert
returns-clause-datastore_upsert c = upsert_fit

pub returns-clause-datastore_delete : goal.returns-clause-datastore_delete
returns-clause-datastore_delete c = delete_fit

pub returns-clause-datastore_delete_rows : goal.returns-clause-datastore_delete_rows
returns-clause-datastore_delete_rows c = delete_rows_fit

pub returns-clause-datastore_info : goal.returns-clause-datastore_info
returns-clause-datastore_info c = λ view tables. info_only (IsFitTable view tables) view tables

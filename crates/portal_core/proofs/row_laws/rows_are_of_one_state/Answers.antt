-- The two states have the same values. No table has the target 0, which stands for the table's own number. The sources at
-- rest are those that are restored from the values.
use Rattle.portal_core.proofs.OneState.{same-datasets, same-orgs, same-roles, same-sources, same-tables}
use Rattle.portal_core.proofs.row_laws.rows_are_of_one_state.Goals as goal

pub returns-clause-organizations : goal.returns-clause-organizations
returns-clause-organizations c = same-orgs

pub returns-clause-roles : goal.returns-clause-roles
returns-clause-roles c = same-roles

pub returns-clause-datasets : goal.returns-clause-datasets
returns-clause-datasets c = same-datasets

pub returns-clause-tables : goal.returns-clause-tables
returns-clause-tables c = same-tables

pub returns-clause-sources : goal.returns-clause-sources
returns-clause-sources c = same-sources

-- A state has the rows of its values, and no two values have the same rows.
use Rattle.portal_core.proofs.OneState.{known-rows, known-state}
use Rattle.portal_core.proofs.row_laws.rows_of_a_valid_state_are_known_by_their_values.Goals as goal

pub returns-clause-exist : goal.returns-clause-exist
returns-clause-exist c = known-rows

pub returns-clause-known : goal.returns-clause-known
returns-clause-known c = known-state

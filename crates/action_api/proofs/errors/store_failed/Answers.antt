-- The message is a constant of the program.
use Rattle.action_api.proofs.errors.store_failed.Goals as goal

pub returns : goal.returns
returns c = rw c.from_static.ensures at c.error_json.ensures

-- The message ends in the name.
use Rattle.action_api.proofs.errors.unknown_action.Goals as goal

pub returns : goal.returns
returns c = rw c.as_str.ensures at c.named_error_json.ensures

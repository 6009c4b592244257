-- Each arm's error is the one that the dictionary has at that refusal.
use Rattle.action_api.proofs.errors.refusal_json.Goals as goal

pub returns-in-NotFound : goal.returns-in-NotFound
returns-in-NotFound c = rw c.in-NotFound.is (rw c.name_of_kind.ensures at c.named_error_json.ensures)

pub returns-in-NotAuthorized : goal.returns-in-NotAuthorized
returns-in-NotAuthorized c =
    rw c.in-NotAuthorized.is (rw c.name_of_right.ensures at c.named_error_json-in-NotAuthorized.ensures)

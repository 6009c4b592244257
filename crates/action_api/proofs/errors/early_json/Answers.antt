-- Each arm's error is the one that the dictionary has at that fault.
use Rattle.action_api.proofs.errors.early_json.Goals as goal

pub returns-in-NotJson : goal.returns-in-NotJson
returns-in-NotJson c = rw c.in-NotJson.is c.bad_request-in-NotJson.ensures

pub returns-in-Fraction : goal.returns-in-Fraction
returns-in-Fraction c = rw c.in-Fraction.is c.bad_request-in-Fraction.ensures

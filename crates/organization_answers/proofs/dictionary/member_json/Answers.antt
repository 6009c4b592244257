use Rattle.organization_answers.proofs.dictionary.member_json.Goals as goal

pub returns : goal.returns
returns c = rw c.name_of_role.ensures at c.dictionary.ensures.same

use Rattle.dataset_answers.proofs.dictionary.resource_json.Goals as goal

pub returns : goal.returns
returns g c = rw (c.in_ok-id.ensures, c.has_table.ensures) at c.dictionary.ensures.same

use Rattle.harvest_answers.proofs.dictionary.job_json.Goals as goal

pub returns : goal.returns
returns c =
    rw (c.name.ensures, c.in_ok-stats.ensures, c.in_ok-id.ensures, c.as_str.ensures) at c.dictionary.ensures.same

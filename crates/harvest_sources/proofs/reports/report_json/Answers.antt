use Rattle.harvest_sources.proofs.reports.report_json.Goals as goal

pub returns : goal.returns
returns c =
    rw (← c.in_ok-bad.ensures, ← c.in_ok-cause.ensures, ← c.name.ensures) c.dictionary.ensures.same

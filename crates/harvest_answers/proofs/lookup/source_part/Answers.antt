use Rattle.std.proofs.Common.{Some, None}
use Rattle.harvest_answers.proofs.JobLemmas.{part_names}
use Rattle.harvest_answers.proofs.lookup.source_part.Goals as goal

pub returns-in-Some : goal.returns-in-Some
returns-in-Some c =
    part_names c.args.id.now (Some (c.in-Some.source.now, c.in-Some.field-0-1.now)) c.in-Some.ensures

pub returns-in-None : goal.returns-in-None
returns-in-None c = part_names c.args.id.now None c.in-None.ensures

use Rattle.dcat_map.proofs.Marks.{after_mark-split, after_mark-unsplit}
use Rattle.dcat_map.proofs.distributions.after_mark.Goals as goal

pub returns-in-Some : goal.returns-in-Some
returns-in-Some c = after_mark-split c.args.mark c.args.text.now c.in-Some.field-0-0.now c.in-Some.rest.now
    c.in-Some.ensures.cases c.requires

pub returns-in-None : goal.returns-in-None
returns-in-None c = after_mark-unsplit c.args.mark c.args.text.now c.in-None.ensures.cases c.requires

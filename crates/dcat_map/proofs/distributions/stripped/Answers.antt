use Rattle.dcat_map.proofs.Marks.{stripped-cases}
use Rattle.dcat_map.proofs.distributions.stripped.Goals as goal

pub returns : goal.returns
returns c = stripped-cases c.args.front.now c.args.text.now c.strip_prefix.result c.strip_prefix.ensures.cases

use Rattle.http_front.proofs.RouteLemmas.{without_prefix-cases}
use Rattle.http_front.proofs.action_target.without_prefix.Goals as goal

pub returns : goal.returns
returns c = without_prefix-cases c.args.front.now c.args.text.now c.strip_prefix.result c.strip_prefix.ensures.cases

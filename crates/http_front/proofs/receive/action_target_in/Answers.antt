use Rattle.std.proofs.Common.{subst}
use Rattle.http_front.specs.HeadParse.{IsHeadParse}
use Rattle.http_front.proofs.ReceiveLemmas.{fault_all, asks_none, never_few}
use Rattle.http_front.proofs.receive.action_target_in.Goals as goal

pub returns-in_ok-without_route-in-Invalid-clause-asks : goal.returns-in_ok-without_route-in-Invalid-clause-asks
returns-in_ok-without_route-in-Invalid-clause-asks g c mark rest reads few =
    let never = subst (λ parse. IsHeadParse c.args.text.now parse) c.in-Invalid.is c.in_ok-parse.ensures in
    let fault = c.in_ok-without_route-in-Invalid.field-0 in
    fault_all fault (asks_none _ c.args.text.now mark fault (never_few c.args.text.now never)
    (c.in_ok-without_route-in-Invalid.ensures.gives mark rest reads few))

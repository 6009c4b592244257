use Rattle.std.proofs.Common.{◌∙◌, ap, subst}
use Rattle.std.specs.Prelude.{if◌then◌else◌}
use Rattle.http_front.specs.Fields.{has_bad_length}
use Rattle.http_front.specs.Head.{marked}
use Rattle.http_front.specs.HeadParse.{IsHeadParse}
use Rattle.http_front.specs.declared.fault.FrontFault.TheVariants.{BadHead, NoRoute}
use Rattle.http_front.proofs.HeadLemmas.{same_fields}
use Rattle.http_front.proofs.receive.without_route.Goals as goal

pub returns-in-Complete-clause-gives : goal.returns-in-Complete-clause-gives
returns-in-Complete-clause-gives c mark rest reads few =
    let whole = subst (λ parse. IsHeadParse (marked c.args.text.now) parse) c.in-Complete.is c.in_ok-parse.ensures in
    c.fault_of.ensures.gives ∙ ap (λ fields. if has_bad_length fields then BadHead else NoRoute)
    (same_fields (marked c.args.text.now) c.in-Complete.mark mark rest whole reads)

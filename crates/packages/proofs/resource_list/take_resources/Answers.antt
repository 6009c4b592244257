-- A list with an error leaves the resources and the next number.
use Rattle.std.specs.Option.{option_copied}
use Rattle.packages.specs.Resources.{resources_error}
use Rattle.packages.proofs.Reading.{kept-if-faulty}
use Rattle.packages.proofs.resource_list.take_resources.Goals as goal

pub returns-in-Err-clause-resources : goal.returns-in-Err-clause-resources
returns-in-Err-clause-resources c =
    let error = resources_error (option_copied c.args.old) c.args.items.now in
    kept-if-faulty c.add_fault.result error _ _ (c.add_fault.ensures.rule error c.in-Err.ensures.error)

pub returns-in-Err-clause-next : goal.returns-in-Err-clause-next
returns-in-Err-clause-next c =
    let error = resources_error (option_copied c.args.old) c.args.items.now in
    kept-if-faulty c.add_fault.result error _ _ (c.add_fault.ensures.rule error c.in-Err.ensures.error)

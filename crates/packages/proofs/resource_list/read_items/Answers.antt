use Rattle.std.proofs.Common.{◌<◌, length, take, arith}
use Rattle.std.specs.Option.{option_copied}
use Rattle.packages.specs.Resources.{item_error}
use Rattle.packages.proofs.Reading.{item-fault}
use Rattle.packages.proofs.resource_list.read_items.Goals as goal

pub returns-in-Err-clause-error : goal.returns-in-Err-clause-error
returns-in-Err-clause-error c =
    let items = c.args.items.now in
    let i = c.loop-index.index in
    let old = option_copied c.args.old in
    let within : i < length items = omega arith in
    item-fault old items i c.index-items-index.result c.item_fault.result within c.index-items-index.is
    c.loop-index.invariant.0
    (c.item_fault.ensures (item_error old (take i items) c.index-items-index.result) c.in-Err.ensures.error)

use Rattle.std.proofs.Common.{◌∙◌, Some, None}
use Rattle.harvest_answers.proofs.ViewLemmas.{look_up, stored_ascending}
use Rattle.harvest_answers.proofs.lookup.find_source.Goals as goal

pub find_in_order-requires : goal.find_in_order-requires
find_in_order-requires c = stored_ascending c.args.sources.now c.requires.ascending

pub returns-in-Some : goal.returns-in-Some
returns-in-Some c =
    let viewer = c.args.context.now.viewer in
    c.if_seen.ensures
    ∙ look_up viewer.caller viewer.people c.args.sources.now c.args.name.now (Some c.in-Some.found.now)
    c.requires.ascending c.in-Some.ensures

pub returns-in-None : goal.returns-in-None
returns-in-None c =
    let viewer = c.args.context.now.viewer in
    look_up viewer.caller viewer.people c.args.sources.now c.args.name.now None c.requires.ascending c.in-None.ensures

use Rattle.std.proofs.Common.{◌≡◌, take}
use Rattle.std.specs.List.{filter_map}
use Rattle.harvest_answers.specs.Dictionary.{seen_dictionary}
use Rattle.harvest_answers.proofs.dictionary.seen_sources_json.Given as goal

abbrev pub invariant-loop-source : goal.invariant-loop-source
invariant-loop-source l =
    l.list.items
    ≡ filter_map (seen_dictionary l.context.viewer.people l.context.viewer.caller) (take l.source-index l.sources)

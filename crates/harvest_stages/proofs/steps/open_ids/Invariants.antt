use Rattle.std.proofs.Common.{◌≡◌, take}
use Rattle.std.specs.List.{filter_map}
use Rattle.harvest_sources.specs.Sources.{states}
use Rattle.harvest_stages.proofs.LocatedLemmas.{open_id}
use Rattle.harvest_stages.proofs.steps.open_ids.Given as goal

abbrev pub invariant-loop-source : goal.invariant-loop-source
invariant-loop-source l = l.ids.items ≡ filter_map open_id (take l.source-index (states l.sources))

use Rattle.std.proofs.Common.{◌≡◌, take}
use Rattle.std.specs.List.{filter_map}
use Rattle.dcat_map.specs.Tags.{tag_of}
use Rattle.dcat_map.proofs.tags.all_tags.Given as goal

abbrev pub invariant-loop-triple : goal.invariant-loop-triple
invariant-loop-triple l = l.tags.items ≡ filter_map (λ t. tag_of t.object) (take l.triple-index l.triples)

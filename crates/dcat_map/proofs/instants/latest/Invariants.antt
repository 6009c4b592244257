use Rattle.std.proofs.Common.{◌≡◌, take}
use Rattle.std.specs.List.{filter_map}
use Rattle.std.specs.Ordering.{flip_args, int_cmp}
use Rattle.dcat_map.specs.Sets.{least}
use Rattle.dcat_map.specs.Instants.{moment_of}
use Rattle.dcat_map.proofs.instants.latest.Given as goal

abbrev pub invariant-loop-triple : goal.invariant-loop-triple
invariant-loop-triple l =
    l.best ≡ least (flip_args int_cmp) (filter_map (λ t. moment_of t.object) (take l.triple-index l.triples))

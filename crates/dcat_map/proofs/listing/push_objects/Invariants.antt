use Rattle.std.proofs.Common.{◌≡◌, ◌++◌, map, take}
use Rattle.dcat_map.proofs.listing.push_objects.Given as goal

abbrev pub invariant-loop-triple : goal.invariant-loop-triple
invariant-loop-triple l = l.objects.items ≡ l.initial.objects.items
    ++ map (λ t. t.object) (take l.triple-index l.triples)

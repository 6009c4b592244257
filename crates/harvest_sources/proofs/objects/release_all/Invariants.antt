use Rattle.std.proofs.Common.{◌≡◌, ◌++◌, map, take, drop}
use Rattle.harvest_sources.specs.Listings.{released_object}
use Rattle.harvest_sources.proofs.objects.release_all.Given as goal

abbrev pub invariant-loop-object : goal.invariant-loop-object
invariant-loop-object l =
    l.objects ≡ map released_object (take l.object-index l.initial.objects) ++ drop l.object-index l.initial.objects

use Rattle.std.proofs.Common.{◌≡◌, take}
use Rattle.std.specs.List.{filter_map}
use Rattle.harvest_sources.specs.Listings.{bad_object}
use Rattle.harvest_sources.proofs.objects.bad_objects.Given as goal

abbrev pub invariant-loop-object : goal.invariant-loop-object
invariant-loop-object l = l.bad.items ≡ filter_map bad_object (take l.object-index l.objects)

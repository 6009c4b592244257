use Rattle.std.proofs.Common.{◌≡◌, map}
use Rattle.harvest_readings.specs.Catalogues.{item_in}
use Rattle.harvest_readings.proofs.catalogue.items_in.Given as goal

abbrev pub invariant-loop-iri : goal.invariant-loop-iri
invariant-loop-iri l = l.items.items ≡ map (item_in l.graph) l.yielded

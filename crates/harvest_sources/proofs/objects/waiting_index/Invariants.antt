use Rattle.harvest_sources.specs.Listings.{NoneWaitsBefore}
use Rattle.harvest_sources.proofs.objects.waiting_index.Given as goal

abbrev pub invariant-loop-index : goal.invariant-loop-index
invariant-loop-index l = NoneWaitsBefore l.index l.objects

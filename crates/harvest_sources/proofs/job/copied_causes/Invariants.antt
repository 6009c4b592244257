use Rattle.std.proofs.Common.{◌≡◌, take}
use Rattle.harvest_sources.proofs.job.copied_causes.Given as goal

-- The causes so far are copied.
abbrev pub invariant-loop-iri : goal.invariant-loop-iri
invariant-loop-iri l = l.copy.items ≡ take l.iri-index l.iri-items

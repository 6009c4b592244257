use Rattle.std.proofs.Common.{◌≡◌, ◌<◌, ◌++◌, ℕ, drop, get_or, map, take}
use Rattle.harvest_sources.specs.Sources.{HasItsJobs, SourceState, states}
use Rattle.harvest_sources.specs.Steps.{renewed}
use Rattle.harvest_stages.proofs.step_commits.renew_all.Given as goal

-- The sources so far are renewed.
abbrev pub invariant-loop-source : goal.invariant-loop-source
invariant-loop-source l = record {
  renewed : states l.sources
      ≡ map renewed (take l.source-index (states l.initial.sources)) ++ drop l.source-index (states l.initial.sources);
  holds : (k : ℕ) (d : SourceState) → k < l.source-index → HasItsJobs (get_or (states l.sources) k d);
}

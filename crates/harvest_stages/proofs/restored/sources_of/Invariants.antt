use Rattle.std.proofs.Common.{◌≡◌, true, map}
use Rattle.std.specs.List.{list_all}
use Rattle.harvest_sources.specs.Sources.{states}
use Rattle.harvest_stages.specs.Groups.{is_sound_group, state_of}
use Rattle.harvest_stages.proofs.restored.sources_of.Given as goal

-- The groups so far are sound, and their sources have their jobs.
abbrev pub invariant-loop-group : goal.invariant-loop-group
invariant-loop-group l = record {
  made : states l.sources.items ≡ map state_of l.yielded;
  sound : list_all is_sound_group l.yielded ≡ true;
}

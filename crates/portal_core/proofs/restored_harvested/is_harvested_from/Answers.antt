use Rattle.std.proofs.Common.{sym}
use Rattle.harvest_stages.specs.Stages.{sources_in}
use Rattle.portal_core.proofs.SoundAmong.{harvest-tested, no-harvest}
use Rattle.portal_core.proofs.restored_harvested.is_harvested_from.Goals as goal

pub returns-in-Some : goal.returns-in-Some
returns-in-Some c =
    harvest-tested c.is_harvest_of.result (sources_in c.args.sources.now) c.args.dataset.now c.in-Some.jobs.now.state
    c.source-in-Some.result.now c.requires (sym (rw c.in-Some.is at c.source.ensures)) c.source-in-Some.ensures.source
    c.is_harvest_of.ensures

pub returns-in-None : goal.returns-in-None
returns-in-None c = (
  λ holds. absurd (cc),
  λ from. absurd (no-harvest (sources_in c.args.sources.now) c.args.dataset.now (sym (rw c.in-None.is at c.source.ensures))
      from),
)

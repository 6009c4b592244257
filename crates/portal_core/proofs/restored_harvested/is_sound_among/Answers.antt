use Rattle.std.proofs.Common.{sym, ◌∙◌}
use Rattle.harvest_stages.specs.Stages.{sources_in}
use Rattle.portal_core.proofs.SoundAmong.{harvested-tested, made-tested}
use Rattle.portal_core.proofs.restored_harvested.is_sound_among.Goals as goal

pub returns-then-is_harvested : goal.returns-then-is_harvested
returns-then-is_harvested c =
    harvested-tested c.is_harvested_from.result c.args.people.now.people (sources_in c.args.sources.now)
    c.args.dataset.now c.requires (sym c.is_harvested.ensures ∙ c.if-is_harvested.true) c.is_harvested_from.ensures

pub returns-else-is_harvested : goal.returns-else-is_harvested
returns-else-is_harvested c =
    made-tested c.is_sound.result c.args.people.now.people (sources_in c.args.sources.now) c.args.dataset.now c.requires
    (sym c.is_harvested.ensures ∙ c.if-is_harvested.false) c.is_sound.ensures

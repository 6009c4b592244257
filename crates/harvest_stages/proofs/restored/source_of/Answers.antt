use Rattle.std.proofs.Common.{sym}
use Rattle.harvest_stages.proofs.RestoreLemmas.{restored_holds}
use Rattle.harvest_stages.proofs.restored.source_of.Goals as goal

pub restored-requires : goal.restored-requires
restored-requires c =
    restored_holds c.args.group c.has_one_open.result c.in_ok-jobs.jobs.items c.requires c.has_one_open.ensures
    c.if-not-has_one_open.false (sym c.in_ok-jobs.ensures.exactly) c.in_ok-jobs.ensures.items

use Rattle.std.proofs.Common.{sym}
use Rattle.harvest_readings.proofs.FoundLemmas.{fault-not_described, fault-untitled, found-elsewhere}
use Rattle.harvest_readings.proofs.FoundLemmas.{found-good, found-untitled}
use Rattle.harvest_readings.proofs.catalogue.found_in.Goals as goal

pub returns-in-Ok : goal.returns-in-Ok
returns-in-Ok c = sym (found-good c.args.graph.now c.args.iri.now _ c.in-Ok.ensures.record_is)

pub returns-in-Err-NotDescribed : goal.returns-in-Err-NotDescribed
returns-in-Err-NotDescribed c =
    sym (found-elsewhere c.args.graph.now c.args.iri.now
    (fault-not_described _ c.in-Err-NotDescribed.field-0 c.in-Err-NotDescribed.ensures.fault
    c.in-Err-NotDescribed.field-0-is))

pub returns-in-Err-NoTitle : goal.returns-in-Err-NoTitle
returns-in-Err-NoTitle c =
    sym (found-untitled c.args.graph.now c.args.iri.now
    (fault-untitled _ c.in-Err-NoTitle.field-0 c.in-Err-NoTitle.ensures.fault c.in-Err-NoTitle.field-0-is))

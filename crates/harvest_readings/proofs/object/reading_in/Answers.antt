use Rattle.std.proofs.Common.{ap, sym}
use Rattle.dcat_map.specs.Records.{description_of}
use Rattle.harvest_readings.specs.Catalogues.{reading_by}
use Rattle.harvest_readings.proofs.FoundLemmas.{fault-not_described, fault-untitled}
use Rattle.harvest_readings.proofs.object.reading_in.Goals as goal

pub returns-in-Ok : goal.returns-in-Ok
unfolding description_of
returns-in-Ok c = sym (ap reading_by c.in-Ok.ensures.record_is)

pub returns-in-Err-NotDescribed : goal.returns-in-Err-NotDescribed
unfolding description_of
returns-in-Err-NotDescribed c =
    sym (ap reading_by
    (fault-not_described (description_of c.args.triples.now c.args.iri.now) c.in-Err-NotDescribed.field-0
    c.in-Err-NotDescribed.ensures.fault c.in-Err-NotDescribed.field-0-is))

pub returns-in-Err-NoTitle : goal.returns-in-Err-NoTitle
unfolding description_of
returns-in-Err-NoTitle c =
    sym (ap reading_by
    (fault-untitled (description_of c.args.triples.now c.args.iri.now) c.in-Err-NoTitle.field-0
    c.in-Err-NoTitle.ensures.fault c.in-Err-NoTitle.field-0-is))

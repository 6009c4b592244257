use Rattle.std.proofs.Common.{subst, sym}
use Rattle.ntriples.specs.Document.{IsFault}
use Rattle.harvest_readings.proofs.document.triples_in.Goals as goal

pub returns-in-Ok : goal.returns-in-Ok
returns-in-Ok c =
    sym ((c.a_document_is_read_by_the_grammar.ensures.document _ _).1 c.in-Ok.ensures.triples)

pub returns-in-Err-Line : goal.returns-in-Err-Line
returns-in-Err-Line c =
    sym ((c.a_document_is_read_by_the_grammar.ensures.bad _ _).1
    (subst (IsFault c.args.bytes.now) c.in-Err-Line.field-0-is c.in-Err-Line.ensures.fault))

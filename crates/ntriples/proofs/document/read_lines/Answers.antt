use Rattle.ntriples.proofs.DocumentLemmas.{UnderWay-start, UnderWay-more, UnderWay-done}
use Rattle.ntriples.proofs.document.read_lines.Goals as goal

pub loop-triples-init : goal.loop-triples-init
loop-triples-init c = UnderWay-start c.args.bytes.now c.new-triples.result c.new-triples.ensures

pub returns-in-None-clause-triples : goal.returns-in-None-clause-triples
returns-in-None-clause-triples c =
    let cut = rw c.in-None.is at c.split_line.ensures.cut in
    UnderWay-done c.args.bytes.now c.loop-triples.rest.now c.loop-triples.triples c.loop-triples.ended
    c.loop-triples.invariant c.split_line.result.0.now c.push_line.new.triples cut c.in-Ok.ensures

pub loop-triples-preserved : goal.loop-triples-preserved
loop-triples-preserved c =
    let cut = rw c.in-Some.is at c.split_line.ensures.cut in
    let shorter = rw c.in-Some.is at c.split_line.ensures.shorter in
    UnderWay-more c.args.bytes.now c.loop-triples.rest.now c.loop-triples.triples c.loop-triples.ended
    c.loop-triples.invariant c.split_line.result.0.now c.in-Some.following.now c.push_line.new.triples cut
    c.in-Ok.ensures shorter

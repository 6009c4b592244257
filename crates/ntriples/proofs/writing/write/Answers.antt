use Rattle.std.proofs.Common.{vec_items}
use Rattle.ntriples.proofs.DocumentForms.{written_back}
use Rattle.ntriples.proofs.writing.write.Goals as goal

pub returns-clause-back : goal.returns-clause-back
returns-clause-back c = written_back vec_items c.text_of.result c.args.triples.now c.text_of.ensures c.requires

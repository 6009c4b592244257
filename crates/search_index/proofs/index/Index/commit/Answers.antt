use Rattle.search_index.proofs.EntryLemmas.{stands_with}
use Rattle.search_index.proofs.index.Index.commit.Goals as goal

pub returns-clause-stands : goal.returns-clause-stands
returns-clause-stands c =
    stands_with c.args.terms.number c.args.terms.terms c.args.self.now c.set.new.self c.set.ensures.entered

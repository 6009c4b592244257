use Rattle.datastore_query.proofs.WordLemmas.{once-words}
use Rattle.datastore_query.proofs.words.once.Goals as goal

pub returns : goal.returns
returns c = λ p.
    once-words c.args.words.items c.sort_unstable.new.self.items c.dedup.new.self.items
    c.sort_unstable.ensures.permutation c.dedup.ensures.filtered p

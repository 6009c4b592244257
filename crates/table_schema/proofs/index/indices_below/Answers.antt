use Rattle.std.proofs.Common.{◌≡◌, ◌++◌, ◌∷◌, []}
use Rattle.table_schema.proofs.IndexLemmas.{AreBelow-more}
use Rattle.table_schema.proofs.index.indices_below.Goals as goal

pub loop-index-preserved : goal.loop-index-preserved
loop-index-preserved c =
    let pushed : c.push.new.self.items ≡ c.loop-index.indices.items ++ c.loop-index.index ∷ [] =
    c.in_ok-push.ensures.items in
    rw pushed (AreBelow-more c.loop-index.index c.loop-index.indices.items c.loop-index.invariant)

use Rattle.std.proofs.Common.{◌∷◌}
use Rattle.std.specs.HashSet.{contains_text}
use Rattle.portal_file.proofs.KeyedLemmas.{more_keys, more_later}
use Rattle.portal_file.proofs.text_set.keys_of.Goals as goal

pub loop-last-preserved : goal.loop-last-preserved
loop-last-preserved g c =
    let inv = c.loop-last.invariant in
    record {
      later = c.in-Some.last.now ∷ inv.later;
      splits = more_later c.args.items.now c.loop-last.rest.now c.in-Some.front.now inv.later c.in-Some.last.now
          inv.splits c.in-Some.ensures.cases.0;
      keys = λ q.
          more_keys g.T.Keyed.key c.in-Some.last.now inv.later c.key.result.now q (contains_text c.add.new.texts q)
          (contains_text c.loop-last.keys q) c.key.ensures (c.in_ok-add.ensures.texts q) (inv.keys q);
    }

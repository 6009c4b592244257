use Rattle.std.proofs.Common.{◌∙◌, ◌∷◌, ap, sym}
use Rattle.std.specs.HashSet.{contains_text}
use Rattle.portal_file.specs.Keyed.{are_distinct}
use Rattle.portal_file.proofs.KeyedLemmas.{distinct_here, key_is_later, key_is_new, more_keys, more_later}
use Rattle.portal_file.proofs.KeyedLemmas.{repeated_after, repeated_here}
use Rattle.portal_file.proofs.text_set.are_distinct.Goals as goal

pub returns-then-not-branch : goal.returns-then-not-branch
returns-then-not-branch g c =
    let inv = c.loop-last.invariant in
    let repeats = key_is_later g.T.Keyed.key c.in-Some.last.now inv.later c.key.result.now c.in_ok-add.field-0
    (contains_text c.loop-last.later c.key.result.now) c.key.ensures c.in_ok-add.ensures.new c.if-not-branch.true
    (inv.keys c.key.result.now) in
    sym (ap (are_distinct g.T.Keyed.key) (more_later c.args.items.now c.loop-last.rest.now c.in-Some.front.now inv.later
    c.in-Some.last.now inv.splits c.in-Some.ensures.cases.0)
    ∙ repeated_after g.T.Keyed.key c.in-Some.front.now (c.in-Some.last.now ∷ inv.later)
    (repeated_here g.T.Keyed.key c.in-Some.last.now inv.later repeats))

pub loop-last-preserved : goal.loop-last-preserved
loop-last-preserved g c =
    let inv = c.loop-last.invariant in
    record {
      later = c.in-Some.last.now ∷ inv.later;
      splits = more_later c.args.items.now c.loop-last.rest.now c.in-Some.front.now inv.later c.in-Some.last.now
          inv.splits c.in-Some.ensures.cases.0;
      keys = λ q.
          more_keys g.T.Keyed.key c.in-Some.last.now inv.later c.key.result.now q (contains_text c.add.new.texts q)
          (contains_text c.loop-last.later q) c.key.ensures (c.in_ok-add.ensures.texts q) (inv.keys q);
      distinct = distinct_here g.T.Keyed.key c.in-Some.last.now inv.later
          (key_is_new g.T.Keyed.key c.in-Some.last.now inv.later c.key.result.now c.in_ok-add.field-0
          (contains_text c.loop-last.later c.key.result.now) c.key.ensures c.in_ok-add.ensures.new
          c.if-not-branch.false (inv.keys c.key.result.now)) inv.distinct;
    }

use Rattle.std.proofs.Common.{◌≡◌, ◌∙◌, ◌++◌, ◌∷◌, [], ap, length, rules, subst, subst₂, sym}
use Rattle.digest_index.specs.Index.{Enters}
use Rattle.datastore_table.specs.Index.{digest_of}
use Rattle.datastore_table.specs.KeySet.{AreNumbered}
use Rattle.datastore_table.proofs.KeySetLemmas.{numbered_more, numbered_same}
use Rattle.datastore_table.proofs.key_set.KeySet.add.Goals as goal

pub invariant_of-self-2 : goal.invariant_of-self-2
invariant_of-self-2 c =
    let keys = c.self.inside.keys.items in
    let key = c.args.key in
    let old = c.reserve.new.self in
    let new = c.enter.new.self in
    let same : AreNumbered keys old =
    numbered_same keys c.self.inside.index old c.reserve.ensures.first c.reserve.ensures.further c.self.invariant in
    let pushed : c.push.new.self.items ≡ keys ++ key ∷ [] = c.in_ok-push.ensures.items in
    let digest : c.cells_digest-digest.result ≡ digest_of [] key =
    c.cells_digest-digest.ensures ∙ ap (digest_of []) c.as_slice.ensures in
    let number : c.len-number.result ≡ length keys = search rules in
    let enters : Enters old new (digest_of [] key) (length keys) =
    subst₂ (λ d n. Enters old new d n) digest number c.enter.ensures in
    subst (λ ks. AreNumbered ks new) (sym pushed) (numbered_more keys key old new same enters)

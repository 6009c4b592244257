-- The dataset is at the vacant number, which was entered under the digests of its id and its name.
use Rattle.std.proofs.Common.{false, None, subst, ap, ◌∙◌, ◌≡◌, true, arith}
use Rattle.portal_base.specs.Ordered.{upserted}
use Rattle.digest_index.specs.Index.{Enters}
use Rattle.packages.specs.Digest.{digest_of}
use Rattle.packages.specs.Order.{dataset_cmp}
use Rattle.packages.specs.Shelf.{datasets_of, with_package, with_room}
use Rattle.packages.proofs.ChangeLemmas.{IsChanged, changed-put, is_prepared}
use Rattle.packages.proofs.shelf.Shelf.put.Goals as goal

pub enter-requires-2 : goal.enter-requires-2
enter-requires-2 c =
    let ready : c.self.inside.is_prepared ≡ true =
    is_prepared c.self.inside.datasets c.self.inside.is_prepared c.args.self.now c.self.view_is c.requires.room in
    omega (arith, c.enter.ensures.room, (c.self.invariant.ready ready).index_room)

changed : (c : goal.After-self-1) → IsChanged c.insert_reserved.new.self c.enter-2.new.self false
    (with_room None (with_package c.vacant_key-number.result c.args.package c.args.self.now))
    (upserted dataset_cmp c.args.package (datasets_of c.args.self.now))
changed c =
    changed-put c.self.inside.datasets c.insert_reserved.new.self c.self.inside.index c.enter.new.self
    c.enter-2.new.self c.self.inside.is_prepared c.vacant_key-number.result c.insert_reserved.result c.args.package
    c.args.self.now c.self.view_is c.self.invariant c.requires.room c.requires.id c.requires.name
    c.vacant_key-number.ensures.value c.insert_reserved.ensures.key c.insert_reserved.ensures.updates
    (subst (λ digest. Enters c.self.inside.index c.enter.new.self digest c.vacant_key-number.result)
    (c.digest_of-id.ensures ∙ ap digest_of c.as_str.ensures) c.enter.ensures)
    (subst (λ digest. Enters c.enter.new.self c.enter-2.new.self digest c.vacant_key-number.result)
    (c.digest_of-name.ensures ∙ ap digest_of c.as_str-2.ensures) c.enter-2.ensures)

pub invariant_of-self : goal.invariant_of-self
invariant_of-self c = (changed c).kept

pub returns-clause-put : goal.returns-clause-put
returns-clause-put c = (changed c).same_state

pub returns-clause-datasets : goal.returns-clause-datasets
returns-clause-datasets c = (changed c).by_id

pub returns-clause-valid : goal.returns-clause-valid
returns-clause-valid c = (changed c).valid

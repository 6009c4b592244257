-- The dataset replaces the one at the number.
use Rattle.std.proofs.Common.{subst, sym, ap, ◌∙◌, ◌≡◌, Some}
use Rattle.std.specs.Option.{option_copied_mut}
use Rattle.slab.specs.Slab.{get, with_value}
use Rattle.portal_base.specs.Ordered.{upserted}
use Rattle.packages.specs.Order.{dataset_cmp}
use Rattle.packages.specs.Shelf.{datasets_of, package_at, with_package}
use Rattle.packages.proofs.ChangeLemmas.{IsChanged, changed-replace, no_text, package_at_seen}
use Rattle.packages.proofs.shelf.Shelf.replace.Goals as goal

pub unreachable-requires : goal.unreachable-requires
unreachable-requires c =
    no_text (package_at c.args.number c.args.self.now) c.args.package.id
    (package_at_seen c.self.inside.datasets c.self.inside.is_prepared c.args.self.now c.args.number c.self.view_is
    ∙ sym c.get_mut.follows ∙ ap option_copied_mut c.in-None.is)
    c.requires.id

there : (c : goal.After-self-in-Some-1) → get c.self.inside.datasets c.args.number ≡ Some c.in-Some.there.now
there c = sym c.get_mut.follows ∙ ap option_copied_mut c.in-Some.is

changed : (c : goal.After-self-in-Some-1) → IsChanged
    (with_value c.self.inside.datasets c.args.number c.replace.new.dest) c.self.inside.index c.self.inside.is_prepared
    (with_package c.args.number c.args.package c.args.self.now)
    (upserted dataset_cmp c.args.package (datasets_of c.args.self.now))
changed c =
    subst (λ d. IsChanged (with_value c.self.inside.datasets c.args.number d) c.self.inside.index
    c.self.inside.is_prepared (with_package c.args.number c.args.package c.args.self.now)
    (upserted dataset_cmp c.args.package (datasets_of c.args.self.now))) (sym c.replace.ensures.after)
    (changed-replace c.self.inside.datasets c.self.inside.index c.self.inside.is_prepared c.args.number c.args.package
    c.in-Some.there.now c.args.self.now c.self.view_is c.self.invariant (there c) c.requires.id c.requires.name)

pub invariant_of-self : goal.invariant_of-self
invariant_of-self c = (changed c).kept

pub returns-clause-replaced : goal.returns-clause-replaced
returns-clause-replaced c =
    package_at_seen c.self.inside.datasets c.self.inside.is_prepared c.args.self.now c.args.number c.self.view_is
    ∙ there c ∙ ap Some (sym c.replace.ensures.value)

pub returns-clause-put : goal.returns-clause-put
returns-clause-put c = (changed c).same_state

pub returns-clause-datasets : goal.returns-clause-datasets
returns-clause-datasets c = (changed c).by_id

pub returns-clause-valid : goal.returns-clause-valid
returns-clause-valid c = (changed c).valid

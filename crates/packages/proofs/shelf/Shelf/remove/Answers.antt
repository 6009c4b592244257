-- The dataset is removed, and its number leaves the digests of its id and its name.
use Rattle.std.proofs.Common.{subst, sym, ap, ◌∙◌, is_some}
use Rattle.std.specs.Option.{option_map}
use Rattle.portal_base.specs.Ordered.{dropped}
use Rattle.digest_index.specs.Index.{Leaves}
use Rattle.packages.specs.Digest.{digest_of}
use Rattle.packages.specs.Order.{dataset_cmp}
use Rattle.packages.specs.Shelf.{datasets_of, with_room, without_number}
use Rattle.packages.proofs.ChangeLemmas.{IsChanged, changed-remove, package_at_seen}
use Rattle.packages.proofs.shelf.Shelf.remove.Goals as goal

pub remove-package-requires : goal.remove-package-requires
remove-package-requires c =
    ap is_some
    (sym (package_at_seen c.self.inside.datasets c.self.inside.is_prepared c.args.self.now c.args.number
    c.self.view_is))
    ∙ c.requires

changed : (c : goal.After-leave-2) → IsChanged c.remove-package.new.self c.leave-2.new.self
    c.self.inside.is_prepared
    (with_room (option_map (λ _. c.args.number) c.args.self.now.room) (without_number c.args.number c.args.self.now))
    (dropped (λ d. dataset_cmp d c.remove-package.result) (datasets_of c.args.self.now))
changed c =
    changed-remove c.self.inside.datasets c.remove-package.new.self c.self.inside.index c.leave.new.self
    c.leave-2.new.self c.self.inside.is_prepared c.args.number c.remove-package.result
    c.args.self.now c.self.view_is c.self.invariant c.remove-package.ensures.value c.remove-package.ensures.updates
    c.remove-package.ensures.room c.remove-package.ensures.key_is_next
    (subst (λ digest. Leaves c.self.inside.index c.leave.new.self digest c.args.number)
    (c.digest_of.ensures ∙ ap digest_of c.as_str.ensures) c.leave.ensures)
    (subst (λ digest. Leaves c.leave.new.self c.leave-2.new.self digest c.args.number)
    (c.digest_of-2.ensures ∙ ap digest_of c.as_str-2.ensures) c.leave-2.ensures)

pub invariant_of-self : goal.invariant_of-self
invariant_of-self c = (changed c).kept

pub returns-clause-removed : goal.returns-clause-removed
returns-clause-removed c =
    package_at_seen c.self.inside.datasets c.self.inside.is_prepared c.args.self.now c.args.number c.self.view_is
    ∙ c.remove-package.ensures.value

pub returns-clause-rest : goal.returns-clause-rest
returns-clause-rest c = (changed c).same_state

pub returns-clause-datasets : goal.returns-clause-datasets
returns-clause-datasets c = (changed c).by_id

pub returns-clause-valid : goal.returns-clause-valid
returns-clause-valid c = (changed c).valid

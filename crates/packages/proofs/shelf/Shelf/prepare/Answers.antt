use Rattle.std.proofs.Common.{◌≡◌, ◌<◌, ◌^◌, subst, sym, ap, ◌∙◌, refl, Some, None, true, true≢false}
use Rattle.slab.specs.Slab.{get}
use Rattle.packages.specs.ShelfInvariant.{shelf_state}
use Rattle.packages.specs.Shelf.{ShelfState, IsValidShelf, with_room}
use Rattle.packages.proofs.ChangeLemmas.{is_prepared, shelved_with_room, package_at_seen}
use Rattle.packages.proofs.DatasetLemmas.{IsValidShelf-consistent, package_at_slab}
use Rattle.packages.proofs.ShelfInvariantLemmas.{IsConsistent-reserved}
use Rattle.packages.proofs.shelf.Shelf.prepare.Goals as goal

pub invariant_of-self : goal.invariant_of-self
invariant_of-self c =
    IsConsistent-reserved c.self.inside.datasets c.reserve.new.self c.self.inside.index c.self.inside.index
    c.self.inside.is_prepared c.self.inside.is_prepared c.self.invariant
    (λ m. ap (λ d. get d m) c.reserve.ensures.rest_kept) (λ d. refl) refl
    (λ is. absurd (true≢false (sym is ∙ c.if-not-self.true)))

pub invariant_of-self-in_err-reserve-2 : goal.invariant_of-self-in_err-reserve-2
invariant_of-self-in_err-reserve-2 c =
    IsConsistent-reserved c.self.inside.datasets c.reserve.new.self c.self.inside.index
    c.reserve-then-not-self.new.self c.self.inside.is_prepared c.self.inside.is_prepared c.self.invariant
    (λ m. ap (λ d. get d m) c.reserve.ensures.rest_kept) c.reserve-then-not-self.ensures.first
    c.reserve-then-not-self.ensures.further (λ is. absurd (true≢false (sym is ∙ c.if-not-self.true)))

pub invariant_of-self-then-not-self : goal.invariant_of-self-then-not-self
invariant_of-self-then-not-self c =
    IsConsistent-reserved c.self.inside.datasets c.reserve.new.self c.self.inside.index
    c.reserve-then-not-self.new.self c.self.inside.is_prepared true c.self.invariant
    (λ m. ap (λ d. get d m) c.reserve.ensures.rest_kept) c.reserve-then-not-self.ensures.first
    c.reserve-then-not-self.ensures.further
    (λ is. record {
      slot = c.in_ok-reserve.ensures.room;
      number = subst (λ d. d.vacant_key < 2 ^ 32) (sym c.reserve.ensures.rest_kept)
          (subst (λ k. k < 2 ^ 32) (sym c.in_ok-number.ensures.number) c.in_ok-number.ensures.below);
      vacant = subst (λ d. get d d.vacant_key ≡ None) (sym c.reserve.ensures.rest_kept)
          (subst (λ k. get c.self.inside.datasets k ≡ None) (sym c.in_ok-number.ensures.number)
          c.in_ok-number.ensures.free);
      index_room = c.in_ok-reserve-2.ensures.room;
    })

pub returns-in_err-number-clause-again : goal.returns-in_err-number-clause-again
returns-in_err-number-clause-again c = λ room.
    let fits = (c.self.invariant.ready
    (is_prepared c.self.inside.datasets c.self.inside.is_prepared c.args.self.now c.self.view_is room)).number in
    let ok = c.in_err-number.ensures.ok fits in
    absurd (cc)

pub returns-in_err-number-clause-valid : goal.returns-in_err-number-clause-valid
returns-in_err-number-clause-valid c =
    subst IsValidShelf c.self.view_is
    (IsValidShelf-consistent c.self.inside.datasets c.self.inside.index c.self.inside.is_prepared c.self.invariant)

pub returns-in_err-reserve-clause-valid : goal.returns-in_err-reserve-clause-valid
returns-in_err-reserve-clause-valid c =
    subst IsValidShelf (sym (ap (λ d. shelf_state d c.self.inside.is_prepared) c.reserve.ensures.rest_kept))
    (IsValidShelf-consistent c.self.inside.datasets c.self.inside.index c.self.inside.is_prepared c.self.invariant)

pub returns-in_err-reserve-2-clause-valid : goal.returns-in_err-reserve-2-clause-valid
returns-in_err-reserve-2-clause-valid c =
    subst IsValidShelf (sym (ap (λ d. shelf_state d c.self.inside.is_prepared) c.reserve.ensures.rest_kept))
    (IsValidShelf-consistent c.self.inside.datasets c.self.inside.index c.self.inside.is_prepared c.self.invariant)

pub returns-in_ok-reserve-2-clause-free : goal.returns-in_ok-reserve-2-clause-free
returns-in_ok-reserve-2-clause-free c =
    package_at_slab c.in_ok-number.number c.reserve.new.self true
    ∙ ap (λ d. get d c.in_ok-number.number) c.reserve.ensures.rest_kept
    ∙ c.in_ok-number.ensures.free

pub returns-in_ok-reserve-2-clause-valid : goal.returns-in_ok-reserve-2-clause-valid
returns-in_ok-reserve-2-clause-valid c =
    let old : ShelfState = shelf_state c.self.inside.datasets c.self.inside.is_prepared in
    subst IsValidShelf (sym (ap (λ d. shelf_state d true) c.reserve.ensures.rest_kept))
    (subst (λ n. IsValidShelf (with_room (Some n) old)) (sym c.in_ok-number.ensures.number)
    (shelved_with_room old c.in_ok-number.number
    (IsValidShelf-consistent c.self.inside.datasets c.self.inside.index c.self.inside.is_prepared c.self.invariant)
    c.in_ok-number.ensures.below
    (package_at_slab c.in_ok-number.number c.self.inside.datasets c.self.inside.is_prepared
    ∙ c.in_ok-number.ensures.free)))

pub returns-else-not-self-clause-free : goal.returns-else-not-self-clause-free
returns-else-not-self-clause-free c =
    package_at_seen c.self.inside.datasets c.self.inside.is_prepared c.args.self.now c.in_ok-number.number
    c.self.view_is ∙ c.in_ok-number.ensures.free

pub returns-else-not-self-clause-valid : goal.returns-else-not-self-clause-valid
returns-else-not-self-clause-valid c =
    subst IsValidShelf c.self.view_is
    (IsValidShelf-consistent c.self.inside.datasets c.self.inside.index c.self.inside.is_prepared c.self.invariant)

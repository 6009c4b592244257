use Rattle.std.proofs.Common.{Some, ap, sym, true≢false, ◌∙◌}
use Rattle.std.proofs.lemmas.Slice.Eq.{bytes_eq-Decides}
use Rattle.portal_core.proofs.RestoredHomes.{home_found, no_home, one_home, other_home}
use Rattle.portal_core.proofs.restored_homes.home_of.Goals as goal

pub returns-in_err-number-clause-none : goal.returns-in_err-number-clause-none
returns-in_err-number-clause-none c =
    rw c.from_residual-in_err-number.ensures
    (no_home c.args.shelf.now c.in_err-number.ensures.valid c.args.id.now c.in_ok-part.part.now
    (sym c.in_ok-part.ensures.part) (sym c.in_err-number.ensures.number))

pub returns-then-eq-clause-home : goal.returns-then-eq-clause-home
returns-then-eq-clause-home c = (
  home_found c.args.shelf.now c.in_ok-number.number c.in_ok-dataset.dataset.now (sym c.in_ok-dataset.ensures),
  sym c.in_ok-part.ensures.part
      ∙ ap Some (sym (sym c.as_str.ensures
      ∙ (bytes_eq-Decides c.as_str.result.now c.in_ok-part.part.now).0 (sym c.eq.ensures ∙ c.if-eq.true))),
)

pub returns-then-eq-clause-only : goal.returns-then-eq-clause-only
returns-then-eq-clause-only c =
    one_home c.args.shelf.now c.in_ok-number.ensures.valid c.args.id.now c.in_ok-part.part.now c.in_ok-number.number
    c.in_ok-dataset.dataset.now (sym c.in_ok-part.ensures.part) (sym c.in_ok-number.ensures.number)
    (sym c.in_ok-dataset.ensures)

pub returns-else-eq-clause-none : goal.returns-else-eq-clause-none
returns-else-eq-clause-none c =
    other_home c.args.shelf.now c.in_ok-number.ensures.valid c.args.id.now c.in_ok-part.part.now c.in_ok-number.number
    c.in_ok-dataset.dataset.now (sym c.in_ok-part.ensures.part) (sym c.in_ok-number.ensures.number)
    (sym c.in_ok-dataset.ensures)
    (λ same. true≢false (sym ((bytes_eq-Decides c.as_str.result.now c.in_ok-part.part.now).1 (c.as_str.ensures ∙ same))
    ∙ sym c.eq.ensures ∙ c.if-eq.false))

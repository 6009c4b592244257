-- An id that leads to no dataset with this id is no dataset's.
use Rattle.std.proofs.Common.{◌∙◌, ℕ, List, ap, sym}
use Rattle.std.specs.Option.{option_copied}
use Rattle.std.specs.Str.{bytes_eq}
use Rattle.packages.specs.Shelf.{number_in}
use Rattle.portal_state.proofs.IndexLemmas.{kept-unless, none-goes, none_or}
use Rattle.portal_state.proofs.indexes.number_of_id.Goals as goal

pub returns-in_err-number-clause-none : goal.returns-in_err-number-clause-none
returns-in_err-number-clause-none c =
    none_or c.from_residual.result _
    (none-goes c.args.id.now c.args.shelf.now c.number_of.ensures.valid
    (ap (λ (key : List ℕ). number_in key c.args.shelf.now) (sym c.as_str.ensures)
    ∙ sym c.number_of.ensures.number ∙ c.in_err-number.was))

pub returns-clause-none : goal.returns-clause-none
returns-clause-none c =
    kept-unless c.args.id.now c.args.shelf.now c.in_ok-number.number c.in_ok-dataset.dataset.now c.then_some.result c.eq.result
    c.number_of.ensures.valid
    (ap (λ (key : List ℕ). number_in key c.args.shelf.now) (sym c.as_str.ensures)
    ∙ sym c.number_of.ensures.number ∙ c.in_ok-number.was)
    (sym c.package_at.ensures ∙ ap option_copied c.in_ok-dataset.was) c.then_some.ensures
    (c.eq.ensures ∙ ap (λ (key : List ℕ). bytes_eq key c.as_str-3.result.now) c.as_str-2.ensures
    ∙ ap (bytes_eq c.in_ok-dataset.dataset.now.id) c.as_str-3.ensures)

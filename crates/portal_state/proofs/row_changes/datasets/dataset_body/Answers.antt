-- The number that the id leads to is that of its dataset; without a number there is no dataset.
use Rattle.std.proofs.Common.{◌≡◌, ◌∙◌, ℕ, List, Option, None, Some, ap, subst, sym}
use Rattle.std.specs.Prelude.{IfOk}
use Rattle.packages.specs.Shelf.{number_in}
use Rattle.portal_state.proofs.DatasetRows.{body_on_shelf, body_unplaced, placed_on_shelf}
use Rattle.portal_state.proofs.row_changes.datasets.dataset_body.Goals as goal

pub returns-in-Some : goal.returns-in-Some
returns-in-Some c =
    let leads : number_in c.args.id.now c.args.shelf.now ≡ Some c.in-Some.number =
    sym (c.in-Some.ensures.number ∙ ap (λ (key : List ℕ). number_in key c.args.shelf.now) c.as_str.ensures) in
    subst (λ (o : Option (List ℕ)). IfOk c.row_at.result (λ body. body ≡ o))
    (body_on_shelf c.args.shelf.now c.args.id.now c.in-Some.number c.requires.ascending
    (placed_on_shelf c.args.shelf.now c.args.id.now c.in-Some.number c.requires.placed leads) leads)
    c.row_at.ensures

pub returns-in-None : goal.returns-in-None
returns-in-None c =
    let none : number_in c.args.id.now c.args.shelf.now ≡ None =
    sym (c.in-None.ensures.number ∙ ap (λ (key : List ℕ). number_in key c.args.shelf.now) c.as_str.ensures) in
    sym (body_unplaced c.args.shelf.now c.args.id.now none)

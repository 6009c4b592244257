-- A text is in use exactly if it finds a number.
use Rattle.std.proofs.Common.{◌∙◌, ◌&&◌, Bool, List, ℕ, ap, is_some, not, refl, sym}
use Rattle.packages.specs.Shelf.{number_in}
use Rattle.packages.proofs.RestoreLemmas.{free_by_numbers}
use Rattle.packages.proofs.shelf.Shelf.is_free.Goals as goal

pub returns-then-not-is_in_use : goal.returns-then-not-is_in_use
returns-then-not-is_in_use c =
    let d = c.args.dataset.now in
    let s = c.args.self.now in
    let found : List ℕ → Bool = λ key. is_some (number_in key s) in
    ap (λ b. not b && not c.is_in_use-then-not-is_in_use.result) (sym c.if-not-is_in_use.true)
    ∙ free_by_numbers d s c.is_in_use.result c.is_in_use-then-not-is_in_use.result
    (c.is_in_use.ensures ∙ ap found c.as_str.ensures)
    (c.is_in_use-then-not-is_in_use.ensures ∙ ap found c.as_str-then-not-is_in_use.ensures)

pub returns-else-not-is_in_use : goal.returns-else-not-is_in_use
returns-else-not-is_in_use c =
    let d = c.args.dataset.now in
    let s = c.args.self.now in
    let found : List ℕ → Bool = λ key. is_some (number_in key s) in
    ap not c.if-not-is_in_use.false
    ∙ ap (λ b. not b && not (found d.name)) (sym c.if-not-is_in_use.false)
    ∙ free_by_numbers d s c.is_in_use.result (found d.name) (c.is_in_use.ensures ∙ ap found c.as_str.ensures) refl

-- The name leads to the dataset that has it as its name.
use Rattle.std.proofs.Common.{◌∙◌, ℕ, List, ap, sym}
use Rattle.std.specs.Option.{option_and_then, option_copied}
use Rattle.packages.specs.Shelf.{number_in, package_at}
use Rattle.portal_state.proofs.HarvestNames.{led_by}
use Rattle.portal_state.proofs.parts.Parts.harvested.Goals as goal

pub returns-in_err-number : goal.returns-in_err-number
returns-in_err-number c =
    let name = c.args.name.now in
    let shelf = c.args.self.now.shelf in
    ap option_copied c.from_residual.ensures
    ∙ sym (ap (option_and_then (λ (n : ℕ). package_at n shelf))
    (ap (λ (key : List ℕ). number_in key shelf) (sym c.as_str.ensures)
    ∙ sym c.number_of.ensures.number ∙ c.in_err-number.was))
    ∙ led_by c.args.self.now c.requires.named.0 c.requires.named.1 name c.requires.consistent c.requires.named.2

pub returns : goal.returns
returns c =
    let name = c.args.name.now in
    let shelf = c.args.self.now.shelf in
    c.package_at.ensures
    ∙ sym (ap (option_and_then (λ (n : ℕ). package_at n shelf))
    (ap (λ (key : List ℕ). number_in key shelf) (sym c.as_str.ensures)
    ∙ sym c.number_of.ensures.number ∙ c.in_ok-number.was))
    ∙ led_by c.args.self.now c.requires.named.0 c.requires.named.1 name c.requires.consistent c.requires.named.2

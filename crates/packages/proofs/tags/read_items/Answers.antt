use Rattle.std.proofs.Common.{◌+◌, ◌≤◌, List, [], ◌∷◌, length, take, ap, codes, arith, length-take}
use Rattle.std.specs.List.{cons_option, filter_map}
use Rattle.std.specs.Prelude.{Option, Some, None}
use Rattle.std.proofs.lemmas.Grind.{common_steps}
use Rattle.std.proofs.lemmas.List.Elements.{filter_map-append}
use Rattle.packages.specs.Texts.{text_given}
use Rattle.packages.proofs.Reading.{first_error-append}
use Rattle.packages.proofs.tags.read_items.Goals as goal

length-cons_option : {X : Type 0} (found : Option X) (xs : List X) → length (cons_option found xs) ≤ length xs + 1
length-cons_option None xs = omega arith
length-cons_option (Some x) xs = omega arith

-- the result isn't longer than the list
length-filter_map : {X Y : Type 0} (give : X → Option Y) (xs : List X) → length (filter_map give xs) ≤ length xs
length-filter_map give [] = omega arith
length-filter_map give (x ∷ xs) =
    omega (arith, length-cons_option (give x) (filter_map give xs), length-filter_map give xs)

pub loop-item-preserved : goal.loop-item-preserved
loop-item-preserved c = (
  grind (arith, common_steps, filter_map-append),
  grind (arith, common_steps, first_error-append),
)

pub returns-clause-count : goal.returns-clause-count
returns-clause-count c =
    let all = take c.loop-item.item-index c.args.items.now in
    omega (
      arith,
      c.loop-item.read.names.ok.0,
      ap length c.loop-item.invariant.0,
      length-filter_map (text_given (codes "name")) all,
      length-take c.loop-item.item-index c.args.items.now,
    )

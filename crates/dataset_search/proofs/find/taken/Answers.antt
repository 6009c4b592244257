use Rattle.std.proofs.Common.{◌<◌, ◌&&◌, Bool, ap, arith, length}
use Rattle.packages.specs.declared.package.Package.{Package}
use Rattle.visibility.specs.Visibility.{sees_in}
use Rattle.dataset_search.specs.Found.{takes}
use Rattle.dataset_search.proofs.FindLemmas.{numbers-left, numbers-taken}
use Rattle.dataset_search.proofs.find.taken.Goals as goal
use Rattle.dataset_search.proofs.find.taken.Goals.{then-is_taken+in_ok-push, else-is_taken}

pub loop-number-preserved : goal.loop-number-preserved
loop-number-preserved g c =
    let within : c.loop-number.number-index < length c.args.numbers.now = omega arith in
    let test : Package → Bool =
    λ dataset. takes c.args.search.now dataset && sees_in c.args.viewer.now.people c.args.viewer.now.caller dataset in (
      elim c.if-is_taken.branch [
        | then-is_taken+in_ok-push w ↦
            numbers-taken test c.args.shelf.now c.args.numbers.now c.loop-number.number-index c.look-dataset.result.now
            c.is_taken.result c.loop-number.taken.items w.push.new.self.items c.if-is_taken.taken.items within
            c.look-dataset.ensures.dataset c.loop-number.invariant.0 c.is_taken.ensures w.if-is_taken.true
            w.in_ok-push.ensures.items (ap (λ v. v.items) w.taken-is)
        | else-is_taken w ↦
            numbers-left test c.args.shelf.now c.args.numbers.now c.loop-number.number-index c.look-dataset.result.now
            c.is_taken.result c.loop-number.taken.items c.if-is_taken.taken.items within c.look-dataset.ensures.dataset
            c.loop-number.invariant.0 c.is_taken.ensures w.if-is_taken.false (ap (λ v. v.items) w.taken-is)
      ],
      omega arith,
    )

-- What passed the stage passed the devices that it borrows. No report came before the first line, and the reports are those
-- that were pushed.
use Rattle.std.proofs.Common.{arith}
use Rattle.portal_serve.proofs.Looping.{all_as, part_as, read_as}
use Rattle.portal_serve.proofs.play.play.Goals as goal

pub returns-clause-done : goal.returns-clause-done
returns-clause-done g c =
    λ is whole observed.
    all_as _ _ _ _ _ _ _ _ _ _ _ _ _ _ _ (c.play_lines-end.ensures.done is whole observed) (grind arith) (grind arith)
    (grind arith) (grind arith) (grind arith)

pub returns-clause-cut : goal.returns-clause-cut
returns-clause-cut g c =
    λ other whole observed.
    part_as _ _ _ _ _ _ _ _ _ _ _ _ _ _ _ _ (c.play_lines-end.ensures.cut other whole observed) (grind arith)
    (grind arith) (grind arith) (grind arith) (grind arith)

pub returns-clause-unended : goal.returns-clause-unended
returns-clause-unended g c =
    λ is whole observed.
    read_as _ _ _ _ _ _ _ _ _ _ _ _ _ _ _ (c.play_lines-end.ensures.unended is whole observed) (grind arith)
    (grind arith) (grind arith) (grind arith) (grind arith)

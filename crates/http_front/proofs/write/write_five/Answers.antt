use Rattle.std.proofs.lemmas.Result.{err_from_is_err_and}
use Rattle.http_front.proofs.PieceLemmas.{takes_second}
use Rattle.http_front.proofs.write.write_five.Goals as goal

pub returns-in_err-write_whole-clause-failed : goal.returns-in_err-write_whole-clause-failed
returns-in_err-write_whole-clause-failed g c =
    let residual = c.from_residual-in_err-write_whole in
    let p = err_from_is_err_and residual.result residual.ensures.1 in
    rw p.1 (takes_second _ _ _ _ _ c.in_ok-write_four.ensures.ok c.in_err-write_whole.ensures.failed)

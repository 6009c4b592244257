use Rattle.std.proofs.Common.{◌++◌}
use Rattle.std.proofs.lemmas.Result.{err_from_is_err_and, on_err_weaker}
use Rattle.std.specs.Prelude.{codes}
use Rattle.portal_status.proofs.PartLemmas.{first_part, second_part}
use Rattle.portal_status.proofs.status.write_fault_line.Goals as goal

pub returns-in_err-write_text-clause-failed : goal.returns-in_err-write_text-clause-failed
returns-in_err-write_text-clause-failed g c =
    let p = err_from_is_err_and c.from_residual.result c.from_residual.ensures.1 in
    rw p.1 (first_part _ _ (codes "portal: ") (c.args.text.now ++ codes "\n") c.in_err-write_text.ensures.failed)

pub returns-in_err-write_text-2-clause-failed : goal.returns-in_err-write_text-2-clause-failed
returns-in_err-write_text-2-clause-failed g c =
    let p = err_from_is_err_and c.from_residual-in_err-write_text-2.result
    c.from_residual-in_err-write_text-2.ensures.1 in
    rw p.1 (second_part _ _ _ (codes "portal: ") (c.args.text.now ++ codes "\n") c.in_ok-write_text.ensures.ok
    (first_part _ _ c.args.text.now (codes "\n") c.in_err-write_text-2.ensures.failed))

pub returns-clause-failed : goal.returns-clause-failed
returns-clause-failed g c =
    on_err_weaker c.write_text-3.result (λ part. second_part _ _ _ (codes "portal: ")
    (c.args.text.now ++ codes "\n") c.in_ok-write_text.ensures.ok
    (second_part _ _ _ c.args.text.now (codes "\n") c.in_ok-write_text-2.ensures.ok part))
    c.write_text-3.ensures.failed

use Rattle.portal_file.proofs.FileLemmas.{utf8_true, utf8_false}
use Rattle.portal_file.proofs.file.text_in.Goals as goal

pub returns-in-Ok-clause-some : goal.returns-in-Ok-clause-some
returns-in-Ok-clause-some c =
    (utf8_true c.args.bytes.now c.in-Ok.ensures.cases.1, c.in-Ok.ensures.cases.0)

pub returns-in-Err-clause-none : goal.returns-in-Err-clause-none
returns-in-Err-clause-none c = utf8_false c.args.bytes.now c.in-Err.ensures.cases.0

use Rattle.std.proofs.Common.{subst}
use Rattle.std.specs.Prelude.{IfOk}
use Rattle.datastore_answers.specs.TableAnswers.{TableAcceptsOnly}
use Rattle.datastore_answers.specs.Plan as table
use Rattle.portal_core.proofs.decide.on_tables.Goals as goal

pub returns-clause-planned : goal.returns-clause-planned
returns-clause-planned c = λ stored such.
    c.of_tables.ensures.planned stored
    (subst (λ r. IfOk r (TableAcceptsOnly (λ plan. table.IsPlanned plan stored))) c.in_ok-answer.was such)

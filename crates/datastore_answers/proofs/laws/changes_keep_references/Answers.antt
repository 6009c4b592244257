use Rattle.std.proofs.Common.{[]}
use Rattle.datastore_answers.proofs.DropLemmas.{drops-kept}
use Rattle.datastore_answers.proofs.ChangeLemmas.{fit-kept}
use Rattle.datastore_answers.proofs.ReferenceLemmas.{each-kept}
use Rattle.datastore_answers.proofs.laws.changes_keep_references.Goals as goal

pub returns-clause-kept : goal.returns-clause-kept
returns-clause-kept c = fit-kept

pub returns-clause-linked : goal.returns-clause-linked
returns-clause-linked c = λ tables kept. kept.linked

pub returns-clause-none : goal.returns-clause-none
returns-clause-none c = each-kept [] tt (λ t m. absurd m)

pub returns-clause-dropped : goal.returns-clause-dropped
returns-clause-dropped c = drops-kept

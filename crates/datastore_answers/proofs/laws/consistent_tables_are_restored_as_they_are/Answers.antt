use Rattle.datastore_answers.proofs.RestoredLemmas.{consistent-ordered, consistent-restorable, consistent-unready}
use Rattle.datastore_answers.proofs.RestoredLemmas.{restorable-consistent}
use Rattle.datastore_answers.proofs.laws.consistent_tables_are_restored_as_they_are.Goals as goal

pub returns-clause-restorable : goal.returns-clause-restorable
returns-clause-restorable c = consistent-restorable

pub returns-clause-ordered : goal.returns-clause-ordered
returns-clause-ordered c = consistent-ordered

pub returns-clause-unready : goal.returns-clause-unready
returns-clause-unready c = consistent-unready

pub returns-clause-consistent : goal.returns-clause-consistent
returns-clause-consistent c = restorable-consistent

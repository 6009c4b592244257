use Rattle.packages.proofs.Built.{built_known, built_next}
use Rattle.packages.proofs.laws.numbers_are_not_used_again.Goals as goal

pub returns-clause-kept : goal.returns-clause-kept
returns-clause-kept c = λ body old whole. built_known body old whole

pub returns-clause-next : goal.returns-clause-next
returns-clause-next c = λ body old whole. built_next body old whole

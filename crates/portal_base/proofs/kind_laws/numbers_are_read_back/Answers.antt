use Rattle.portal_base.proofs.KindLaws.{whole_spelled-decimal, whole_spelled-minus}
use Rattle.portal_base.proofs.kind_laws.numbers_are_read_back.Goals as goal

pub returns-clause-unsigned : goal.returns-clause-unsigned
returns-clause-unsigned c = λ n low. whole_spelled-decimal n low

pub returns-clause-negative : goal.returns-clause-negative
returns-clause-negative c = λ n low. whole_spelled-minus n low

use Rattle.std.proofs.Common.{arith}
use Rattle.lexical_forms.proofs.SignificandLemmas.{one_more, long_already}
use Rattle.lexical_forms.proofs.number.significand.Significand.shifted.Goals as goal

pub returns-then-value-ge-LIMIT-clause-none : goal.returns-then-value-ge-LIMIT-clause-none
returns-then-value-ge-LIMIT-clause-none c =
    long_already c.loop.value c.args.self.value c.loop.counter c.args.zeros c.loop.invariant.0 c.loop-test.true
    c.if-value-ge-LIMIT.true

pub loop-preserved : goal.loop-preserved
loop-preserved c =
    (one_more c.loop.value c.args.self.value c.loop.counter c.loop.invariant.0, c.if-value-ge-LIMIT.false, omega arith)

use Rattle.std.proofs.Common.{◌≡◌, ◌++◌}
use Rattle.search_index.proofs.demands.push_all.Given as goal

abbrev pub invariant-loop-test : goal.invariant-loop-test
invariant-loop-test l = l.fn.tests.items ++ l.fn.more.items ≡ l.tests.items ++ l.test-iterator.rest.items

use Rattle.std.proofs.Common.{◌≡◌}
use Rattle.portal_base.specs.KeyErrors.{with_errors}
use Rattle.portal_base.proofs.key_errors.KeyErrors.add_errors.Given as goal

-- Adding the remaining errors now gives what adding all of them gives.
abbrev pub invariant-loop-key : goal.invariant-loop-key
invariant-loop-key l = with_errors l.key-iterator.rest.items l.self ≡ with_errors l.fn.errors l.fn.self

-- A key without an error is inserted in order.
use Rattle.std.proofs.Common.{sym, ◌∙◌}
use Rattle.portal_base.proofs.KeyErrorLemmas.{with_error-ascending}
use Rattle.portal_base.proofs.key_errors.KeyErrors.add_error.Goals as goal

pub invariant_of-self-2 : goal.invariant_of-self-2
invariant_of-self-2 c =
    rw c.in_ok-insert.ensures.ok
    (with_error-ascending c.args.key c.args.message c.self.inside.errors.items c.self.invariant
    (rw (c.as_str.ensures, c.as_slice.ensures.value) at (sym c.has_error.ensures ∙ c.if-has_error.false)))

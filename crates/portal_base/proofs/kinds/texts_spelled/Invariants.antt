use Rattle.std.proofs.Common.{◌≡◌, map}
use Rattle.portal_base.specs.Kinds.{kept_parts}
use Rattle.portal_base.proofs.kinds.texts_spelled.Given as goal

abbrev pub invariant-loop-part : goal.invariant-loop-part
invariant-loop-part l = l.texts.items ≡ kept_parts (map (λ x. x.now) l.yielded)

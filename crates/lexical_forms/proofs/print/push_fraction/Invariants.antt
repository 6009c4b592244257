use Rattle.std.proofs.Common.{string_bytes}
use Rattle.lexical_forms.proofs.NumberTextLemmas.{FractionSoFar}
use Rattle.lexical_forms.proofs.print.push_fraction.Given as goal

abbrev pub invariant-loop-rest : goal.invariant-loop-rest
invariant-loop-rest l = FractionSoFar (string_bytes l.text) (string_bytes l.initial.text) l.rest l.unit l.billionths

abbrev pub decreases-loop-rest : goal.decreases-loop-rest
decreases-loop-rest l = l.unit

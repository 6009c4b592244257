use Rattle.std.proofs.Common.{◌≡◌, ◌*◌, ◌^◌, ◌<◌, ◌≤◌}
use Rattle.lexical_forms.proofs.number.significand.Significand.shifted.Given as goal

abbrev pub invariant-loop : goal.invariant-loop
invariant-loop l = (l.value ≡ l.fn.self.value * 10 ^ l.counter) × (l.value < 10 ^ 27) × (l.counter ≤ l.zeros)

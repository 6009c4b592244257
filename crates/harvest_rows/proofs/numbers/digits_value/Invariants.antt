use Rattle.std.proofs.Common.{◌≡◌, drop}
use Rattle.harvest_rows.specs.Readings.{digits_from}
use Rattle.harvest_rows.proofs.numbers.digits_value.Given as goal

-- The rest of the digits, after the number so far, has the number of all.
abbrev pub invariant-loop-digit : goal.invariant-loop-digit
invariant-loop-digit l = digits_from 0 l.digits ≡ digits_from l.number (drop l.digit-index l.digits)

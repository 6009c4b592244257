use Rattle.std.proofs.Common.{◌≡◌, drop}
use Rattle.portal_base.specs.Json.{first_of}
use Rattle.portal_base.proofs.json_value.first_value.Given as goal

-- None of the entries so far has the key.
abbrev pub invariant-loop-entry : goal.invariant-loop-entry
invariant-loop-entry l = first_of l.key l.entries ≡ first_of l.key (drop l.entry-index l.entries)

use Rattle.std.proofs.Common.{◌≡◌, drop}
use Rattle.portal_rows.specs.Readings.{all_read, membership_reading}
use Rattle.portal_rows.proofs.ReadLemmas.{read_on}
use Rattle.portal_rows.proofs.org_reading.memberships_of.Given as goal

abbrev pub invariant-loop-entry : goal.invariant-loop-entry
invariant-loop-entry l = all_read (membership_reading l.org) l.entries
    ≡ read_on (membership_reading l.org) l.memberships.items (drop l.entry-index l.entries)

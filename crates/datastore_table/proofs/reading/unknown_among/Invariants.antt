use Rattle.std.proofs.Common.{◌≡◌, None, fold, take, option_copied}
use Rattle.datastore_table.specs.Record.{least_unknown}
use Rattle.datastore_table.proofs.reading.unknown_among.Given as goal

abbrev pub invariant-loop-entry : goal.invariant-loop-entry
invariant-loop-entry l =
    option_copied l.least ≡ fold (least_unknown l.fields) None (take l.entry-index l.entries)

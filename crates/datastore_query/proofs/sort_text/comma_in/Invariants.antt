use Rattle.std.proofs.Common.{◌≡◌, false, drop}
use Rattle.datastore_query.specs.SortText.{comma_from}
use Rattle.datastore_query.proofs.SortLemmas.{counted_on}
use Rattle.datastore_query.proofs.sort_text.comma_in.Given as goal

abbrev pub invariant-loop-position : goal.invariant-loop-position
invariant-loop-position l =
    comma_from false l.text ≡ counted_on l.position (comma_from l.quoted (drop l.position l.text))

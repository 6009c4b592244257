use Rattle.std.proofs.Common.{◌≡◌, false, fold, take}
use Rattle.datastore_query.specs.SortText.{quoted_after}
use Rattle.datastore_query.proofs.sort_text.is_unclosed.Given as goal

abbrev pub invariant-loop-byte : goal.invariant-loop-byte
invariant-loop-byte l = l.quoted ≡ fold quoted_after false (take l.byte-index l.text)

use Rattle.std.proofs.Common.{◌≡◌, ◌++◌, false, length, map}
use Rattle.std.specs.Prelude.{IsUtf8}
use Rattle.datastore_query.specs.SortText.{part_reading, parts_from}
use Rattle.datastore_query.proofs.sort.parts_of.Given as goal

abbrev pub invariant-loop-part : goal.invariant-loop-part
invariant-loop-part l = record {
  utf8 : IsUtf8 l.rest;
  read : map part_reading (parts_from false l.text) ≡ l.parts.items ++ map part_reading (parts_from false l.rest);
}

abbrev pub decreases-loop-part : goal.decreases-loop-part
decreases-loop-part l = length l.rest

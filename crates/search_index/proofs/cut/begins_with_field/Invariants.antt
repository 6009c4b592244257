use Rattle.std.proofs.Common.{◌≡◌, drop, nat_eq}
use Rattle.std.specs.List.{starts_with}
use Rattle.search_index.specs.Terms.{field_prefix}
use Rattle.search_index.proofs.cut.begins_with_field.Given as goal

abbrev pub invariant-loop-byte : goal.invariant-loop-byte
invariant-loop-byte l =
    starts_with nat_eq l.text (field_prefix l.fn.field) ≡ starts_with nat_eq l.rest (drop l.byte-index l.byte-items)

use Rattle.std.proofs.Common.{◌≡◌, drop, map}
use Rattle.std.specs.Char.{to_ascii_lowercase}
use Rattle.std.specs.Str.{bytes_eq}
use Rattle.datastore_query.proofs.ascii_words.is_in_lowercase.Given as goal

abbrev pub invariant-loop-index : goal.invariant-loop-index
invariant-loop-index l =
    bytes_eq (map to_ascii_lowercase l.bytes) l.token
    ≡ bytes_eq (map to_ascii_lowercase (drop l.index l.bytes)) (drop l.index l.token)

-- The bodies of calls.
use Rattle.std.specs.Prelude.{ℕ}

-- The most bytes that a call's body has, or a query in its place: 256 KiB.
abbrev pub longest_body : ℕ
longest_body = 262144

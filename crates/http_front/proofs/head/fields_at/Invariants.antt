use Rattle.std.proofs.Common.{◌≡◌, map, take}
use Rattle.httparse.specs.Spans.{header_bytes}
use Rattle.http_front.proofs.head.fields_at.Given as goal

-- the fields so far
abbrev pub invariant-loop-span : goal.invariant-loop-span
invariant-loop-span l = l.fields.items ≡ map (header_bytes l.text) (take l.span-index l.spans)

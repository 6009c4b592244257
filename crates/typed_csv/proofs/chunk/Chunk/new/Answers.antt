use Rattle.std.proofs.Common.{refl}
use Rattle.typed_csv.proofs.ChunkLemmas.{left-start}
use Rattle.typed_csv.proofs.chunk.Chunk.new.Goals as goal

pub returns : goal.returns
returns c =
    let a = c.from_reader-reader.ensures in
    let first = c.in_ok-text.ensures.items in
    let second = c.in_ok-push.ensures.items in
    let third = c.in_ok-extend_from_slice.ensures.items in
    left-start _ _ _ c.args.bytes.now a.state a.source
    (rw (c.new-2.ensures.inner, c.new-2.ensures.position, third) (rw second (rw first refl)))

use Rattle.std.proofs.Common.{◌≡◌, map, take}
use Rattle.portal_keeper.proofs.slots.keys_of.Given as goal

abbrev pub invariant-loop-write : goal.invariant-loop-write
invariant-loop-write l = l.keys.items ≡ map (λ write. write.key) (take l.write-index l.writes)

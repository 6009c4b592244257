use Rattle.std.proofs.Common.{◌≡◌, ℕ, find, take}
use Rattle.std.specs.List.{list_any}
use Rattle.digest_index.specs.declared.Further.{Further}
use Rattle.datastore_table.specs.Keys.{is_key_at}
use Rattle.datastore_table.specs.Put.{id_of}
use Rattle.datastore_table.proofs.keys.first_further.Given as goal

abbrev pub invariant-loop-entry : goal.invariant-loop-entry
invariant-loop-entry l =
    l.first ≡ id_of (find (λ key. list_any (λ (e : Further ℕ). is_key_at l.columns l.cells e.number key)
    (take l.entry-index l.further)) l.keys)

use Rattle.std.proofs.Common.{◌≡◌, drop}
use Rattle.datastore_table.specs.Results.{in_turn}
use Rattle.datastore_answers.specs.Restrict.{key_restrict}
use Rattle.datastore_answers.proofs.deletions.check_table.Given as goal

abbrev pub invariant-loop-index : goal.invariant-loop-index
invariant-loop-index l =
    in_turn (key_restrict l.removal.keys l.number l.table) 0 l.table.table.schema.foreign tt
    ≡ in_turn (key_restrict l.removal.keys l.number l.table) l.index (drop l.index l.table.table.schema.foreign) tt

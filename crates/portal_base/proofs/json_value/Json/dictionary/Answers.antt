use Rattle.portal_base.proofs.DictionaryLemmas.{map_ascends, map_is_orderly}
use Rattle.portal_base.proofs.json_value.Json.dictionary.Goals as goal

pub returns-clause-ascending : goal.returns-clause-ascending
returns-clause-ascending g c = rw c.in_ok-made.ensures (map_ascends _ c.requires)

pub returns-clause-orderly : goal.returns-clause-orderly
returns-clause-orderly g c values = rw c.in_ok-made.ensures (map_is_orderly _ c.requires values)

use Rattle.std.proofs.Common.{arith}
use Rattle.portal_base.proofs.IdLemmas.{id_text_injective}
use Rattle.portal_base.proofs.value_laws.ids_tell_numbers_apart.Goals as goal

pub returns : goal.returns
returns c = id_text_injective c.args.first c.args.second (omega (arith, c.ranges.first))
    (omega (arith, c.ranges.second))

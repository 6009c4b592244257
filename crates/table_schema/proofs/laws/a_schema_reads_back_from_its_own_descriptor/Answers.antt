use Rattle.table_schema.proofs.WrittenLemmas.{reading-described}
use Rattle.table_schema.proofs.laws.a_schema_reads_back_from_its_own_descriptor.Goals as goal

pub returns : goal.returns
returns c = reading-described

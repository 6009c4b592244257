use Rattle.portal_rows.proofs.SchemaLemmas.{descriptor-readable}
use Rattle.portal_rows.proofs.laws.descriptors_of_schemas_are_readable.Goals as goal

pub returns : goal.returns
returns c = descriptor-readable

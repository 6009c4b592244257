use Rattle.table_schema.proofs.WrittenLemmas.{schema-spelled}
use Rattle.table_schema.proofs.laws.the_fields_of_a_descriptor_are_spelled.Goals as goal

pub returns : goal.returns
returns c = schema-spelled

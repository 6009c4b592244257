use Rattle.portal_file.proofs.tables.value_at.Goals as goal
use Rattle.toml.proofs.Views.{table_get}

pub returns : goal.returns
returns c = table_get c.get.result c.args.key.now c.args.table.now.entries c.get.ensures.value

use Rattle.std.proofs.Common.{◌∙◌}
use Rattle.datastore_answers.specs.Tables.{tables_of}
use Rattle.datastore_answers.proofs.SummaryLemmas.{some-summary}
use Rattle.datastore_answers.proofs.table_lookup.TablesTableLookup.has_table.Goals as goal

pub returns : goal.returns
returns c =
    c.is_some.ensures
    ∙ some-summary c.get.result c.args.dataset.now c.args.number (tables_of c.args.self.now) c.get.ensures.table

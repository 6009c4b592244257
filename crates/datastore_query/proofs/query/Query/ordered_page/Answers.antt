use Rattle.std.proofs.Common.{sym}
use Rattle.datastore_query.proofs.RowLemmas.{ordered_length}
use Rattle.datastore_query.proofs.query.Query.ordered_page.Goals as goal

pub returns-clause-total : goal.returns-clause-total
returns-clause-total c = sym (ordered_length c.args.self.now.sorts c.args.rows.now)

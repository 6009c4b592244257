use Rattle.std.proofs.Common.{◌∙◌, ap}
use Rattle.datastore_table.specs.Rows.{row_at}
use Rattle.datastore_table.proofs.WrittenLemmas.{kept_at}
use Rattle.datastore_table.proofs.written_rows.WrittenRows.get.Goals as goal

pub returns : goal.returns
returns c =
    c.get.ensures.value ∙ kept_at c.args.id c.self.inside.by_id.entries c.self.invariant.keyed
    ∙ ap (row_at c.args.id) c.self.view_is

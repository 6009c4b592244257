use Rattle.std.proofs.Common.{◌∙◌, ◌&&◌, ap}
use Rattle.std.specs.List.{list_any}
use Rattle.visibility.specs.TableSummary.{breaks_references, is_among, refers_outside}
use Rattle.datastore_answers.specs.Summaries.{summaries_of}
use Rattle.datastore_answers.specs.Tables.{Stored, tables_of}
use Rattle.datastore_answers.specs.declared.resource_table.ResourceTable.{ResourceTable}
use Rattle.datastore_answers.proofs.SummaryLemmas.{any-breaks_reference}
use Rattle.datastore_answers.proofs.table_lookup.TablesTableLookup.breaks_references.Goals as goal

pub returns : goal.returns
returns c =
    let resources = c.args.resources.now in
    c.any_breaks_reference.ensures
    ∙ ap (list_any (λ (t : ResourceTable). is_among resources t.address.number && refers_outside resources t.targets))
    (rw c.as_slice.ensures.value at c.tables_in-tables.ensures)
    ∙ any-breaks_reference c.args.dataset.now resources c.self.inside.tables.items
    ∙ ap (λ (s : Stored). breaks_references (summaries_of (tables_of s)) c.args.dataset.now resources) c.self.view_is

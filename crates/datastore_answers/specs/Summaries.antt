-- The summaries of the tables of resources, for the answers on datasets.
use Rattle.std.specs.Prelude.{List, map}
use Rattle.visibility.specs.TableSummary.{TableSummary}
use Rattle.datastore_answers.specs.declared.resource_table.ResourceTable.{ResourceTable}

-- the table's dataset, its resource's number, and the numbers of the resources that its foreign keys reference
abbrev pub summary_of : ResourceTable → TableSummary
summary_of t = record { dataset = t.address.dataset; number = t.address.number; targets = t.targets }

abbrev pub summaries_of : List ResourceTable → List TableSummary
summaries_of tables = map summary_of tables

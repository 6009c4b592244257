-- The page that is made of a query's rows where they stand.
use Rattle.std.proofs.Common.{◌≡◌, ℕ, List, map, length, refl}
use Rattle.table_schema.specs.Field.{FieldValue}
use Rattle.datastore_table.specs.declared.row.Row.{Row}
use Rattle.datastore_query.specs.Column.{projected}
use Rattle.datastore_query.specs.Query.{QueryValue, listing, page_rows}
use Rattle.portal_state.specs.Page.{page_with}
use Rattle.portal_state.specs.Queries.{page_of}

-- The page with the rows that a query lends is the query's page.
pub page_is : (fields : List FieldValue) (rows page : List Row) (total : ℕ) (query : QueryValue)
    → map (projected query.columns) page ≡ page_rows query rows → total ≡ length (listing query rows)
    → page_with fields page total query ≡ page_of fields rows query
page_is fields rows page total query in_rows in_total = rw (in_rows, in_total) refl

-- The dictionary in which a reply shows a page of a table's rows. Keys are those of CKAN 2.10's `datastore_search`.
use Rattle.std.specs.Prelude.{ℕ, pos, Bool, true, false, List, [], ◌∷◌, map, codes, find, Option, Some, None}
use Rattle.std.specs.Str.{bytes_eq}
use Rattle.portal_base.specs.declared.json_value.Json.{Json}
use Rattle.portal_base.specs.declared.json_value.Json as json
use Rattle.table_schema.specs.Field.{FieldValue}
use Rattle.table_schema.specs.Form.{kind_of}
use Rattle.row_records.specs.Records.{columns_of, record_of}
use Rattle.datastore_answers.specs.Dictionary.{type_name}
use Rattle.datastore_table.specs.declared.row.Row.{Row}
use Rattle.datastore_query.specs.Column.{column_name, projected}
use Rattle.datastore_query.specs.Query.{QueryValue}
use Rattle.datastore_query.specs.declared.page.Page.{Page}
use Rattle.portal_state.specs.declared.search_body.Search.{Search}

-- ---- columns

-- the type of a column: that of its field, and `int` for `_id`
abbrev pub type_of : Option FieldValue → List ℕ
type_of None = codes "int"
type_of (Some field) = type_name (kind_of field.form)

abbrev pub column_type : List FieldValue → List ℕ → List ℕ
column_type fields name = type_of (find (λ (f : FieldValue). bytes_eq f.name name) fields)

abbrev pub column_dictionary : List FieldValue → List ℕ → Json
column_dictionary fields name = json.Map (
    (codes "id", json.Text name)
    ∷ (codes "type", json.Text (column_type fields name))
    ∷ [])

-- ---- the page

-- the count of rows on all pages, where the search asks for it
abbrev pub total_member : Bool → ℕ → List (List ℕ × Json)
total_member true total = (codes "total", json.Whole (pos total)) ∷ []
total_member false total = []

-- the page of a query that has these rows
abbrev pub page_with : List FieldValue → List Row → ℕ → QueryValue → Page
page_with fields rows total query = record {
  columns = map (column_name fields) query.columns;
  rows = map (projected query.columns) rows;
  total = total;
}

-- the dictionary of a page: its columns, its bounds, its records, the id of the table's resource, and the count of rows
abbrev pub page_members : Search → List ℕ → List Json → List Json → ℕ → Json
page_members search id columns records total = json.Map (
    (codes "fields", json.List columns)
    ∷ (codes "limit", json.Whole (pos search.parts.limit))
    ∷ (codes "offset", json.Whole (pos search.parts.offset))
    ∷ (codes "records", json.List records)
    ∷ (codes "resource_id", json.Text id)
    ∷ total_member search.total total)

-- a page of the rows of the table of the resource of that id
abbrev pub page_dictionary : List FieldValue → List ℕ → Search → Page → Json
page_dictionary fields id search page =
    page_members search id (map (column_dictionary fields) page.columns)
    (map (record_of (columns_of page.columns)) page.rows) page.total

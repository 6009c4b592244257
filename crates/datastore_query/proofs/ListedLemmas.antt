-- Each cell of a page is a value.
use Rattle.std.proofs.Common.{◌≡◌, ◌∙◌, ℕ, ◌^◌, Bool, true, false, cond, List, [], ◌∷◌, ◌++◌, map, drop, fold}
use Rattle.std.proofs.Common.{zero, suc, ap, refl, sym, subst, take, length}
use Rattle.std.specs.Prelude.{All, nat_lt, pos, decimal}
use Rattle.std.specs.List.{list_any}
use Rattle.std.proofs.lemmas.List.{length-map}
use Rattle.std.proofs.lemmas.List.Elements.{All-cons, All-drop, All-filter, All-head, All-map, All-nil}
use Rattle.std.proofs.lemmas.List.Elements.{All-push, All-tail, All-take, All-weaker}
use Rattle.portal_base.specs.Ordered.{ascending}
use Rattle.portal_base.proofs.Upserted.{All-each, All-IsIn}
use Rattle.portal_base.proofs.Unique.{ascending-IsIn}
use Rattle.std.specs.declared.cmp.Ordering.{Ordering}
use Rattle.table_schema.specs.declared.cell.Cell.{Cell}
use Rattle.table_schema.specs.declared.cell.Cell.TheVariants as cell
use Rattle.table_schema.specs.Printed.{IsValue}
use Rattle.datastore_table.specs.declared.row.Row.{Row}
use Rattle.datastore_table.specs.Cells.{cell_at}
use Rattle.datastore_query.specs.declared.column.Column.{Column}
use Rattle.datastore_query.specs.declared.column.Column.TheVariants as column
use Rattle.datastore_query.specs.Column.{column_cell, id_cell, projected}
use Rattle.datastore_query.specs.Distinct.{are_alike, firsts_alike_if, listed_rows}
use Rattle.datastore_query.specs.Query.{firsts_if, is_selected, listing, page_rows, QueryValue, selected_rows}
use Rattle.datastore_query.specs.Query.{with_first}
use Rattle.datastore_query.specs.Sort.{in_order, sorts_cmp}
use Rattle.datastore_query.proofs.DistinctLemmas.{firsts_cells}
use Rattle.datastore_query.proofs.RowLemmas.{page_of_mapped}

abbrev pub HasValues : Row → Type 0
HasValues row = All IsValue row.cells

id_value : (id : ℕ) → IsValue (id_cell id)
id_value id =
    elim (nat_lt id (2 ^ 63)) as (λ b. IsValue (cond b (cell.Int (pos id)) (cell.Text (decimal id))))
    [ true ↦ tt | false ↦ tt ]

value_at : (cells : List Cell) (index : ℕ) → All IsValue cells → IsValue (cell_at cells index)
value_at [] index h = tt
value_at (c ∷ cs) zero h = All-head IsValue c cs h
value_at (c ∷ cs) (suc index) h = value_at cs index (All-tail IsValue c cs h)

column_value : (on : Column) (row : Row) → HasValues row → IsValue (column_cell on row)
column_value column.Id row h = id_value row.id
column_value (column.Field index) row h = value_at row.cells index h

projected_values : (columns : List Column) (row : Row) → HasValues row → All IsValue (projected columns row)
projected_values [] row h = All-nil IsValue
projected_values (on ∷ columns) row h =
    All-cons IsValue (column_cell on row) (projected columns row) (column_value on row h)
    (projected_values columns row h)

All-ascending : {X : Type 0} (P : X → Type 0) (cmp : X → X → Ordering) (xs : List X) → All P xs
    → All P (ascending cmp xs)
All-ascending P cmp xs h =
    All-each P (ascending cmp xs) (λ x m. All-IsIn P xs h x (ascending-IsIn cmp x xs m))

All-with_first : {X : Type 0} (P : X → Type 0) (like : X → X → Bool) (kept : List X) (x : X) → All P kept → P x
    → All P (with_first like kept x)
All-with_first {X} P like kept x h p =
    elim (list_any (like x) kept) as (λ b. All P (cond b kept (kept ++ x ∷ [])))
    [ true ↦ h | false ↦ All-push P kept x h p ]

All-firsts_on : {X : Type 0} (P : X → Type 0) (like : X → X → Bool) (kept xs : List X) → All P kept → All P xs
    → All P (fold (with_first like) kept xs)
All-firsts_on P like kept [] h k = h
All-firsts_on P like kept (x ∷ xs) h k =
    All-firsts_on P like (with_first like kept x) xs (All-with_first P like kept x h (All-head P x xs k))
    (All-tail P x xs k)

All-firsts_alike_if : (b : Bool) (columns : List Column) (rows : List Row) → All HasValues rows
    → All HasValues (firsts_alike_if b columns rows)
All-firsts_alike_if false columns rows h = h
All-firsts_alike_if true columns rows h =
    All-firsts_on HasValues (are_alike columns) [] rows (All-nil HasValues) h

cells-listed : (b : Bool) (columns : List Column) (rows : List Row)
    → map (projected columns) (firsts_alike_if b columns rows) ≡ firsts_if b (map (projected columns) rows)
cells-listed false columns rows = refl
cells-listed true columns rows = firsts_cells columns rows

-- The listing has the cells of the listed rows.
listing-rows : (query : QueryValue) (rows : List Row)
    → map (projected query.columns) (listed_rows query rows) ≡ listing query rows
listing-rows query rows =
    cells-listed query.distinct query.columns (in_order query.sorts (selected_rows query rows))

-- The page has the cells of the rows on the page.
pub page_of_rows : (query : QueryValue) (rows page : List Row)
    → page ≡ take query.limit (drop query.offset (listed_rows query rows))
    → map (projected query.columns) page ≡ page_rows query rows
page_of_rows query rows page is =
    ap (map (projected query.columns)) is
    ∙ page_of_mapped (projected query.columns) query.limit query.offset (listed_rows query rows)
    ∙ ap (λ (cells : List (List Cell)). take query.limit (drop query.offset cells)) (listing-rows query rows)

pub count_of_rows : (query : QueryValue) (rows : List Row)
    → length (listed_rows query rows) ≡ length (listing query rows)
count_of_rows query rows =
    sym (length-map (listed_rows query rows) (projected query.columns)) ∙ ap length (listing-rows query rows)

-- Each cell of a row on the page is a value.
pub values_of_rows : (query : QueryValue) (rows page : List Row) → All HasValues rows
    → page ≡ take query.limit (drop query.offset (listed_rows query rows)) → All HasValues page
values_of_rows query rows page h is =
    let selected : All HasValues (selected_rows query rows) =
    All-filter (is_selected query.filters query.words) HasValues rows h in
    let ordered : All HasValues (in_order query.sorts (selected_rows query rows)) =
    All-ascending HasValues (sorts_cmp query.sorts) (selected_rows query rows) selected in
    let listed : All HasValues (listed_rows query rows) =
    All-firsts_alike_if query.distinct query.columns (in_order query.sorts (selected_rows query rows)) ordered in
    subst (λ rs. All HasValues rs) (sym is)
    (All-take HasValues query.limit (drop query.offset (listed_rows query rows))
    (All-drop HasValues query.offset (listed_rows query rows) listed))

-- Each cell of the rows in the columns is a value.
pub page_values : (columns : List Column) (rows : List Row) → All HasValues rows
    → All (All IsValue) (map (projected columns) rows)
page_values columns rows h =
    All-map (All IsValue) (projected columns) rows
    (All-weaker HasValues (λ row. All IsValue (projected columns row)) (projected_values columns) rows h)

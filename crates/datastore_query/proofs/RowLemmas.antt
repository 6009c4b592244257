-- Rows that pass a test, in their order; columns one after another; and pages of lists.
use Rattle.std.proofs.Common.{◌≡◌, ◌∙◌, ℕ, zero, suc, ◌+◌, ◌<◌, Bool, List, [], ◌∷◌, arith, drop, filter, length, map}
use Rattle.std.proofs.Common.{◌==◌, true, ap, min, refl, sym, take}
use Rattle.std.proofs.lemmas.Bool.{eqb-true}
use Rattle.std.proofs.lemmas.List.{drop-map, take-map, take_all}
use Rattle.portal_base.specs.Ordered.{IsAscending}
use Rattle.portal_base.proofs.Filtered.{IsAscending-filter}
use Rattle.portal_base.proofs.Upserted.{ascending-same}
use Rattle.sorted_pages.proofs.PageLemmas.{page_of_first}
use Rattle.sorted_pages.proofs.SelectLemmas.{ascending-length}
use Rattle.table_schema.specs.Field.{FieldValue}
use Rattle.datastore_table.specs.declared.row.Row.{Row}
use Rattle.datastore_table.specs.Rows.{row_cmp, row_cmp_total}
use Rattle.datastore_query.specs.declared.column.Column.TheVariants as column
use Rattle.datastore_query.specs.declared.sort.Sort.{Sort}
use Rattle.datastore_query.specs.Column.{field_columns_from}
use Rattle.datastore_query.specs.Sort.{in_order, sorts_cmp}

pub ascending_filtered : (p : Row → Bool) (rows : List Row) → IsAscending row_cmp rows
    → IsAscending row_cmp (filter p rows)
ascending_filtered p rows up = IsAscending-filter row_cmp p rows up

pub field_columns_from_next : (n i : ℕ) (fields : List FieldValue) → i < length fields
    → field_columns_from n (drop i fields) ≡ column.Field n ∷ field_columns_from (n + 1) (drop (i + 1) fields)
field_columns_from_next n i [] lt = absurd (omega arith)
field_columns_from_next n zero (field ∷ fields) lt = refl
field_columns_from_next n (suc i) (field ∷ fields) lt =
    let e : suc (i + 1) ≡ suc i + 1 = omega arith in
    field_columns_from_next n i fields (omega arith)
    ∙ ap (λ k. column.Field n ∷ field_columns_from (n + 1) (drop k (field ∷ fields))) e

pub page_of_mapped : {X Y : Type 0} (f : X → Y) (limit offset : ℕ) (xs : List X)
    → map f (take limit (drop offset xs)) ≡ take limit (drop offset (map f xs))
page_of_mapped f limit offset xs =
    sym (take-map f limit (drop offset xs)) ∙ ap (take limit) (sym (drop-map f offset xs))

-- The page of the first rows is the page of all rows, where these end with the page.
pub page_within : (sorts : List Sort) (limit offset end : ℕ) (rows first : List Row)
    → end ≡ min (offset + limit) (length rows) → first ≡ take end (in_order sorts rows)
    → take limit (drop offset first) ≡ take limit (drop offset (in_order sorts rows))
page_within sorts limit offset end rows first at is =
    page_of_first limit offset end (in_order sorts rows) first
    (at ∙ ap (min (offset + limit)) (sym (ascending-length (sorts_cmp sorts) rows))) is

pub all_in_order : (sorts : List Sort) (rows : List Row) → take (length rows) (in_order sorts rows) ≡ in_order sorts rows
all_in_order sorts rows =
    let long : length (in_order sorts rows) ≡ length rows = ascending-length (sorts_cmp sorts) rows in
    take_all (length rows) (in_order sorts rows) (omega arith)

pub ordered_length : (sorts : List Sort) (rows : List Row) → length (in_order sorts rows) ≡ length rows
ordered_length sorts rows = ascending-length (sorts_cmp sorts) rows

-- Rows in the order of their `_id` are in the order of no sort.
pub unsorted : (sorts : List Sort) (rows : List Row) → (length sorts == 0) ≡ true → IsAscending row_cmp rows
    → rows ≡ in_order sorts rows
unsorted [] rows empty up = sym (ascending-same row_cmp row_cmp_total rows up)
unsorted (sort ∷ sorts) rows empty up = absurd (omega (arith, eqb-true (length (sort ∷ sorts)) 0 empty))

-- The rows of a draft are found by its index, as the table's rows are.
use Rattle.std.proofs.Common.{◌≡◌, ℕ, ◌+◌, Bool, true, false, ◌||◌, not, List, [], ◌∷◌, refl, subst, Ok}
use Rattle.lexical_forms.specs.Digits.{is_empty}
use Rattle.portal_base.specs.Ordered.{IsAscending}
use Rattle.portal_base.specs.declared.json_value.Json.{Json}
use Rattle.table_schema.specs.Field.{FieldValue, SchemaValue}
use Rattle.datastore_table.specs.declared.draft.Draft.{Draft}
use Rattle.datastore_table.specs.declared.method.Method.{Method}
use Rattle.datastore_table.specs.declared.row.Row.{Row}
use Rattle.datastore_table.specs.Batch.{worked_on}
use Rattle.datastore_table.specs.Draft.{IsDraft, drafted}
use Rattle.datastore_table.specs.Index.{IsIndexed, IsSearchable, column_lists_of}
use Rattle.datastore_table.specs.Meets.{are_apart, has_cell_of, has_key_of, keys_apart, uniques_apart}
use Rattle.datastore_table.specs.Put.{put_record}
use Rattle.datastore_table.specs.Rows.{row_cmp, row_cmp_total, rows_after}
use Rattle.datastore_table.proofs.ApartLemmas.{put_record-keys, put_record-uniques}
use Rattle.datastore_table.proofs.KeyLemmas.{are_one, cell_turned, key_turned, one_apart}
use Rattle.datastore_table.proofs.Merged.{IsAscending-merged, merged-IsIn}
use Rattle.datastore_table.proofs.RowLemmas.{both_hold}
use Rattle.datastore_table.proofs.StoreLemmas.{key_indexed, unique_indexed}

-- The rows are apart in their keys and in each unique field.
pub record AreDistinct (schema : SchemaValue) (rows : List Row) : Type 0 where
  pub keys : keys_apart schema.key rows ≡ true
  pub uniques : uniques_apart 0 schema.fields rows ≡ true

-- The written rows are among the current ones, so what is apart there is apart here.
written_apart : (like : Row → Row → Bool) → ((a b : Row) → like a b ≡ true → like b a ≡ true) → (written rows : List Row)
    → IsAscending row_cmp written → are_apart like (rows_after written rows) ≡ true → are_apart like written ≡ true
written_apart like turned written rows up apart =
    one_apart like written up
    (λ a b m n l. are_one like turned (rows_after written rows) apart a b (merged-IsIn row_cmp a written rows up m)
    (merged-IsIn row_cmp b written rows up n) l)

either : (a b c : Bool) → (b ≡ true → c ≡ true) → (a || b) ≡ true → (a || c) ≡ true
either true b c more h = refl
either false b c more h = more h

written_uniques : (column : ℕ) (fields : List FieldValue) (written rows : List Row) → IsAscending row_cmp written
    → uniques_apart column fields (rows_after written rows) ≡ true → uniques_apart column fields written ≡ true
written_uniques column [] written rows up apart = refl
written_uniques column (field ∷ fields) written rows up apart =
    let parts = both_hold (not field.constraints.unique || are_apart (has_cell_of column) (rows_after written rows))
    (uniques_apart (column + 1) fields (rows_after written rows)) apart in
    let first = either (not field.constraints.unique) (are_apart (has_cell_of column) (rows_after written rows))
    (are_apart (has_cell_of column) written)
    (written_apart (has_cell_of column) (cell_turned column) written rows up) parts.0 in
    rw (first, written_uniques (column + 1) fields written rows up parts.1) refl

pub draft_searchable : (schema : SchemaValue) (draft : Draft) (rows : List Row) → IsDraft draft
    → draft.column_lists.items ≡ column_lists_of schema
    → AreDistinct schema (rows_after draft.rows rows)
    → IsSearchable schema draft.rows draft.index
draft_searchable schema draft rows is lists distinct =
    let written = draft.rows in
    let indexed : IsIndexed (column_lists_of schema) written draft.index =
    subst (λ cs. IsIndexed cs written draft.index) lists is.indexed in
    record {
      keyed = record {
        ascending = is.ascending;
        apart = either (is_empty schema.key) (are_apart (has_key_of schema.key) (rows_after written rows))
            (are_apart (has_key_of schema.key) written)
            (written_apart (has_key_of schema.key) (key_turned schema.key) written rows is.ascending) distinct.keys;
        indexed = key_indexed schema written draft.index indexed;
      };
      uniques = written_uniques 0 schema.fields written rows is.ascending distinct.uniques;
      unique = unique_indexed schema written draft.index indexed;
    }

-- One more record keeps the current rows apart.
pub distinct_after : (method : Method) (schema : SchemaValue) (number : ℕ) (given : Json) (rows : List Row)
    (old new : Draft) → IsAscending row_cmp rows → AreDistinct schema (rows_after old.rows rows)
    → put_record method schema number given (worked_on rows (drafted old)) ≡ Ok (worked_on rows (drafted new))
    → AreDistinct schema (rows_after new.rows rows)
distinct_after method schema number given rows old new up distinct put =
    let current = IsAscending-merged row_cmp row_cmp_total old.rows rows up in
    record {
      keys = put_record-keys method schema number given (worked_on rows (drafted old)) (worked_on rows (drafted new))
          current distinct.keys put;
      uniques = put_record-uniques method schema number given (worked_on rows (drafted old))
          (worked_on rows (drafted new)) current distinct.uniques put;
    }

-- Filters are read as the rules say.
use Rattle.std.proofs.Common.{◌≡◌, ◌∙◌, ◌↔◌, ℕ, Bool, true, false, cond, List, [], ◌∷◌, Option, Some, None, Result, Ok}
use Rattle.std.proofs.Common.{refl, sym, ap, map, subst}
use Rattle.std.specs.Prelude.{filter, is_none, option_map}
use Rattle.std.specs.List.{cons_option, filter_map}
use Rattle.table_schema.specs.Field.{FieldValue}
use Rattle.datastore_query.specs.declared.column.Column.{Column}
use Rattle.datastore_query.specs.declared.filter.Filter.{Filter}
use Rattle.datastore_query.specs.Column.{column_of, no_field_error}
use Rattle.datastore_query.specs.Filter.{Entry, IsFiltersReading, entries_reading, entry_reading, filters_in, is_unknown}
use Rattle.datastore_query.specs.Filter.{is_unreadable, keys_where, least, reading_on, type_error, unknown_keys}
use Rattle.datastore_query.specs.Filter.{unreadable_keys}
use Rattle.datastore_query.specs.Filter.IsFiltersReading.{each_read, no_field, not_of_type}
use Rattle.datastore_query.specs.Results.{unless_error}
use Rattle.datastore_query.proofs.LeastLemmas.{least_where_none_is_less, none_where_no_key}

-- ---- where each entry can be read

-- the keys of some more entries
key_kept : (test : Entry → Bool) (entry : Entry) (entries : List Entry) → test entry ≡ true
    → keys_where test (entry ∷ entries) ≡ entry.0 ∷ keys_where test entries
key_kept test entry entries e =
    ap (λ b. map (λ (x : Entry). x.0) (cond b (entry ∷ filter test entries) (filter test entries))) e

key_dropped : (test : Entry → Bool) (entry : Entry) (entries : List Entry) → test entry ≡ false
    → keys_where test (entry ∷ entries) ≡ keys_where test entries
key_dropped test entry entries e =
    ap (λ b. map (λ (x : Entry). x.0) (cond b (entry ∷ filter test entries) (filter test entries))) e

-- If there is no unreadable key, each entry has its filter.
all_read : (fields : List FieldValue) (entries : List Entry) → unreadable_keys fields entries ≡ []
    → map (entry_reading fields) entries ≡ map Some (filters_in fields entries)
all_read fields [] none = refl
all_read fields (entry ∷ entries) none = by (entry_reading fields entry) refl (all_read fields entries)
  where
    by : (o : Option Filter) → entry_reading fields entry ≡ o
        → (unreadable_keys fields entries ≡ [] → map (entry_reading fields) entries ≡ map Some (filters_in fields entries))
        → entry_reading fields entry ∷ map (entry_reading fields) entries
        ≡ map Some (cons_option (entry_reading fields entry) (filter_map (entry_reading fields) entries))
    by None e more =
        let kept = key_kept (is_unreadable fields) entry entries (ap is_none e) in
        absurd (cc)
    by (Some f) e more =
        let dropped = key_dropped (is_unreadable fields) entry entries (ap is_none e) in
        let rest : map (entry_reading fields) entries ≡ map Some (filters_in fields entries) =
        more (sym dropped ∙ none) in
        rw e (ap (λ os. Some f ∷ os) rest)

-- If each entry has its filter, there is no unreadable key, and these are the filters.
none_unreadable : (fields : List FieldValue) (entries : List Entry) (read : List Filter)
    → map (entry_reading fields) entries ≡ map Some read
    → (unreadable_keys fields entries ≡ []) × (filters_in fields entries ≡ read)
none_unreadable fields [] [] e = (refl, refl)
none_unreadable fields [] (f ∷ read) e = absurd (cc)
none_unreadable fields (entry ∷ entries) [] e = absurd (cc)
none_unreadable fields (entry ∷ entries) (f ∷ read) e =
    let first : entry_reading fields entry ≡ Some f = cc in
    let others : map (entry_reading fields) entries ≡ map Some read = cc in
    let rest = none_unreadable fields entries read others in (
      key_dropped (is_unreadable fields) entry entries (ap is_none first) ∙ rest.0,
      ap (λ o. cons_option o (filters_in fields entries)) first ∙ ap (λ fs. f ∷ fs) rest.1,
    )

-- A key that names no column is unreadable.
none_unknown : (fields : List FieldValue) (entries : List Entry) → unreadable_keys fields entries ≡ []
    → unknown_keys fields entries ≡ []
none_unknown fields [] none = refl
none_unknown fields (entry ∷ entries) none = by (column_of fields entry.0) refl (none_unknown fields entries)
  where
    rest : (b : Bool) → is_unreadable fields entry ≡ b → unreadable_keys fields entries ≡ []
    rest true h = let kept = key_kept (is_unreadable fields) entry entries h in absurd (cc)
    rest false h = sym (key_dropped (is_unreadable fields) entry entries h) ∙ none

    by : (o : Option Column) → column_of fields entry.0 ≡ o
        → (unreadable_keys fields entries ≡ [] → unknown_keys fields entries ≡ [])
        → unknown_keys fields (entry ∷ entries) ≡ []
    by None e more =
        let unread : is_unreadable fields entry ≡ true =
        ap (λ o. is_none (reading_on fields entry.1 o)) e in
        let kept = key_kept (is_unreadable fields) entry entries unread in
        absurd (cc)
    by (Some on) e more =
        key_dropped (is_unknown fields) entry entries (ap is_none e)
        ∙ more (rest (is_unreadable fields entry) refl)

-- ---- all entries

abbrev read_by : Option (List ℕ) → Option (List ℕ) → List Filter → Result (List Filter) (List ℕ)
read_by unknown unreadable read =
    unless_error (option_map no_field_error unknown) (unless_error (option_map type_error unreadable) (Ok read))

by_leasts : (fields : List FieldValue) (entries : List Entry) (unknown unreadable : Option (List ℕ))
    → least (unknown_keys fields entries) ≡ unknown → least (unreadable_keys fields entries) ≡ unreadable
    → IsFiltersReading fields entries (read_by unknown unreadable (filters_in fields entries))
by_leasts fields entries (Some key) unreadable e h =
    no_field key ((least_where_none_is_less (unknown_keys fields entries) key).0 e)
by_leasts fields entries None (Some key) e h =
    not_of_type key ((none_where_no_key (unknown_keys fields entries)).0 e)
    ((least_where_none_is_less (unreadable_keys fields entries) key).0 h)
by_leasts fields entries None None e h =
    each_read (filters_in fields entries)
    (all_read fields entries ((none_where_no_key (unreadable_keys fields entries)).0 h))

by_rule : (fields : List FieldValue) (entries : List Entry) (read : Result (List Filter) (List ℕ))
    → IsFiltersReading fields entries read → entries_reading fields entries ≡ read
by_rule fields entries _ (each_read read all) =
    let facts = none_unreadable fields entries read all in
    let unknown : least (unknown_keys fields entries) ≡ None =
    ap least (none_unknown fields entries facts.0) in
    let unreadable : least (unreadable_keys fields entries) ≡ None = ap least facts.0 in
    ap (λ o. read_by o (least (unreadable_keys fields entries)) (filters_in fields entries)) unknown
    ∙ ap (λ o. read_by None o (filters_in fields entries)) unreadable
    ∙ ap Ok facts.1
by_rule fields entries _ (no_field key is) =
    ap (λ o. read_by o (least (unreadable_keys fields entries)) (filters_in fields entries))
    ((least_where_none_is_less (unknown_keys fields entries) key).1 is)
by_rule fields entries _ (not_of_type key none is) =
    ap (λ o. read_by o (least (unreadable_keys fields entries)) (filters_in fields entries)) (ap least none)
    ∙ ap (λ o. read_by None o (filters_in fields entries))
    ((least_where_none_is_less (unreadable_keys fields entries) key).1 is)

pub filters_by_rules : (fields : List FieldValue) (entries : List Entry) (read : Result (List Filter) (List ℕ))
    → (entries_reading fields entries ≡ read) ↔ IsFiltersReading fields entries read
filters_by_rules fields entries read = (
  λ e. subst (IsFiltersReading fields entries) e
      (by_leasts fields entries (least (unknown_keys fields entries)) (least (unreadable_keys fields entries)) refl refl),
  by_rule fields entries read,
)

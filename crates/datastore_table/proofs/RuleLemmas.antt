-- The rows of a table keep the rules.
use Rattle.std.proofs.Common.{◌≡◌, ◌∙◌, ◌↔◌, ◌+◌, ◌<◌, ◌≤◌, ℕ, zero, suc, Bool, true, false, ◌&&◌, ◌||◌, not}
use Rattle.std.proofs.Common.{List, [], ◌∷◌, Option, Some, None, ap, arith, inl, inr, is_none, length, nat_le, nat_lt, refl, slice_get}
use Rattle.std.proofs.Common.{rules, subst, sym}
use Rattle.std.specs.Cmp.{nat_cmp_is}
use Rattle.std.specs.Prelude.{AllPairs, Contains}
use Rattle.std.specs.List.{list_all}
use Rattle.std.specs.Ordering.{nat_cmp}
use Rattle.std.specs.declared.cmp.Ordering.TheVariants.{Less}
use Rattle.std.proofs.lemmas.Bool.Decides.{nat_tests}
use Rattle.lexical_forms.specs.Digits.{is_empty}
use Rattle.portal_base.specs.Ordered.{IsAscending}
use Rattle.portal_base.proofs.Filtered.{IsIn-list_all, list_all-IsIn}
use Rattle.portal_base.proofs.Unique.{Contains-IsIn, IsIn, IsIn-Contains, below_in}
use Rattle.table_schema.specs.declared.cell.Cell.{Cell}
use Rattle.table_schema.specs.declared.cell.Cell.TheVariants as cell
use Rattle.table_schema.specs.declared.foreign.Foreign.{Foreign}
use Rattle.table_schema.specs.declared.form.Kind.{Kind}
use Rattle.table_schema.specs.Constraint.{constraint_fault}
use Rattle.table_schema.specs.Field.{FieldValue, SchemaValue}
use Rattle.table_schema.specs.Form.{kind_of}
use Rattle.table_schema.specs.Keys.{same_kind}
use Rattle.table_schema.specs.Order.{same_cell}
use Rattle.table_schema.specs.Reading.{Accepts, kind_of_cell}
use Rattle.datastore_table.specs.declared.row.Row.{Row}
use Rattle.datastore_table.specs.Cells.{cell_at, cells_at, has_null_at, is_null, same_cells}
use Rattle.datastore_table.specs.Meets.{IsTable, are_accepted, are_apart, ascend_from, has_cell_of, has_key_of}
use Rattle.datastore_table.specs.Meets.{is_accepted, is_numbered, is_of_kind, is_restorable, is_value}
use Rattle.datastore_table.specs.Meets.{keeps_self_reference, keys_apart, meets_schema, row_meets, uniques_apart}
use Rattle.datastore_table.specs.References.{is_broken, is_self, key_exists, refers}
use Rattle.datastore_table.specs.Rows.{has_cells, row_cmp}
use Rattle.datastore_table.specs.Rules.{CellsFit, FindsKey, HasNoNull, KeepRules}
use Rattle.datastore_table.specs.Rules.{NumbersAscend, ReferencesFind, ShareValue, UniquesDiffer}
use Rattle.datastore_table.specs.Table.{AreWithin, IsNumbered}
use Rattle.datastore_table.proofs.AcceptLemmas.{both, le_true, lt_true, same_kind-itself}
use Rattle.datastore_table.proofs.KeyLemmas.{cells-is, cells-itself, not_true, same_cell-is, same_cell-itself, true_false}
use Rattle.datastore_table.proofs.MeetLemmas.{numbered_from}
use Rattle.datastore_table.proofs.PairLemmas.{AllPairs-weaker, apart_pairs, ascending_pairs, pairs_apart}
use Rattle.datastore_table.proofs.PairLemmas.{pairs_ascending}
use Rattle.datastore_table.proofs.ReferenceLemmas.{any-found, found-any}
use Rattle.datastore_table.proofs.RowLemmas.{both_hold, not_both}

-- ---- tests

either : (a b : Bool) → (a || b) ≡ true → a ≡ false → b ≡ true
either true b h e = absurd (cc)
either false b h e = h

not_false : (b : Bool) → b ≡ false → not b ≡ true
not_false b e = rw e refl

none-is : {X : Type 0} (o : Option X) → is_none o ≡ true → o ≡ None
none-is None h = refl
none-is (Some x) h = absurd (cc)

-- What doesn't hold has a test that is false, and the other way round.
refused : (b : Bool) → (b ≡ true → ⊥) → b ≡ false
refused true h = absurd (h refl)
refused false h = refl

empty-is : {X : Type 0} (xs : List X) → is_empty xs ≡ true → xs ≡ []
empty-is [] h = refl
empty-is (x ∷ xs) h = absurd (cc)

-- ---- Null

null-is : (c : Cell) → is_null c ≡ true → c ≡ cell.Null
null-is cell.Null h = refl
null-is other h = absurd (cc)

some-not : (c : Cell) → is_null c ≡ false → c ≡ cell.Null → ⊥
some-not c h e = true_false (is_null c) (ap is_null e) h

not-some : (c : Cell) → (c ≡ cell.Null → ⊥) → is_null c ≡ false
not-some c h = refused (is_null c) (λ e. h (null-is c e))

no_null : (columns : List ℕ) (row : Row) → has_null_at columns row.cells ≡ false → HasNoNull columns row
no_null columns row none column m e =
    true_false (has_null_at columns row.cells)
    (found-any (λ p. is_null (cell_at row.cells p)) column columns (IsIn-Contains column columns m) (ap is_null e)) none

null_at-none : (columns : List ℕ) (row : Row) → HasNoNull columns row → has_null_at columns row.cells ≡ false
null_at-none columns row none =
    refused (has_null_at columns row.cells) (λ e. by (any-found (λ p. is_null (cell_at row.cells p)) columns e))
  where
    by : (p : ℕ) × IsIn p columns × (is_null (cell_at row.cells p) ≡ true) → ⊥
    by found = none found.0 (Contains-IsIn found.0 columns found.1) (null-is (cell_at row.cells found.0) found.2)

-- ---- cells that fit their fields

same_kind-is : (a b : Kind) → same_kind a b ≡ true → a ≡ b
same_kind-is a b h = search rules

of_kind-is : (k : Kind) (o : Option Kind) → is_of_kind k o ≡ true → o ≡ Some k
of_kind-is k None h = absurd (cc)
of_kind-is k (Some own) h = ap Some (same_kind-is own k h)

-- What is accepted, of a cell other than Null.
abbrev Suits : FieldValue → Cell → Type 0
Suits field c = (kind_of_cell c ≡ Some (kind_of field.form)) × (constraint_fault field.constraints c ≡ None)

suits-accepts : (field : FieldValue) (c : Cell) → is_null c ≡ false → Suits field c → Accepts field c
suits-accepts field cell.Null some h = absurd (cc)
suits-accepts field other some h = h

accepts-suits : (field : FieldValue) (c : Cell) → is_null c ≡ false → Accepts field c → Suits field c
accepts-suits field cell.Null some h = absurd (cc)
accepts-suits field other some h = h

abbrev some_accepted : FieldValue → Cell → Bool
some_accepted field c =
    is_of_kind (kind_of field.form) (kind_of_cell c) && (is_value c && is_none (constraint_fault field.constraints c))

accepted-some : (field : FieldValue) (c : Cell) → is_null c ≡ false → is_accepted field c ≡ some_accepted field c
accepted-some field c some = rw some refl

accepted-fits : (field : FieldValue) (c : Cell) → is_accepted field c ≡ true → Accepts field c × (is_value c ≡ true)
accepted-fits field c h = by (is_null c) refl
  where
    by : (b : Bool) → is_null c ≡ b → Accepts field c × (is_value c ≡ true)
    by true e =
        let null : c ≡ cell.Null = null-is c e in
        let free : not field.constraints.required ≡ true = subst (λ x. is_accepted field x ≡ true) null h in
        subst (λ x. Accepts field x × (is_value x ≡ true)) (sym null) (not_true field.constraints.required free, refl)
    by false some =
        let parts = both_hold (is_of_kind (kind_of field.form) (kind_of_cell c))
        (is_value c && is_none (constraint_fault field.constraints c)) (sym (accepted-some field c some) ∙ h) in
        let halves = both_hold (is_value c) (is_none (constraint_fault field.constraints c)) parts.1 in (
          suits-accepts field c some (
            of_kind-is (kind_of field.form) (kind_of_cell c) parts.0,
            none-is (constraint_fault field.constraints c) halves.1,
          ),
          halves.0,
        )

fits-accepted : (field : FieldValue) (c : Cell) → Accepts field c → is_value c ≡ true → is_accepted field c ≡ true
fits-accepted field c accepts value = by (is_null c) refl
  where
    by : (b : Bool) → is_null c ≡ b → is_accepted field c ≡ true
    by true e =
        let null : c ≡ cell.Null = null-is c e in
        let free : field.constraints.required ≡ false = subst (λ x. Accepts field x) null accepts in
        subst (λ x. is_accepted field x ≡ true) (sym null) (not_false field.constraints.required free)
    by false some =
        let suits = accepts-suits field c some accepts in
        accepted-some field c some
        ∙ both (is_of_kind (kind_of field.form) (kind_of_cell c))
        (is_value c && is_none (constraint_fault field.constraints c))
        (ap (is_of_kind (kind_of field.form)) suits.0 ∙ same_kind-itself (kind_of field.form))
        (both (is_value c) (is_none (constraint_fault field.constraints c)) value
        (ap is_none suits.1))

cells-fit : (fields : List FieldValue) (cells : List Cell) → are_accepted fields cells ≡ true → CellsFit fields cells
cells-fit [] [] h = record { count = refl; accepted = λ column field e. absurd (cc) }
cells-fit [] (c ∷ cells) h = absurd (cc)
cells-fit (f ∷ fields) [] h = absurd (cc)
cells-fit (f ∷ fields) (c ∷ cells) h =
    let parts = both_hold (is_accepted f c) (are_accepted fields cells) h in
    let rest = cells-fit fields cells parts.1 in
    record { count = ap suc rest.count; accepted = at (accepted-fits f c parts.0) rest.accepted }
  where
    at : Accepts f c × (is_value c ≡ true)
        → ((column : ℕ) (field : FieldValue) → slice_get fields column ≡ Some field
        → Accepts field (cell_at cells column) × (is_value (cell_at cells column) ≡ true))
        → (column : ℕ) (field : FieldValue) → slice_get (f ∷ fields) column ≡ Some field
        → Accepts field (cell_at (c ∷ cells) column) × (is_value (cell_at (c ∷ cells) column) ≡ true)
    at first others zero field e =
        let same : f ≡ field = cc in
        subst (λ x. Accepts x c × (is_value c ≡ true)) same first
    at first others (suc column) field e = others column field e

fit-cells : (fields : List FieldValue) (cells : List Cell) → CellsFit fields cells → are_accepted fields cells ≡ true
fit-cells [] [] fit = refl
fit-cells [] (c ∷ cells) fit = absurd (omega (arith, fit.count))
fit-cells (f ∷ fields) [] fit = absurd (omega (arith, fit.count))
fit-cells (f ∷ fields) (c ∷ cells) fit =
    let first = fit.accepted 0 f refl in
    let count : length cells ≡ length fields = omega (arith, fit.count) in
    let rest : CellsFit fields cells =
    record { count = count; accepted = λ column field e. fit.accepted (suc column) field e } in
    both (is_accepted f c) (are_accepted fields cells) (fits-accepted f c first.0 first.1) (fit-cells fields cells rest)

-- ---- each row

row-fits : (schema : SchemaValue) (row : Row) → row_meets schema row ≡ true
    → CellsFit schema.fields row.cells × HasNoNull schema.key row
row-fits schema row h =
    let parts = both_hold (are_accepted schema.fields row.cells) (not (has_null_at schema.key row.cells)) h in (
      cells-fit schema.fields row.cells parts.0,
      no_null schema.key row (not_true (has_null_at schema.key row.cells) parts.1),
    )

fits-row : (schema : SchemaValue) (row : Row) → CellsFit schema.fields row.cells → HasNoNull schema.key row
    → row_meets schema row ≡ true
fits-row schema row fit full =
    both (are_accepted schema.fields row.cells) (not (has_null_at schema.key row.cells))
    (fit-cells schema.fields row.cells fit)
    (not_false (has_null_at schema.key row.cells) (null_at-none schema.key row full))

-- ---- keys

key-alike : (key : List ℕ) (a b : Row) → has_key_of key a b ≡ false → cells_at key a.cells ≡ cells_at key b.cells → ⊥
key-alike key a b h e =
    true_false (has_key_of key a b)
    (subst (λ cells. same_cells (cells_at key b.cells) cells ≡ true) (sym e) (cells-itself (cells_at key b.cells))) h

alike-key : (key : List ℕ) (a b : Row) → (cells_at key a.cells ≡ cells_at key b.cells → ⊥) → has_key_of key a b ≡ false
alike-key key a b h =
    refused (has_key_of key a b) (λ e. h (sym (cells-is (cells_at key b.cells) (cells_at key a.cells) e)))

keys-differ : (key : List ℕ) (rows : List Row) → keys_apart key rows ≡ true → (key ≡ [] → ⊥)
    → AllPairs (λ a b. cells_at key a.cells ≡ cells_at key b.cells → ⊥) rows
keys-differ key rows h some =
    let own : is_empty key ≡ false = refused (is_empty key) (λ e. some (empty-is key e)) in
    AllPairs-weaker (λ a b. has_key_of key a b ≡ false) (λ a b. cells_at key a.cells ≡ cells_at key b.cells → ⊥)
    (key-alike key) rows
    (pairs_apart (has_key_of key) rows (either (is_empty key) (are_apart (has_key_of key) rows) h own))

differ-keys : (key : List ℕ) (rows : List Row)
    → ((key ≡ [] → ⊥) → AllPairs (λ a b. cells_at key a.cells ≡ cells_at key b.cells → ⊥) rows)
    → keys_apart key rows ≡ true
differ-keys [] rows apart = refl
differ-keys (p ∷ key) rows apart =
    apart_pairs (has_key_of (p ∷ key)) rows
    (AllPairs-weaker (λ a b. cells_at (p ∷ key) a.cells ≡ cells_at (p ∷ key) b.cells → ⊥)
    (λ a b. has_key_of (p ∷ key) a b ≡ false) (alike-key (p ∷ key)) rows (apart (λ e. cc)))

-- ---- unique fields

value-shared : (column : ℕ) (a b : Row) → has_cell_of column a b ≡ true → ShareValue column a b
value-shared column a b h =
    let parts = both_hold (not (is_null (cell_at a.cells column)))
    (same_cell (cell_at b.cells column) (cell_at a.cells column)) h in
    record {
      same = sym (same_cell-is (cell_at b.cells column) (cell_at a.cells column) parts.1);
      some = some-not (cell_at a.cells column) (not_true (is_null (cell_at a.cells column)) parts.0);
    }

shared-value : (column : ℕ) (a b : Row) → ShareValue column a b → has_cell_of column a b ≡ true
shared-value column a b shared =
    both (not (is_null (cell_at a.cells column))) (same_cell (cell_at b.cells column) (cell_at a.cells column))
    (not_false (is_null (cell_at a.cells column)) (not-some (cell_at a.cells column) shared.some))
    (subst (λ c. same_cell (cell_at b.cells column) c ≡ true) (sym shared.same) (same_cell-itself (cell_at b.cells column)))

values-differ : (column : ℕ) (rows : List Row) → are_apart (has_cell_of column) rows ≡ true
    → AllPairs (λ a b. ShareValue column a b → ⊥) rows
values-differ column rows h =
    AllPairs-weaker (λ a b. has_cell_of column a b ≡ false) (λ a b. ShareValue column a b → ⊥)
    (λ a b e shared. true_false (has_cell_of column a b) (shared-value column a b shared) e) rows
    (pairs_apart (has_cell_of column) rows h)

differ-values : (column : ℕ) (rows : List Row) → AllPairs (λ a b. ShareValue column a b → ⊥) rows
    → are_apart (has_cell_of column) rows ≡ true
differ-values column rows all =
    apart_pairs (has_cell_of column) rows
    (AllPairs-weaker (λ a b. ShareValue column a b → ⊥) (λ a b. has_cell_of column a b ≡ false)
    (λ a b h. refused (has_cell_of column a b) (λ e. h (value-shared column a b e))) rows all)

-- The same for the fields from this column on.
abbrev UniquesFrom : ℕ → List FieldValue → List Row → Type 0
UniquesFrom n fields rows =
    (column : ℕ) (field : FieldValue) → slice_get fields column ≡ Some field → field.constraints.unique ≡ true
    → AllPairs (λ a b. ShareValue (n + column) a b → ⊥) rows

next-column : (n column : ℕ) → n + suc column ≡ (n + 1) + column
next-column n column = omega arith

first-column : (n : ℕ) → n + zero ≡ n
first-column n = omega arith

uniques-differ : (n : ℕ) (fields : List FieldValue) (rows : List Row) → uniques_apart n fields rows ≡ true
    → UniquesFrom n fields rows
uniques-differ n [] rows h column field e unique = absurd (cc)
uniques-differ n (f ∷ fields) rows h zero field e unique =
    let parts = both_hold (not f.constraints.unique || are_apart (has_cell_of n) rows) (uniques_apart (n + 1) fields rows)
    h in
    let same : f ≡ field = cc in
    let own : f.constraints.unique ≡ true = subst (λ (x : FieldValue). x.constraints.unique ≡ true) (sym same) unique in
    subst (λ p. AllPairs (λ a b. ShareValue p a b → ⊥) rows) (sym (first-column n))
    (values-differ n rows
    (either (not f.constraints.unique) (are_apart (has_cell_of n) rows) parts.0 (ap not own)))
uniques-differ n (f ∷ fields) rows h (suc column) field e unique =
    let parts = both_hold (not f.constraints.unique || are_apart (has_cell_of n) rows) (uniques_apart (n + 1) fields rows)
    h in
    subst (λ p. AllPairs (λ a b. ShareValue p a b → ⊥) rows) (sym (next-column n column))
    (uniques-differ (n + 1) fields rows parts.1 column field e unique)

differ-uniques : (n : ℕ) (fields : List FieldValue) (rows : List Row) → UniquesFrom n fields rows
    → uniques_apart n fields rows ≡ true
differ-uniques n [] rows all = refl
differ-uniques n (f ∷ fields) rows all =
    both (not f.constraints.unique || are_apart (has_cell_of n) rows) (uniques_apart (n + 1) fields rows)
    (by f.constraints.unique refl)
    (differ-uniques (n + 1) fields rows
    (λ column field e unique. subst (λ p. AllPairs (λ a b. ShareValue p a b → ⊥) rows) (next-column n column)
    (all (suc column) field e unique)))
  where
    by : (b : Bool) → f.constraints.unique ≡ b → (not b || are_apart (has_cell_of n) rows) ≡ true
    by false e = refl
    by true e =
        differ-values n rows
        (subst (λ p. AllPairs (λ a b. ShareValue p a b → ⊥) rows) (first-column n) (all zero f refl e))

from-zero : (column : ℕ) → 0 + column ≡ column
from-zero column = omega arith

all-differ : (fields : List FieldValue) (rows : List Row) → uniques_apart 0 fields rows ≡ true
    → UniquesDiffer fields rows
all-differ fields rows h column field e unique =
    subst (λ p. AllPairs (λ a b. ShareValue p a b → ⊥) rows) (from-zero column)
    (uniques-differ 0 fields rows h column field e unique)

differ-all : (fields : List FieldValue) (rows : List Row) → UniquesDiffer fields rows
    → uniques_apart 0 fields rows ≡ true
differ-all fields rows all =
    differ-uniques 0 fields rows
    (λ column field e unique. subst (λ p. AllPairs (λ a b. ShareValue p a b → ⊥) rows) (sym (from-zero column))
    (all column field e unique))

-- ---- self references

finds-key : (columns key : List ℕ) (rows : List Row) (row : Row) → is_broken columns key rows row ≡ false
    → (columns ≡ [] → ⊥) → HasNoNull columns row → FindsKey columns key rows row
finds-key columns key rows row h some full =
    let own : is_empty columns ≡ false = refused (is_empty columns) (λ e. some (empty-is columns e)) in
    let refers_to : refers columns row ≡ true = rw (own, null_at-none columns row full) refl in
    found
    (any-found (has_cells key (cells_at columns row.cells)) rows
    (is_true (not_both (refers columns row) (not (key_exists key (cells_at columns row.cells) rows)) h refers_to)))
  where
    is_true : not (key_exists key (cells_at columns row.cells) rows) ≡ false
        → key_exists key (cells_at columns row.cells) rows ≡ true
    is_true e = by (key_exists key (cells_at columns row.cells) rows) e
      where
        by : (b : Bool) → not b ≡ false → b ≡ true
        by true s = refl
        by false s = absurd (cc)

    found : (r : Row) × IsIn r rows × (has_cells key (cells_at columns row.cells) r ≡ true)
        → FindsKey columns key rows row
    found f = record {
      found = f.0;
      there = Contains-IsIn f.0 rows f.1;
      same = cells-is (cells_at key f.0.cells) (cells_at columns row.cells) f.2;
    }

key-found : (columns key : List ℕ) (rows : List Row) (row : Row)
    → ((columns ≡ [] → ⊥) → HasNoNull columns row → FindsKey columns key rows row)
    → is_broken columns key rows row ≡ false
key-found columns key rows row finds = refused (is_broken columns key rows row) broken
  where
    there : FindsKey columns key rows row → key_exists key (cells_at columns row.cells) rows ≡ true
    there f =
        found-any (has_cells key (cells_at columns row.cells)) f.found rows (IsIn-Contains f.found rows f.there)
        (subst (λ cells. same_cells (cells_at key f.found.cells) cells ≡ true) f.same
        (cells-itself (cells_at key f.found.cells)))

    sides : (a b : Bool) → not (a || b) ≡ true → (a ≡ false) × (b ≡ false)
    sides false false h = (refl, refl)
    sides true b h = absurd (cc)
    sides false true h = absurd (cc)

    broken : is_broken columns key rows row ≡ true → ⊥
    broken h =
        let parts = both_hold (refers columns row) (not (key_exists key (cells_at columns row.cells) rows)) h in
        let own = sides (is_empty columns) (has_null_at columns row.cells) parts.0 in
        let some : columns ≡ [] → ⊥ = λ e. true_false (is_empty columns) (ap is_empty e) own.0 in
        true_false (key_exists key (cells_at columns row.cells) rows)
        (there (finds some (no_null columns row own.1)))
        (not_true (key_exists key (cells_at columns row.cells) rows) parts.1)

references-find : (schema : SchemaValue) (rows : List Row)
    → list_all (keeps_self_reference schema.key rows) schema.foreign ≡ true → ReferencesFind schema rows
references-find schema rows h foreign m self some row n full =
    let here = list_all-IsIn (keeps_self_reference schema.key rows) schema.foreign h foreign
    (IsIn-Contains foreign schema.foreign m) in
    let own : not (is_self foreign) ≡ false = ap (λ (r : List ℕ). not (is_empty r)) self in
    let each = either (not (is_self foreign))
    (list_all (λ r. not (is_broken foreign.fields schema.key rows r)) rows) here own in
    finds-key foreign.fields schema.key rows row
    (not_true (is_broken foreign.fields schema.key rows row)
    (list_all-IsIn (λ r. not (is_broken foreign.fields schema.key rows r)) rows each row (IsIn-Contains row rows n)))
    some full

find-references : (schema : SchemaValue) (rows : List Row) → ReferencesFind schema rows
    → list_all (keeps_self_reference schema.key rows) schema.foreign ≡ true
find-references schema rows all =
    IsIn-list_all (keeps_self_reference schema.key rows) schema.foreign (λ foreign m. at foreign m (is_self foreign) refl)
  where
    at : (foreign : Foreign) → IsIn foreign schema.foreign → (b : Bool) → is_self foreign ≡ b
        → keeps_self_reference schema.key rows foreign ≡ true
    at foreign m false e =
        ap (λ b. not b || list_all (λ r. not (is_broken foreign.fields schema.key rows r)) rows) e
    at foreign m true e =
        ap (λ b. not b || list_all (λ r. not (is_broken foreign.fields schema.key rows r)) rows) e
        ∙ IsIn-list_all (λ r. not (is_broken foreign.fields schema.key rows r)) rows
        (λ row n. not_false (is_broken foreign.fields schema.key rows row)
        (key-found foreign.fields schema.key rows row
        (λ some. all foreign (Contains-IsIn foreign schema.foreign m) (empty-is foreign.resource e) some row
        (Contains-IsIn row rows n))))

-- ---- numbers

pub less-from : (a b : ℕ) → nat_cmp a b ≡ Less → a < b
less-from a b h = grind (arith, nat_tests)

pub ids-ascend : (rows : List Row) → IsAscending row_cmp rows → AllPairs (λ (a b : Row). a.id < b.id) rows
ids-ascend rows up =
    AllPairs-weaker (λ (a b : Row). row_cmp a b ≡ Less) (λ (a b : Row). a.id < b.id) (λ a b e. less-from a.id b.id e)
    rows (ascending_pairs row_cmp rows up)

pub ascend-ids : (rows : List Row) → AllPairs (λ (a b : Row). a.id < b.id) rows → IsAscending row_cmp rows
ascend-ids rows all =
    pairs_ascending row_cmp rows
    (AllPairs-weaker (λ (a b : Row). a.id < b.id) (λ (a b : Row). row_cmp a b ≡ Less)
    (λ a b lt. sym (nat_cmp_is a.id b.id Less lt)) rows all)

within-each : (n : ℕ) (rows : List Row) → AreWithin n rows → (row : Row) → IsIn row rows → (1 ≤ row.id) × (row.id < n)
within-each n [] within row m = absurd m
within-each n (r ∷ rows) within row (inl e) =
    subst (λ (x : Row). (1 ≤ x.id) × (x.id < n)) (sym e) (within.0, within.1)
within-each n (r ∷ rows) within row (inr m) = within-each n rows within.2 row m

each-within : (n : ℕ) (rows : List Row) → ((row : Row) → IsIn row rows → (1 ≤ row.id) × (row.id < n))
    → AreWithin n rows
each-within n [] all = tt
each-within n (r ∷ rows) all =
    let here = all r (inl refl) in
    (here.0, here.1, each-within n rows (λ row m. all row (inr m)))

numbers-ascend : (rows : List Row) (n : ℕ) → IsNumbered rows n → NumbersAscend rows n
numbers-ascend rows n numbered = record {
  ascending = ids-ascend rows numbered.ascending;
  within = λ row m. within-each n rows numbered.within row (IsIn-Contains row rows m);
  next = numbered.next;
}

ascend-numbers : (rows : List Row) (n : ℕ) → NumbersAscend rows n → IsNumbered rows n
ascend-numbers rows n numbers = record {
  ascending = ascend-ids rows numbers.ascending;
  within = each-within n rows (λ row m. numbers.within row (Contains-IsIn row rows m));
  next = numbers.next;
}

-- ---- the whole table

table-rules : (schema : SchemaValue) (rows : List Row) (next_id : ℕ) → IsTable schema rows next_id
    → KeepRules schema rows next_id
table-rules schema rows next_id table =
    let meets : meets_schema schema rows ≡ true = table.meets in
    let first = both_hold (list_all (row_meets schema) rows)
    (keys_apart schema.key rows
    && (uniques_apart 0 schema.fields rows && list_all (keeps_self_reference schema.key rows) schema.foreign)) meets in
    let second = both_hold (keys_apart schema.key rows)
    (uniques_apart 0 schema.fields rows && list_all (keeps_self_reference schema.key rows) schema.foreign) first.1 in
    let third = both_hold (uniques_apart 0 schema.fields rows)
    (list_all (keeps_self_reference schema.key rows) schema.foreign) second.1 in
    let each : (row : Row) → Contains rows row → CellsFit schema.fields row.cells × HasNoNull schema.key row =
    λ row m. row-fits schema row (list_all-IsIn (row_meets schema) rows first.0 row (IsIn-Contains row rows m)) in
    record {
      fields = λ row m. (each row m).0;
      keys = record { full = λ row m. (each row m).1; apart = keys-differ schema.key rows second.0 };
      uniques = all-differ schema.fields rows third.0;
      references = references-find schema rows third.1;
      numbers = numbers-ascend rows next_id table.numbered;
    }

rules-table : (schema : SchemaValue) (rows : List Row) (next_id : ℕ) → KeepRules schema rows next_id
    → IsTable schema rows next_id
rules-table schema rows next_id kept = record {
  numbered = ascend-numbers rows next_id kept.numbers;
  meets = meets;
}
  where
    fit : list_all (row_meets schema) rows ≡ true
    fit = IsIn-list_all (row_meets schema) rows
        (λ row m. fits-row schema row (kept.fields row (Contains-IsIn row rows m))
        (kept.keys.full row (Contains-IsIn row rows m)))

    meets : meets_schema schema rows ≡ true
    meets =
        both (list_all (row_meets schema) rows)
        (keys_apart schema.key rows
        && (uniques_apart 0 schema.fields rows && list_all (keeps_self_reference schema.key rows) schema.foreign)) fit
        (both (keys_apart schema.key rows)
        (uniques_apart 0 schema.fields rows && list_all (keeps_self_reference schema.key rows) schema.foreign)
        (differ-keys schema.key rows kept.keys.apart)
        (both (uniques_apart 0 schema.fields rows) (list_all (keeps_self_reference schema.key rows) schema.foreign)
        (differ-all schema.fields rows kept.uniques) (find-references schema rows kept.references)))

pub table_by_rules : (schema : SchemaValue) (rows : List Row) (next_id : ℕ)
    → IsTable schema rows next_id ↔ KeepRules schema rows next_id
table_by_rules schema rows next_id = (table-rules schema rows next_id, rules-table schema rows next_id)

numbered-above : (low n : ℕ) (rows : List Row) → IsAscending row_cmp rows → AreWithin n rows
    → ((row : Row) → IsIn row rows → low < row.id) → ascend_from low n rows ≡ true
numbered-above low n [] up within above = refl
numbered-above low n (row ∷ rows) up within above =
    both (nat_lt low row.id && nat_lt row.id n) (ascend_from row.id n rows)
    (both (nat_lt low row.id) (nat_lt row.id n) (lt_true low row.id (above row (inl refl))) (lt_true row.id n within.1))
    (numbered-above row.id n rows up.1 within.2 (λ r m. less-from row.id r.id (below_in row_cmp row r rows up.0 m)))

is_numbered-holds : (rows : List Row) (n : ℕ) → IsNumbered rows n → is_numbered rows n ≡ true
is_numbered-holds rows n numbered =
    both (nat_le 1 n) (ascend_from 0 n rows) (le_true 1 n numbered.next)
    (numbered-above 0 n rows numbered.ascending numbered.within
    (λ row m. positive row (within-each n rows numbered.within row m)))
  where
    positive : (row : Row) → (1 ≤ row.id) × (row.id < n) → 0 < row.id
    positive row h = omega (arith, h.0)

pub restored_by_rules : (schema : SchemaValue) (rows : List Row) (next_id : ℕ)
    → (is_restorable schema rows next_id ≡ true) ↔ KeepRules schema rows next_id
restored_by_rules schema rows next_id = (to, from)
  where
    to : is_restorable schema rows next_id ≡ true → KeepRules schema rows next_id
    to h =
        let parts = both_hold (is_numbered rows next_id) (meets_schema schema rows) h in
        table-rules schema rows next_id
        (record { numbered = numbered_from rows next_id parts.0; meets = parts.1 })

    from : KeepRules schema rows next_id → is_restorable schema rows next_id ≡ true
    from kept =
        let table : IsTable schema rows next_id = rules-table schema rows next_id kept in
        both (is_numbered rows next_id) (meets_schema schema rows)
        (is_numbered-holds rows next_id table.numbered) table.meets

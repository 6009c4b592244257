-- The results of calls by the record that was read, whether the source is observable or not.
use Rattle.std.proofs.Common.{◌≡◌, ◌⊎◌, ℕ, ◌+◌, true, List, [], ◌∷◌, Result, Ok, Err, IfOk, IfErr, refl, subst, inl}
use Rattle.std.proofs.Common.{inr}
use Rattle.std.specs.Str.{chars, is_utf8}
use Rattle.table_schema.specs.Field.{FieldValue}
use Rattle.table_schema.specs.declared.cell.Cell.{Cell}
use Rattle.typed_csv.specs.declared.fault.LoadFault.{LoadFault}
use Rattle.typed_csv.specs.declared.fault.LoadFault.TheVariants as fault
use Rattle.typed_csv.specs.declared.header.Layout.{Layout}
use Rattle.typed_csv.specs.Faults.{Gives, IsOutside, IsRefused}
use Rattle.typed_csv.specs.Header.{header_layout}
use Rattle.typed_csv.specs.LoaderValue.{IsHeaderFault, IsLayout, IsRowFault}
use Rattle.typed_csv.specs.Records.{is_text}
use Rattle.typed_csv.specs.Rows.{row_reading}

-- An error is that of memory, or that of the reading.
pub refused : {Y : Type 0} (why : LoadFault) (reading : Result Y LoadFault) → IsRefused why reading
    → IsOutside why ⊎ (reading ≡ Err why)
refused fault.OutOfMemory reading given = inl tt
refused other reading given = inr given

-- ---- the header

pub layout_given : (fields : List FieldValue) (names : List (List ℕ)) (read : Result Layout LoadFault)
    → is_text names ≡ true → Gives (λ layout. layout) read (header_layout fields names) → IfOk read (IsLayout fields)
layout_given fields names (Ok layout) text given = (names, rw text given)
layout_given fields names (Err why) text given = tt

pub layout_refused : (fields : List FieldValue) (names : List (List ℕ)) (read : Result Layout LoadFault)
    → is_text names ≡ true → Gives (λ layout. layout) read (header_layout fields names)
    → IfErr read (IsHeaderFault fields)
layout_refused fields names (Ok layout) text given = tt
layout_refused fields names (Err why) text given =
    elim (refused why (header_layout fields names) given)
    [ inl outside ↦ inl outside | inr read ↦ inr (names ∷ [], rw text read) ]

-- a record that isn't UTF-8
abbrev no_text : List (List ℕ)
no_text = (255 ∷ []) ∷ []

pub no_text_header : (fields : List FieldValue) → IsHeaderFault fields (fault.NotUtf8 0)
unfolding is_utf8 chars
no_text_header fields = inr (no_text ∷ [], refl)

-- ---- a row

pub no_text_row : (fields : List FieldValue) (layout : Layout) (given number : ℕ) → number ≡ given + 1
    → IsRowFault fields layout given (fault.NotUtf8 number)
unfolding is_utf8 chars
no_text_row fields layout given number next = rw next (inr (inr (no_text, refl)))

refused_row : (fields : List FieldValue) (layout : Layout) (given : ℕ) (texts : List (List ℕ)) (why : LoadFault)
    → IsRefused why (row_reading fields layout (given + 1) texts) → IsRowFault fields layout given why
refused_row fields layout given texts why is =
    elim (refused why (row_reading fields layout (given + 1) texts) is)
    [ inl outside ↦ inl outside | inr read ↦ inr (inr (texts, read)) ]

pub row_refused : {X : Type 0} (fields : List FieldValue) (layout : Layout) (given : ℕ) (texts : List (List ℕ))
    (why : LoadFault) (answer : Result X LoadFault) (reading : Result (List Cell) LoadFault) →
    answer ≡ Err why → IsRefused why reading
    → reading ≡ row_reading fields layout (given + 1) texts
    → IfErr answer (IsRowFault fields layout given)
row_refused fields layout given texts why answer reading same e is =
    rw same (refused_row fields layout given texts why (subst (IsRefused why) is e))

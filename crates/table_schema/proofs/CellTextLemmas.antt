-- Texts read as cells if and only if they have the form of them, and fail otherwise.
use Rattle.std.proofs.Common.{◌≡◌, ◌⊎◌, inl, inr, ℕ, suc, true, false, ◌||◌, not, cond, refl, sym, ap}
use Rattle.std.proofs.Common.{◌∙◌, subst, arith, Bool, List, [], ◌∷◌}
use Rattle.std.specs.Prelude.{◌↔◌, Option, Some, None, Ok, Err, Contains, option_map}
use Rattle.std.specs.Str.{bytes_eq, chars}
use Rattle.std.proofs.lemmas.Bool.{false_from_ne_true, cond-true, cond-false}
use Rattle.std.proofs.lemmas.List.Folds.{list_any_at}
use Rattle.std.proofs.lemmas.Slice.Eq.{bytes_eq-Decides}
use Rattle.lexical_forms.proofs.FieldFormLemmas.{integer_where_one, number_where_one}
use Rattle.lexical_forms.proofs.ReadingLemmas.{map-some}
use Rattle.lexical_forms.specs.Number.{integer_reading, number_reading}
use Rattle.portal_base.specs.Calendar.{date_reading, time_reading, year_reading, yearmonth_reading}
use Rattle.table_schema.specs.Stamp.{stamp_reading}
use Rattle.table_schema.specs.Constraint.{constraint_fault, keeps_length, keeps_range, keeps_enum}
use Rattle.table_schema.specs.Field.{FieldValue}
use Rattle.table_schema.specs.Reading.{text_reading, null_reading, kept, cell_reading, Reads, Fails}
use Rattle.table_schema.specs.Texts.{IsTruthText, IsCellText, IsSpelled, IsMissing, Keeps, IsReading, IsFailure}
use Rattle.table_schema.specs.Texts.IsCellText.{string, integer, number, boolean, date, time, datetime}
use Rattle.table_schema.specs.Texts.IsCellText.{year as in_year, yearmonth as in_month}
use Rattle.table_schema.specs.Texts.IsFailure.{required, not_of_type, length as too_long, range, not_in_enum}
use Rattle.table_schema.specs.Texts.IsReading.{null, value}
use Rattle.table_schema.specs.Texts.IsTruthText.{yes, no}
use Rattle.table_schema.specs.Truth.{is_among, truth_reading}
use Rattle.table_schema.specs.declared.cell.Cell.{Cell}
use Rattle.table_schema.specs.declared.cell.Cell.TheVariants as cell
use Rattle.table_schema.specs.declared.cell.CellFault.{CellFault}
use Rattle.table_schema.specs.declared.cell.CellFault.TheVariants as fault
use Rattle.table_schema.specs.declared.constraint.Constraints.{Constraints}
use Rattle.table_schema.specs.declared.form.Form.{Form}
use Rattle.table_schema.specs.declared.form.Form.TheVariants as form
use Rattle.table_schema.specs.declared.form.Truths.{Truths}
use Rattle.table_schema.proofs.TextLemmas.{date_where_of_form, time_where_of_form, stamp_where_of_form}
use Rattle.table_schema.proofs.TextLemmas.{year_where_of_form, month_where_of_form}

-- ---- membership in a list

among-Contains : (texts : List (List ℕ)) (text : List ℕ) → is_among texts text ≡ true → Contains texts text
among-Contains [] text h = cc
among-Contains (t ∷ texts) text h = by_test (among-Contains texts text) (bytes_eq t text) refl h
  where
    by_test : (is_among texts text ≡ true → Contains texts text) → (b : Bool) → bytes_eq t text ≡ b
        → (b || is_among texts text) ≡ true → Contains (t ∷ texts) text
    by_test later true e h = (0, omega arith, (bytes_eq-Decides t text).0 e)
    by_test later false e h = let found = later h in (suc found.0, omega (arith, found.1), found.2)

Contains-among : (texts : List (List ℕ)) (text : List ℕ) → Contains texts text → is_among texts text ≡ true
Contains-among texts text h =
    list_any_at (λ t. bytes_eq t text) texts h.0 text h.1 ((bytes_eq-Decides _ text).1 h.2)

other-among : (texts : List (List ℕ)) (text : List ℕ) → (Contains texts text → ⊥) → is_among texts text ≡ false
other-among texts text h = false_from_ne_true (is_among texts text) (λ e. h (among-Contains texts text e))

pub among-other : (texts : List (List ℕ)) (text : List ℕ) → is_among texts text ≡ false → Contains texts text → ⊥
among-other texts text e h = let found = Contains-among texts text h in cc

-- ---- truth values

read_truth : (truths : Truths) (text : List ℕ) (b : Bool)
    → truth_reading truths.true_values truths.false_values text ≡ Some b → IsTruthText truths text b
read_truth truths text b e =
    by_lists (is_among truths.true_values text) (is_among truths.false_values text) refl refl e
  where
    by_lists : (t f : Bool) → is_among truths.true_values text ≡ t → is_among truths.false_values text ≡ f
        → cond t (Some true) (cond f (Some false) None) ≡ Some b → IsTruthText truths text b
    by_lists true f h k e =
        let same : true ≡ b = cc (e) in
        subst (IsTruthText truths text) same (yes text (among-Contains truths.true_values text h))
    by_lists false true h k e =
        let same : false ≡ b = cc (e) in
        subst (IsTruthText truths text) same
        (no text (among-other truths.true_values text h) (among-Contains truths.false_values text k))
    by_lists false false h k e = cc (e)

truth_reads : (truths : Truths) (text : List ℕ) (b : Bool) → IsTruthText truths text b
    → truth_reading truths.true_values truths.false_values text ≡ Some b
truth_reads truths _ _ (yes text h) = cond-true _ _ _ (Contains-among truths.true_values text h)
truth_reads truths _ _ (no text h k) =
    cond-false _ _ _ (other-among truths.true_values text h)
    ∙ cond-true _ _ _ (Contains-among truths.false_values text k)

-- ---- cells by type

read_cell_text : (f : Form) (text : List ℕ) (c : Cell) → IsSpelled f → text_reading f text ≡ Some c
    → IsCellText f text c
read_cell_text form.Text text c spelled e =
    let same : cell.Text text ≡ c = cc (e) in
    subst (IsCellText form.Text text) same (string text)
read_cell_text (form.Integer bare) text c spelled e =
    let found = map-some cell.Int (integer_reading bare (chars text)) c e in
    subst (IsCellText (form.Integer bare) text) found.2
    (integer bare text found.0 ((integer_where_one bare (chars text) found.0).0 found.1))
read_cell_text (form.Number spelling) text c spelled e =
    let found = map-some cell.Number (number_reading spelling (chars text)) c e in
    subst (IsCellText (form.Number spelling) text) found.2
    (number spelling text found.0 ((number_where_one spelling (chars text) found.0 spelled).0 found.1))
read_cell_text (form.Boolean truths) text c spelled e =
    let found = map-some cell.Truth (truth_reading truths.true_values truths.false_values text) c e in
    subst (IsCellText (form.Boolean truths) text) found.2
    (boolean truths text found.0 (read_truth truths text found.0 found.1))
read_cell_text form.Date text c spelled e =
    let found = map-some cell.Date (date_reading text) c e in
    subst (IsCellText form.Date text) found.2 (date text found.0 ((date_where_of_form text found.0).0 found.1))
read_cell_text form.Time text c spelled e =
    let found = map-some cell.Time (time_reading text) c e in
    subst (IsCellText form.Time text) found.2 (time text found.0 ((time_where_of_form text found.0).0 found.1))
read_cell_text form.Datetime text c spelled e =
    let found = map-some cell.Stamp (stamp_reading text) c e in
    subst (IsCellText form.Datetime text) found.2
    (datetime text found.0 ((stamp_where_of_form text found.0).0 found.1))
read_cell_text form.Year text c spelled e =
    let found = map-some cell.Year (year_reading text) c e in
    subst (IsCellText form.Year text) found.2 (in_year text found.0 ((year_where_of_form text found.0).0 found.1))
read_cell_text form.YearMonth text c spelled e =
    let found = map-some (λ (m : ℕ × ℕ). cell.YearMonth m.0 m.1) (yearmonth_reading text) c e in
    subst (IsCellText form.YearMonth text) found.2
    (in_month text found.0.0 found.0.1 ((month_where_of_form text found.0.0 found.0.1).0 found.1))

cell_text_reads : (f : Form) (text : List ℕ) (c : Cell) → IsSpelled f → IsCellText f text c
    → text_reading f text ≡ Some c
cell_text_reads _ _ _ spelled (string text) = refl
cell_text_reads _ _ _ spelled (integer bare text z h) =
    ap (option_map cell.Int) ((integer_where_one bare (chars text) z).1 h)
cell_text_reads _ _ _ spelled (number spelling text z h) =
    ap (option_map cell.Number) ((number_where_one spelling (chars text) z spelled).1 h)
cell_text_reads _ _ _ spelled (boolean truths text b h) = ap (option_map cell.Truth) (truth_reads truths text b h)
cell_text_reads _ _ _ spelled (date text day h) = ap (option_map cell.Date) ((date_where_of_form text day).1 h)
cell_text_reads _ _ _ spelled (time text second h) = ap (option_map cell.Time) ((time_where_of_form text second).1 h)
cell_text_reads _ _ _ spelled (datetime text z h) = ap (option_map cell.Stamp) ((stamp_where_of_form text z).1 h)
cell_text_reads _ _ _ spelled (in_year text n h) = ap (option_map cell.Year) ((year_where_of_form text n).1 h)
cell_text_reads _ _ _ spelled (in_month text y m h) =
    ap (option_map (λ (x : ℕ × ℕ). cell.YearMonth x.0 x.1)) ((month_where_of_form text y m).1 h)

pub cell_where_of_form : (f : Form) (text : List ℕ) (c : Cell) → IsSpelled f
    → (text_reading f text ≡ Some c) ↔ IsCellText f text c
cell_where_of_form f text c spelled = (read_cell_text f text c spelled, cell_text_reads f text c spelled)

-- ---- constraints

not-true : (b : Bool) → not b ≡ true → b ≡ false
not-true true e = cc
not-true false e = refl

-- the first broken constraint, by the three tests
abbrev first_broken : Bool → Bool → Bool → Option CellFault
first_broken l r a =
    cond (not l) (Some fault.Length) (cond (not r) (Some fault.Range) (cond (not a) (Some fault.NotInEnum) None))

fault_is : (constraints : Constraints) (c : Cell)
    → constraint_fault constraints c
    ≡ first_broken (keeps_length constraints c) (keeps_range constraints c) (keeps_enum constraints c)
unfolding constraint_fault
fault_is constraints c = refl

keeps-from : (constraints : Constraints) (c : Cell) → constraint_fault constraints c ≡ None → Keeps constraints c
keeps-from constraints c e =
    by_tests (keeps_length constraints c) (keeps_range constraints c) (keeps_enum constraints c) refl refl refl
    (sym (fault_is constraints c) ∙ e)
  where
    by_tests : (l r a : Bool) → keeps_length constraints c ≡ l → keeps_range constraints c ≡ r
        → keeps_enum constraints c ≡ a → first_broken l r a ≡ None → Keeps constraints c
    by_tests true true true h k i e = record { length = h; range = k; allowed = i }
    by_tests true true false h k i e = cc (e)
    by_tests true false a h k i e = cc (e)
    by_tests false r a h k i e = cc (e)

broken : (constraints : Constraints) (c : Cell) (l r a : Bool) → keeps_length constraints c ≡ l
    → keeps_range constraints c ≡ r → keeps_enum constraints c ≡ a → constraint_fault constraints c ≡ first_broken l r a
broken constraints c l r a h k i =
    fault_is constraints c ∙ ap (λ x. first_broken x (keeps_range constraints c) (keeps_enum constraints c)) h
    ∙ ap (λ x. first_broken l x (keeps_enum constraints c)) k ∙ ap (first_broken l r) i

kept-some : (constraints : Constraints) (c : Cell) → constraint_fault constraints c ≡ None
    → kept constraints (Some c) ≡ Ok c
kept-some constraints c e = rw e refl

kept-fault : (constraints : Constraints) (c : Cell) (f : CellFault) → constraint_fault constraints c ≡ Some f
    → kept constraints (Some c) ≡ Err f
kept-fault constraints c f e = rw e refl

-- ---- in a field

null_reading-ok : (r k : Bool) (c : Cell) → null_reading (r || k) ≡ Ok c → (r ≡ false) × (k ≡ false) × (cell.Null ≡ c)
null_reading-ok true k c e = cc (e)
null_reading-ok false true c e = cc (e)
null_reading-ok false false c e = (refl, refl, cc (e))

null_reading-err : (r k : Bool) (f : CellFault) → null_reading (r || k) ≡ Err f
    → ((r ≡ true) ⊎ (k ≡ true)) × (fault.Required ≡ f)
null_reading-err true k f e = (inl refl, cc (e))
null_reading-err false true f e = (inr refl, cc (e))
null_reading-err false false f e = cc (e)

-- the reading of a text, by whether it is a missing value
missing_reads : (field : FieldValue) (text : List ℕ) → IsMissing field text
    → cell_reading field text ≡ null_reading (field.constraints.required || field.in_key)
missing_reads field text h = cond-true _ _ _ (Contains-among field.missing text h)

given_reads : (field : FieldValue) (text : List ℕ) → (IsMissing field text → ⊥)
    → cell_reading field text ≡ kept field.constraints (text_reading field.form text)
given_reads field text h = cond-false _ _ _ (other-among field.missing text h)

by_missing : {P : Type 0} (field : FieldValue) (text : List ℕ) → (IsMissing field text → P)
    → ((IsMissing field text → ⊥) → P) → P
by_missing {P} field text here other = by_test (is_among field.missing text) refl
  where
    by_test : (b : Bool) → is_among field.missing text ≡ b → P
    by_test true e = here (among-Contains field.missing text e)
    by_test false e = other (among-other field.missing text e)

kept-ok : (constraints : Constraints) (read : Option Cell) (c : Cell) → kept constraints read ≡ Ok c
    → (read ≡ Some c) × Keeps constraints c
kept-ok constraints None c e = cc (e)
kept-ok constraints (Some d) c e = by_fault (constraint_fault constraints d) refl
  where
    by_fault : (o : Option CellFault) → constraint_fault constraints d ≡ o
        → (◌≡◌ {A = Option Cell} (Some d) (Some c)) × Keeps constraints c
    by_fault None h =
        let there = kept-some constraints d h in
        let same : d ≡ c = cc (there, e) in
        (ap Some same, subst (Keeps constraints) same (keeps-from constraints d h))
    by_fault (Some f) h = let there = kept-fault constraints d f h in cc (there, e)

read_cell : (field : FieldValue) (text : List ℕ) (c : Cell) → IsSpelled field.form → Reads field text c
    → IsReading field text c
read_cell field text c spelled e = by_missing field text
    (λ here.
    let found = null_reading-ok field.constraints.required field.in_key c (sym (missing_reads field text here) ∙ e) in
    subst (IsReading field text) found.2 (null here found.0 found.1))
    (λ given.
    let found = kept-ok field.constraints (text_reading field.form text) c (sym (given_reads field text given) ∙ e) in
    value c given (read_cell_text field.form text c spelled found.0) found.1)

cell_reads : (field : FieldValue) (text : List ℕ) (c : Cell) → IsSpelled field.form → IsReading field text c
    → Reads field text c
cell_reads field text _ spelled (null here r k) =
    missing_reads field text here ∙ ap (λ b. null_reading (b || field.in_key)) r ∙ ap (λ b. null_reading b) k
cell_reads field text _ spelled (value c given form keeps) =
    given_reads field text given ∙ ap (kept field.constraints) (cell_text_reads field.form text c spelled form)
    ∙ kept-some field.constraints c (broken field.constraints c true true true keeps.length keeps.range keeps.allowed)

pub reads_where_of_form : (field : FieldValue) (text : List ℕ) (c : Cell) → IsSpelled field.form
    → Reads field text c ↔ IsReading field text c
reads_where_of_form field text c spelled = (read_cell field text c spelled, cell_reads field text c spelled)

-- ---- the faults of texts

read_fault : (field : FieldValue) (text : List ℕ) (f : CellFault) → IsSpelled field.form → Fails field text f
    → IsFailure field text f
read_fault field text f spelled e = by_missing field text
    (λ here.
    let found = null_reading-err field.constraints.required field.in_key f (sym (missing_reads field text here) ∙ e) in
    subst (IsFailure field text) found.1 (required here found.0))
    (λ given. by_read given (text_reading field.form text) refl (sym (given_reads field text given) ∙ e))
  where
    by_tests : (IsMissing field text → ⊥) → (c : Cell) → IsCellText field.form text c → (l r a : Bool)
        → keeps_length field.constraints c ≡ l → keeps_range field.constraints c ≡ r
        → keeps_enum field.constraints c ≡ a → kept field.constraints (Some c) ≡ Err f → IsFailure field text f
    by_tests given c form false r a h k i e =
        let there = kept-fault field.constraints c fault.Length (broken field.constraints c false r a h k i) in
        let same : fault.Length ≡ f = cc (there, e) in
        subst (IsFailure field text) same (too_long c given form h)
    by_tests given c form true false a h k i e =
        let there = kept-fault field.constraints c fault.Range (broken field.constraints c true false a h k i) in
        let same : fault.Range ≡ f = cc (there, e) in
        subst (IsFailure field text) same (range c given form h k)
    by_tests given c form true true false h k i e =
        let there = kept-fault field.constraints c fault.NotInEnum (broken field.constraints c true true false h k i) in
        let same : fault.NotInEnum ≡ f = cc (there, e) in
        subst (IsFailure field text) same (not_in_enum c given form h k i)
    by_tests given c form true true true h k i e =
        let there = kept-some field.constraints c (broken field.constraints c true true true h k i) in cc (there, e)

    by_read : (IsMissing field text → ⊥) → (o : Option Cell) → text_reading field.form text ≡ o
        → kept field.constraints (text_reading field.form text) ≡ Err f → IsFailure field text f
    by_read given None h e =
        let there : kept field.constraints None ≡ Err f = ap (kept field.constraints) (sym h) ∙ e in
        let same : fault.NotOfType ≡ f = cc (there) in
        subst (IsFailure field text) same
        (not_of_type given
        (λ c form. let read = cell_text_reads field.form text c spelled form in cc (read, h)))
    by_read given (Some c) h e =
        by_tests given c (read_cell_text field.form text c spelled h) (keeps_length field.constraints c)
        (keeps_range field.constraints c) (keeps_enum field.constraints c) refl refl refl
        (ap (kept field.constraints) (sym h) ∙ e)

null_fails : (r k : Bool) → (r ≡ true) ⊎ (k ≡ true) → null_reading (r || k) ≡ Err fault.Required
null_fails true k h = refl
null_fails false true h = refl
null_fails false false (inl e) = cc (e)
null_fails false false (inr e) = cc (e)

-- a text of a cell that breaks a constraint
broken_fails : (field : FieldValue) (text : List ℕ) (c : Cell) (f : CellFault) → IsSpelled field.form
    → (IsMissing field text → ⊥) → IsCellText field.form text c → constraint_fault field.constraints c ≡ Some f
    → Fails field text f
broken_fails field text c f spelled given form e =
    given_reads field text given ∙ ap (kept field.constraints) (cell_text_reads field.form text c spelled form)
    ∙ kept-fault field.constraints c f e

fault_reads : (field : FieldValue) (text : List ℕ) (f : CellFault) → IsSpelled field.form → IsFailure field text f
    → Fails field text f
fault_reads field text _ spelled (required here h) =
    missing_reads field text here ∙ null_fails field.constraints.required field.in_key h
fault_reads field text _ spelled (not_of_type given none) =
    given_reads field text given ∙ by_read (text_reading field.form text) refl
  where
    by_read : (o : Option Cell) → text_reading field.form text ≡ o
        → kept field.constraints (text_reading field.form text) ≡ Err fault.NotOfType
    by_read None h = ap (kept field.constraints) h
    by_read (Some c) h = absurd (none c (read_cell_text field.form text c spelled h))
fault_reads field text _ spelled (too_long c given form h) =
    broken_fails field text c fault.Length spelled given form
    (broken field.constraints c false (keeps_range field.constraints c) (keeps_enum field.constraints c) h refl refl)
fault_reads field text _ spelled (range c given form h k) =
    broken_fails field text c fault.Range spelled given form
    (broken field.constraints c true false (keeps_enum field.constraints c) h k refl)
fault_reads field text _ spelled (not_in_enum c given form h k i) =
    broken_fails field text c fault.NotInEnum spelled given form (broken field.constraints c true true false h k i)

pub fails_where_of_form : (field : FieldValue) (text : List ℕ) (f : CellFault) → IsSpelled field.form
    → Fails field text f ↔ IsFailure field text f
fails_where_of_form field text f spelled = (read_fault field text f spelled, fault_reads field text f spelled)

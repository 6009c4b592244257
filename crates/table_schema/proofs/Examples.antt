-- The definitions on worked examples.
use Rattle.std.proofs.Common.{◌≡◌, inr, true, false, [], ◌∷◌, Some, None, refl, sym, arith, lit<, lit≤, pos, ◌+ℤ◌, ◌*ℤ◌}
use Rattle.std.specs.Prelude.{codes, Ok, Err}
use Rattle.std.proofs.lemmas.Int.{ints}
use Rattle.std.proofs.lemmas.Str.{chars-IsAscii}
use Rattle.lexical_forms.proofs.NumberTextLemmas.{IsAscii-cons, IsAscii-nil}
use Rattle.jiff_core.specs.Calendar.{days_from_civil}
use Rattle.lexical_forms.specs.Forms.{IsIntegerText}
use Rattle.lexical_forms.specs.Forms.IsSign.{none}
use Rattle.table_schema.specs.declared.cell.Cell.TheVariants as cell
use Rattle.table_schema.specs.declared.cell.CellFault.TheVariants.{Required}
use Rattle.table_schema.specs.declared.form.Form.TheVariants as form
use Rattle.table_schema.specs.declared.form.Truths.{Truths}
use Rattle.table_schema.proofs.CellTextLemmas.{among-other}
use Rattle.portal_base.specs.Calendar.{date_reading, time_reading, yearmonth_reading}
use Rattle.table_schema.specs.Descriptor.{no_constraints}
use Rattle.table_schema.specs.Field.{FieldValue}
use Rattle.table_schema.specs.Reading.{cell_reading}
use Rattle.table_schema.specs.Texts.{IsDateText, IsTimeText, IsStampText, IsYearText, IsYearMonthText, IsTruthText}
use Rattle.table_schema.specs.Texts.{IsCellText, IsReading, IsFailure}
use Rattle.table_schema.specs.Texts.IsCellText.{integer}
use Rattle.table_schema.specs.Texts.IsFailure.{required}
use Rattle.table_schema.specs.Texts.IsReading.{null, value}
use Rattle.table_schema.specs.Texts.IsTruthText.{yes}
use Rattle.table_schema.specs.Truth.{truth_reading, default_trues, default_falses}

-- ---- dates and times

no_leap_day : date_reading (codes "2100-02-29") ≡ None
unfolding date_reading
no_leap_day = refl

the_last_second : time_reading (codes "23:59:59") ≡ Some 86399
unfolding time_reading
the_last_second = refl

no_hour_24 : time_reading (codes "24:00:00") ≡ None
unfolding time_reading
no_hour_24 = refl

no_month_13 : yearmonth_reading (codes "2024-13") ≡ None
unfolding yearmonth_reading
no_month_13 = refl

-- ---- truth values

a_truth : truth_reading default_trues default_falses (codes "TRUE") ≡ Some true
a_truth = refl

in_both_lists : truth_reading (codes "x" ∷ []) (codes "x" ∷ []) (codes "x") ≡ Some true
in_both_lists = refl

no_truth : truth_reading default_trues default_falses (codes "yes") ≡ None
no_truth = refl

-- ---- a field with the one missing value `-`

abbrev optional_field : FieldValue
optional_field = record {
  name = codes "n";
  form = form.Integer true;
  constraints = no_constraints;
  missing = codes "-" ∷ [];
  in_key = false;
}

a_missing_value : cell_reading optional_field (codes "-") ≡ Ok cell.Null
a_missing_value = refl

a_missing_value_in_the_key : cell_reading (record optional_field { in_key = true }) (codes "-") ≡ Err Required
a_missing_value_in_the_key = refl

-- ---- the forms, by hand

-- `2024-02-29`, a day that the calendar has
a_leap_day : IsDateText (codes "2024-02-29") (days_from_civil (pos 2024) 2 29)
a_leap_day = record { year = 2024; month = 2; date = 29; cut = refl; four = lit≤ tt; there = refl; value = refl }

-- `23:59:59`, the last second
a_last_second : IsTimeText (codes "23:59:59") 86399
a_last_second = record {
  hour = 23;
  minute = 59;
  second = 59;
  cut = refl;
  hours = lit< tt;
  minutes = lit< tt;
  in_minute = lit< tt;
  value = refl;
}

-- these two, with a space between them and `Z` after them
a_stamp : IsStampText (codes "2024-02-29 23:59:59Z") (days_from_civil (pos 2024) 2 29 *ℤ pos 86400 +ℤ pos 86399)
a_stamp = record {
  date = codes "2024-02-29";
  between = codes " ";
  time = codes "23:59:59";
  zone = codes "Z";
  day = days_from_civil (pos 2024) 2 29;
  second = 86399;
  cut = refl;
  dated = a_leap_day;
  marked = inr refl;
  timed = a_last_second;
  zoned = inr refl;
  value = refl;
}

a_year : IsYearText (codes "0007") 7
a_year = record { cut = refl; four = lit≤ tt }

a_month : IsYearMonthText (codes "2024-11") 2024 11
a_month = record { cut = refl; four = lit≤ tt; first = lit≤ tt; last = lit≤ tt }

-- a text in both lists is true
abbrev one_text : Truths
one_text = record { true_values = codes "x" ∷ []; false_values = codes "x" ∷ [] }

a_true_text : IsTruthText one_text (codes "x") true
a_true_text = yes (codes "x") (0, lit< tt, refl)

-- the integer `7` in the field above, and the missing value in it
abbrev seven_text : IsIntegerText (codes "7") (pos 7)
seven_text = record {
  sign = [];
  negative = false;
  digits = codes "7";
  cut = refl;
  signs = none;
  some = refl;
  value = refl;
}

seven : IsCellText (form.Integer true) (codes "7") (cell.Int (pos 7))
seven = integer true (codes "7") (pos 7) (record {
  middle = codes "7";
  part = sym (chars-IsAscii (codes "7") (IsAscii-cons 55 [] (lit< tt) IsAscii-nil));
  form = seven_text;
  range = record { low = omega (arith, ints); high = omega (arith, ints) };
})

a_seven_is_read : IsReading optional_field (codes "7") (cell.Int (pos 7))
a_seven_is_read = value (cell.Int (pos 7)) (among-other optional_field.missing (codes "7") refl) seven
    (record { length = refl; range = refl; allowed = refl })

a_dash_is_null : IsReading optional_field (codes "-") cell.Null
a_dash_is_null = null (0, lit< tt, refl) refl refl

-- In the key the missing value is an error.
a_dash_is_missed : IsFailure (record optional_field { in_key = true }) (codes "-") Required
a_dash_is_missed = required (0, lit< tt, refl) (inr refl)
